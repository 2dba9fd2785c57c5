-- The tallies of a plan that the tables have room for are below 2^32, because a rule has at most 512 terms of at most 1,000,000: so their words in bytes lose nothing.
use Prim.Native.Nat.{ℕ, ◌+◌, ◌*◌, ◌≤◌, ◌<◌}
use native.Mathlib.Omega.{arith}
use mathlib.Core.Path.{◌≡◌, sym, ◌∙◌}
use mathlib.Core.Bool.{Bool, true}
use mathlib.Core.List.{List, [], ◌∷◌, ◌++◌, map}
use lib.Dec.{T}
use lib.ListN.{length, length-append}
use Rattle.plpb.specs.Lists.{all, count, concat, sum_by}
use Rattle.plpb.specs.Plan.{Term, Rule, Clause, Plan, Assignment, rule_holds, rising}
use Rattle.plpb.specs.Normal.{size, K, P}
use Rattle.plpb.specs.Tallies.{rules_of, unsatisfied, fresh_count}
use Rattle.plpb.proofs.Lists.{all_and, all_concat, count_le}
use Rattle.plpb.proofs.Normal.{P_at_most_K}
use Rattle.words.proofs.Words.{Below, below_nil, below_cons, below_append}
use Rattle.format.specs.Limits.{rule_lawful, roomy, term_within}
use Rattle.format.specs.Tables.{pad_to}
use Rattle.format.proofs.Bools.{and_left, and_right}
use Rattle.format.proofs.Lawful.{weight_small, terms_short, rule_parts, clause_lawful, RoomyPlan, roomy_parts}
use Rattle.tallies.specs.Layout.{tally_order, tally_words}
use Rattle.tallies.proofs.Order.{padded}
use Rattle.format.specs.Layout.{clause_room, rule_room}

pub K_small : (n : ℕ) (ts : List Term) → all (term_within n) ts ≡ true → K ts ≤ 1_000_000 * length ts
unfolding K sum_by all term_within size
K_small n [] h = omega arith
K_small n (t ∷ ts) h = omega (arith, weight_small t.weight (and_right _ _ (and_left _ _ h)), K_small n ts (and_right _ _ h))

pub P_small : (n : ℕ) (a : Assignment) (r : Rule) → n ≤ 512 → rule_lawful n r ≡ true → P a r.terms ≤ 512_000_000
P_small n a r h e =
    let q = (rule_parts n r e).terms in
    omega (arith, P_at_most_K a r.terms, K_small n r.terms q.within, terms_short n 0 r.terms (unfold rising in q.rise) q.within (omega arith))

pub rules_lawful : (p : Plan) → RoomyPlan p → all (rule_lawful p.variables) (rules_of p) ≡ true
unfolding clause_lawful rules_of
rules_lawful p q = all_concat (rule_lawful p.variables) p.clauses ∙ and_right _ _ (sym (all_and _ _ p.clauses) ∙ q.clauses)

below_rules : (b : ℕ) (q : Rule → Bool) (f : Rule → ℕ) → 0 < b → ((r : Rule) → q r ≡ true → f r < b) → (rs : List Rule) → all q rs ≡ true → Below b (map f rs)
unfolding all
below_rules b q f z h [] e = below_nil b z
below_rules b q f z h (r ∷ rs) e = below_cons b (f r) (map f rs) (h r (and_left _ _ e)) (below_rules b q f z h rs (and_right _ _ e))

below_clauses : (b : ℕ) (f : Clause → ℕ) → ((c : Clause) → f c ≤ length c) → (cs : List Clause) → length (concat cs) < b → Below b (map f cs)
unfolding concat
below_clauses b f h [] e = below_nil b e
below_clauses b f h (c ∷ cs) e =
    let s : length c + length (concat cs) < b = rw length-append at e in
    below_cons b (f c) (map f cs) (omega (arith, h c)) (below_clauses b f h cs (omega arith))

below_pad_to : (b k : ℕ) (ws : List ℕ) → Below b ws → Below b (pad_to k ws)
below_pad_to b k ws h i = rw (padded 0 ws k i) (h i)

module _ (p : Plan) (t : T (roomy p)) (a : Assignment) where
  rules_below : Below 4_294_967_296 (fresh_count p a).true_weights
  unfolding fresh_count
  rules_below =
      below_rules 4_294_967_296 (rule_lawful p.variables) (λ r. P a r.terms) (omega arith)
      (λ r e. omega (arith, P_small p.variables a r (roomy_parts p t).high e)) (rules_of p) (rules_lawful p (roomy_parts p t))

  clauses_below : Below 4_294_967_296 (fresh_count p a).rules_holding
  unfolding fresh_count rules_of
  clauses_below =
      below_clauses 4_294_967_296 (count (rule_holds a)) (count_le (rule_holds a)) p.clauses (omega (arith, (roomy_parts p t).rule_count))

  total_below : (fresh_count p a).clauses_unsatisfied < 4_294_967_296
  unfolding fresh_count
  total_below = omega (arith, count_le (unsatisfied a) p.clauses, (roomy_parts p t).clause_count)

  pub fresh_below : Below 4_294_967_296 (tally_words (fresh_count p a))
  unfolding tally_words tally_order
  fresh_below =
      below_append 4_294_967_296 (pad_to rule_room (fresh_count p a).true_weights) (pad_to clause_room (fresh_count p a).rules_holding ++ ((fresh_count p a).clauses_unsatisfied ∷ []))
      (below_pad_to 4_294_967_296 rule_room (fresh_count p a).true_weights rules_below)
      (below_append 4_294_967_296 (pad_to clause_room (fresh_count p a).rules_holding) ((fresh_count p a).clauses_unsatisfied ∷ [])
      (below_pad_to 4_294_967_296 clause_room (fresh_count p a).rules_holding clauses_below)
      (below_cons 4_294_967_296 (fresh_count p a).clauses_unsatisfied [] total_below (below_nil 4_294_967_296 (omega arith))))
