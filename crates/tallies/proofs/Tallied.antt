-- The words of a fresh count, one by one: P of a rule, how many rules of a clause hold, how many clauses hold no rule, and 0.
-- Assumes nothing.
use Prim.Native.Nat.{ℕ, zero, suc, ◌≤◌, ◌<◌}
use native.Mathlib.Omega.{arith}
use mathlib.Core.Path.{◌≡◌, refl, ◌∙◌}
use mathlib.Core.List.{List, [], ◌∷◌, map}
use lib.Dec.{T}
use lib.ListN.{length, get_or, take, length-map, get_or-eq_default}
use Rattle.plpb.specs.Lists.{count}
use Rattle.plpb.specs.Plan.{Rule, Plan, Assignment, rule_holds}
use Rattle.plpb.specs.Normal.{P}
use Rattle.plpb.specs.Tallies.{rules_of, unsatisfied, fresh_count}
use Rattle.words.specs.Words.{word_at}
use Rattle.words.proofs.Words.{Below, words_determine, words_read}
use Rattle.format.specs.Limits.{roomy}
use Rattle.tallies.specs.Layout.{tally_size, tally_words, tally_bytes, tally_word}
use Rattle.tallies.proofs.TallyBytes.{Fits, roomy_fits, fresh_rules, fresh_clauses, length_fresh_words}
use Rattle.tallies.proofs.Order.{order_rule, order_clause, order_whole}
use Rattle.tallies.proofs.Exact.{fresh_below}
use Rattle.format.specs.Layout.{clause_room, holding_at, rule_room, tally_word_count, unsatisfied_at}

-- An element of a mapped list, inside it.
pub get_d_map : {A B : Type 0} (f : A → B) (xs : List A) (i : ℕ) (d : A) (e : B) → i < length xs → get_or (map f xs) i e ≡ f (get_or xs i d)
get_d_map f [] i d e h = absurd (omega arith)
get_d_map f (x ∷ xs) zero d e h = refl
get_d_map f (x ∷ xs) (suc i) d e h = get_d_map f xs i d e (omega arith)

module _ (p : Plan) (fits : Fits p) (a : Assignment) where
  pub weights_at : (i : ℕ) → i < rule_room → tally_word p a i ≡ get_or (fresh_count p a).true_weights i 0
  unfolding tally_word tally_words
  weights_at i h = order_rule 0 _ _ _ (fresh_rules p fits a) (fresh_clauses p fits a) i h

  pub holding_at_lem : (c : ℕ) → c < clause_room → tally_word p a (holding_at c) ≡ get_or (fresh_count p a).rules_holding c 0
  unfolding tally_word tally_words
  holding_at_lem c h = order_clause 0 _ _ _ (fresh_rules p fits a) (fresh_clauses p fits a) c h

  pub rule_word : (r : ℕ) (d : Rule) → r < length (rules_of p) → tally_word p a r ≡ P a (get_or (rules_of p) r d).terms
  unfolding fresh_count
  rule_word r d h = weights_at r (omega (arith, fits.rules)) ∙ get_d_map (λ q. P a q.terms) (rules_of p) r d 0 h

  pub clause_word : (c : ℕ) → c < length p.clauses → tally_word p a (holding_at c) ≡ count (rule_holds a) (get_or p.clauses c [])
  unfolding fresh_count
  clause_word c h = holding_at_lem c (omega (arith, fits.clauses)) ∙ get_d_map (count (rule_holds a)) p.clauses c [] 0 h

  pub total_word : tally_word p a unsatisfied_at ≡ count (unsatisfied a) p.clauses
  unfolding tally_word tally_words fresh_count
  total_word = order_whole 0 _ _ _ (fresh_rules p fits a) (fresh_clauses p fits a)

  pub unused_rule : (i : ℕ) → length (rules_of p) ≤ i → i < rule_room → tally_word p a i ≡ 0
  unfolding fresh_count
  unused_rule i h k =
      weights_at i k ∙ get_or-eq_default (map (λ r. P a r.terms) (rules_of p)) 0 (rw (length-map (rules_of p) (λ r. P a r.terms)) h)

  pub unused_clause : (c : ℕ) → length p.clauses ≤ c → c < clause_room → tally_word p a (holding_at c) ≡ 0
  unfolding fresh_count
  unused_clause c h k =
      holding_at_lem c k ∙ get_or-eq_default (map (count (rule_holds a)) p.clauses) 0 (rw (length-map p.clauses (count (rule_holds a))) h)

-- Bytes that begin with a fresh count say its words, and bytes that say its words begin with it.
module _ (p : Plan) (room : T (roomy p)) (a : Assignment) (s : List ℕ) where
  pub fresh_words : take tally_size s ≡ tally_bytes (fresh_count p a) → (i : ℕ) → i < tally_word_count → word_at s i ≡ tally_word p a i
  unfolding tally_bytes tally_word
  fresh_words e i h =
      let long = length_fresh_words p (roomy_fits p room) a in
      words_read (tally_words (fresh_count p a)) s i (fresh_below p room a) (rw long e) (rw long h)

  pub words_fresh : Below 256 s → tally_size ≤ length s → ((i : ℕ) → i < tally_word_count → word_at s i ≡ tally_word p a i) → take tally_size s ≡ tally_bytes (fresh_count p a)
  unfolding tally_bytes tally_word
  words_fresh b k e =
      let long = length_fresh_words p (roomy_fits p room) a in
      rw long at (words_determine (tally_words (fresh_count p a)) s b (rw long k) (λ i h. e i (rw long at h)))
