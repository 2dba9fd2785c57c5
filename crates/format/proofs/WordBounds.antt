-- Every word of a lawful plan's tables fits in 4 bytes: counts are within the limits, weights and bounds within their ranges.
use Prim.Native.Nat.{ℕ, zero, suc, ◌+◌, ◌-◌, ◌≤◌, ◌<◌}
use mathlib.Core.Path.{◌≡◌}
use mathlib.Core.Bool.{Bool, true, false, cond}
use mathlib.Core.List.{List, [], ◌∷◌, ◌++◌, map}
use native.Mathlib.Omega.{arith}
use lib.Dec.{eqb}
use lib.IntN.{ℤ, nat_abs}
use lib.ListN.{length, get_or, replicate, length-append}
use borrow.Author.Tests.{leb-true}
use Rattle.plpb.specs.Lists.{all, concat, sum_by, row}
use Rattle.plpb.specs.Plan.{Bound, absent, present, Term, Rule, Clause, Plan, lock_of}
use Rattle.plpb.specs.Tallies.{rules_of}
use Rattle.plpb.specs.Normal.{is_negative}
use Rattle.order.specs.Order.{Place, order, run_end, term_at, is_place, has_several, place_word}
use Rattle.order.proofs.Runs.{order_places}
use Rattle.order.proofs.Tested.{ends_ordered, last_end}
use Rattle.order.proofs.Words.{spelled_small}
use Rattle.words.specs.Words.{unsigned}
use Rattle.words.proofs.Words.{Below, below_nil, below_cons, unsigned_lt}
use Rattle.format.specs.Limits.{rule_lawful, term_count, term_within}
use Rattle.format.specs.Tables.{coefficient, pad_to, pad_with, clause_entries, rule_entries, term_entries, all_terms, lock_word, base_words, run_ends, order_words, table_words, term_words}
use Rattle.format.proofs.Bools.{T_true, true_T, and_left, and_right}
use Rattle.format.proofs.Bounds.{bounds_written, bounds_tested}
use Rattle.format.proofs.Lawful.{weight_small, rule_parts, RoomyPlan}
use Rattle.format.proofs.Naming.{each_rule_lawful, terms_lawful_lem, numbers_within_lem, place_small}
use Rattle.format.proofs.Sizes.{terms_of}
use Rattle.format.specs.Layout.{clause_word_count, end_room, rule_word_count, term_room, term_word_count}

abbrev pub word_limit : ℕ
word_limit = 4_294_967_296

either_small : (b : Bool) (y z : ℤ) → nat_abs y ≤ 1_000_000 → nat_abs z ≤ 1_000_000 → nat_abs (cond b y z) ≤ 1_000_000
either_small true y z h k = h
either_small false y z h k = k

-- Coefficients are as small as weights.
pub coefficient_small : (n : ℕ) (ts : List Term) (x : ℕ) → all (term_within n) ts ≡ true → nat_abs (coefficient ts x) ≤ 1_000_000
unfolding all term_within coefficient
coefficient_small n [] x h = omega arith
coefficient_small n (t ∷ ts) x h =
    either_small (eqb t.variable x) _ _ (weight_small t.weight (and_right _ _ (and_left _ _ h))) (coefficient_small n ts x (and_right _ _ h))

-- Lists of words, section by section.
abbrev Each : List ℕ → Type 0
Each [] = Unit {0}
Each (w ∷ ws) = (w < word_limit) × Each ws

each_below : (ws : List ℕ) → Each ws → Below word_limit ws
each_below [] e = below_nil word_limit (omega arith)
each_below (w ∷ ws) e = below_cons word_limit w ws e.0 (each_below ws e.1)

each_append : (xs ys : List ℕ) → Each xs → Each ys → Each (xs ++ ys)
each_append [] ys d e = e
each_append (x ∷ xs) ys d e = (d.0, each_append xs ys d.1 e)

each_map : (h : ℕ → ℕ) (xs : List ℕ) → ((x : ℕ) → h x < word_limit) → Each (map h xs)
each_map h [] e = tt
each_map h (x ∷ xs) e = (e x, each_map h xs e)

each_zeros : (k : ℕ) → Each (replicate k 0)
each_zeros zero = tt
each_zeros (suc k) = (omega arith, each_zeros k)

each_pad_to : (k : ℕ) (ws : List ℕ) → Each ws → Each (pad_to k ws)
unfolding pad_with
each_pad_to k ws h = each_append ws (replicate (k - length ws) 0) h (each_zeros (k - length ws))

each_clause : (first : ℕ) (cs : List Clause) → first + length (concat cs) < word_limit → Each (clause_entries first cs)
unfolding clause_entries concat
each_clause first [] h = tt
each_clause first (c ∷ cs) h =
    let l = length-append c (concat cs) in
    (omega arith, (omega arith, each_clause (first + length c) cs (omega arith)))

each_rule :
    (n first : ℕ) (rs : List Rule) → all (rule_lawful n) rs ≡ true → first + sum_by terms_of rs < word_limit → Each (rule_entries first rs)
unfolding rule_entries all sum_by
each_rule n first [] l h = tt
each_rule n first (r ∷ rs) l h =
    let t = bounds_tested _ _ _ (bounds_written _ _ (rule_parts n r (and_left _ _ l)).both) in
    (omega arith, (omega arith, (omega (arith, t.high), (unsigned_lt _ (omega (arith, t.lower)), (unsigned_lt _ (omega (arith, t.upper)), each_rule n (first + length r.terms) rs (and_right _ _ l) (omega arith))))))

each_term : (n : ℕ) (ts : List Term) → n < word_limit → all (term_within n) ts ≡ true → Each (term_entries ts)
unfolding term_entries all term_within
each_term n [] s h = tt
each_term n (t ∷ ts) s h =
    let v : t.variable ≤ n = leb-true _ _ (and_left _ _ (and_left _ _ h)) in
    let w = weight_small t.weight (and_right _ _ (and_left _ _ h)) in
    (omega arith, (unsigned_lt _ (omega arith), each_term n ts s (and_right _ _ h)))

pub lock_word_small : (b : Bound Bool) → lock_word b ≤ 2
unfolding lock_word
lock_word_small absent = omega arith
lock_word_small (present true) = omega arith
lock_word_small (present false) = omega arith

-- The two tables.
module _ (p : Plan) (l : RoomyPlan p) where
  rules_here : all (rule_lawful p.variables) (rules_of p) ≡ true
  rules_here = each_rule_lawful p l

  base_each : Each (base_words p)
  unfolding base_words term_count rules_of
  base_each =
      let a = map (λ x. unsigned (coefficient p.objective x)) (row 1 512) in
      let b = pad_to clause_word_count (clause_entries 0 p.clauses) in
      let c = pad_to rule_word_count (rule_entries 0 (rules_of p)) in
      let costs : Each a =
      each_map _ (row 1 512) (λ x. unsigned_lt (coefficient p.objective x) (omega (arith, coefficient_small p.variables p.objective x l.objective.within))) in
      let clauses : Each b = each_pad_to clause_word_count _ (each_clause 0 p.clauses (omega (arith, l.rule_count))) in
      let rules : Each c = each_pad_to rule_word_count _ (each_rule p.variables 0 (rules_of p) rules_here (omega (arith, l.terms))) in
      let d = map (λ x. lock_word (lock_of p x)) (row 1 512) in
      let locks : Each d = each_map _ (row 1 512) (λ x. omega (arith, lock_word_small (lock_of p x))) in
      (omega (arith, l.high), (omega (arith, l.clause_count), (omega (arith, l.rule_count), (omega (arith, l.terms), each_append a (b ++ (c ++ d)) costs (each_append b (c ++ d) clauses (each_append c d rules locks))))))

  pub end_small : (x : ℕ) → x ≤ p.variables → run_end p x ≤ term_count p
  end_small x h = omega (arith, ends_ordered p x p.variables h, last_end p (numbers_within_lem p l))

  ends_each : (i k : ℕ) → i + k ≤ suc p.variables → Each (map (run_end p) (row i k))
  unfolding row
  ends_each i zero h = tt
  ends_each i (suc k) h = (omega (arith, end_small i (omega arith), l.terms), ends_each (suc i) k (omega arith))

  places_each : (qs : List Place) → all (is_place p) qs ≡ true → Each (map (place_word p) qs)
  unfolding all place_word
  places_each [] t = tt
  places_each (q ∷ qs) t =
      (spelled_small (has_several (get_or p.clauses q.clause [])) q (is_negative (term_at p q).weight) (place_small p l q (true_T _ (and_left _ _ t))), places_each qs (and_right _ _ t))

  order_each : Each (order_words p)
  unfolding order_words run_ends
  order_each =
      each_append (pad_to end_room (map (run_end p) (row 0 (suc p.variables)))) (pad_to term_room (map (place_word p) (order p)))
      (each_pad_to end_room (map (run_end p) (row 0 (suc p.variables))) (ends_each 0 (suc p.variables) (omega arith)))
      (each_pad_to term_room (map (place_word p) (order p)) (places_each (order p) (T_true _ (order_places p))))

  pub table_below : Below word_limit (table_words p)
  unfolding table_words
  table_below = each_below (base_words p ++ order_words p) (each_append (base_words p) (order_words p) base_each order_each)

  pub base_below : Below word_limit (base_words p)
  base_below = each_below (base_words p) base_each

  pub term_below : Below word_limit (term_words p)
  unfolding term_words all_terms
  term_below =
      each_below (term_words p)
      (each_pad_to term_word_count (term_entries (all_terms p)) (each_term p.variables (all_terms p) (omega (arith, l.high)) (terms_lawful_lem p.variables (rules_of p) rules_here)))
