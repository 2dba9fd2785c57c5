-- The sums that code works out from the tables are those of the plan that they hold; and how large costs, l(O) and the bounds of the tightening
-- are: an objective has at most 512 terms, each of at most a million.
-- Assumes nothing.
use Prim.Native.Nat.{ℕ, suc, ◌+◌, ◌*◌, ◌/◌, ◌≤◌, ◌<◌, zero-le}
use native.Mathlib.Omega.{arith}
use mathlib.Core.Path.{◌≡◌, refl, ap, ◌∙◌}
use mathlib.Core.Bool.{Bool, true, false, cond}
use mathlib.Core.List.{List, [], ◌∷◌}
use lib.Dec.{T}
use borrow.Author.Tests.{ltb-true, leb-true}
use lib.IntN.{ℤ, pos, negsuc, nat_abs, ◌+ℤ◌, ◌*ℤ◌}
use lib.ListN.{length, take, length-take}
use lib.Signed.{le_z}
use Rattle.plpb.specs.Lists.{◌and◌, all}
use Rattle.plpb.specs.Plan.{Bound, absent, present, Term, Plan, Assignment, value, lock_of, total, cost, least_of, least_cost, floor_cost, rising_above, rising}
use Rattle.plpb.specs.Search.{third, lbs_bound, linear_bound, at_floor}
use Rattle.words.specs.Words.{word_bytes, word_at}
use Rattle.words.proofs.Words.{length_word_bytes}
use Rattle.format.specs.Limits.{roomy, term_within}
use Rattle.format.specs.Tables.{table_words, term_words, table_size, term_size, Holds, lock_word, objective_of, plan_in, plan_of_tables}
use Rattle.format.specs.Layout.{lock_at}
use Rattle.format.proofs.Bools.{and_left, and_right}
use Rattle.format.proofs.Lawful.{weight_small, terms_short, roomy_parts}
use Rattle.format.proofs.Sections.{Sections, length_table_words, length_term_words}
use Rattle.format.proofs.ReadBack.{holds_sections, cost_back, read_back}
use Rattle.format.proofs.WordBounds.{coefficient_small}
use Rattle.format.proofs.LockWords.{lock_word_lem}
use Rattle.counting.proofs.Signed.{size_sum, size_double}
use Rattle.costs.specs.Sums.{cost_in, least_by, least_in, floor_in, weight_at, Summable}
use Rattle.costs.proofs.Coefficients.{place, negative_small}

-- ---- tables that hold a plan

-- A list of which the first n elements are that many has room for them.
pub room_of : (n : ℕ) (s ws : List ℕ) → take n s ≡ ws → length ws ≡ n → n ≤ length s
room_of n s ws e l = omega (arith, length-take n s, ap length e)

-- What a coefficient counts by the word of its variable's lock is what it counts in l(O).
by_word : (k : Bound Bool) (w : ℤ) → least_by (lock_word k) w ≡ least_of k w
unfolding least_by lock_word least_of
by_word absent w = refl
by_word (present true) w = refl
by_word (present false) w = refl

module _
    (p : Plan) (tables : List ℕ) (word : (x : ℕ) → 1 ≤ x → x ≤ 512 → word_at tables (lock_at x) ≡ lock_word (lock_of p x)) (high : p.variables ≤ 512)
  where
    least_told : (v : ℕ) (ts : List Term) → rising_above v ts ≡ true → all (term_within p.variables) ts ≡ true → least_in tables ts ≡ least_cost p ts
    unfolding least_in least_cost rising_above all term_within
    least_told v [] a b = refl
    least_told v (t ∷ ts) a b =
        let low = ltb-true v t.variable (and_left _ _ a) in
        let most = leb-true t.variable p.variables (and_left _ _ (and_left _ _ b)) in
        rw (word t.variable (omega arith) (omega arith), by_word (lock_of p t.variable) t.weight, least_told t.variable ts (and_right _ _ a) (and_right _ _ b))

module _ (p : Plan) (tables terms : List ℕ) (r : T (roomy p)) (h : Holds p tables terms) where
  pub table_room : table_size ≤ length tables
  unfolding Holds
  table_room = room_of table_size tables (word_bytes (table_words p)) h.0 (omega (arith, length_word_bytes (table_words p), length_table_words p (roomy_parts p r)))

  pub term_room_lem : term_size ≤ length terms
  unfolding Holds
  term_room_lem = room_of term_size terms (word_bytes (term_words p)) h.1 (omega (arith, length_word_bytes (term_words p), length_term_words p (roomy_parts p r)))

  abbrev sections : Sections p (word_at tables) (word_at terms)
  sections = holds_sections p (roomy_parts p r) tables terms h

  pub variables_in_lem : word_at tables 0 ≡ p.variables
  variables_in_lem = sections.variables

  pub objective_in : objective_of (word_at tables) ≡ p.objective
  unfolding plan_of_tables plan_in
  objective_in = ap (λ q. q.objective) (read_back p tables terms r h)

  pub summable : Summable tables
  unfolding weight_at
  summable =
      let l = roomy_parts p r in
      let n = variables_in_lem in
      record {
        high = omega (arith, l.high);
        room = omega (arith, table_room);
        small = λ i u.
            let e = cost_back p l (word_at tables) (word_at terms) sections (suc i) (omega arith) (omega (arith, l.high)) in
            rw (← place i, e) (coefficient_small p.variables p.objective (suc i) l.objective.within);
      }

  pub cost_in_lem : (a : Assignment) → cost_in tables a ≡ cost p a
  unfolding cost_in cost
  cost_in_lem a = ap (total a) objective_in

  pub floor_in_lem : floor_in tables ≡ floor_cost p
  unfolding floor_in floor_cost rising
  floor_in_lem =
      let l = roomy_parts p r in
      ap (least_in tables) objective_in
      ∙ least_told p tables (lock_word_lem p tables terms r h) l.high 0 p.objective l.objective.rise l.objective.within

-- ---- how large

share_size : (b : Bool) (w : ℤ) → nat_abs w ≤ 1_000_000 → nat_abs (cond b w (pos 0)) ≤ 1_000_000
share_size true w h = h
share_size false w h = zero-le

module _ (n : ℕ) where
  total_size : (a : Assignment) (ts : List Term) → all (term_within n) ts ≡ true → nat_abs (total a ts) ≤ 1_000_000 * length ts
  unfolding all term_within total
  total_size a [] h = zero-le
  total_size a (t ∷ ts) h =
      let w = share_size (value a t.variable) t.weight (weight_small t.weight (and_right _ _ (and_left _ _ h))) in
      omega (arith, w, total_size a ts (and_right _ _ h), size_sum (cond (value a t.variable) t.weight (pos 0)) (total a ts))

  part_size : (k : Bound Bool) (w : ℤ) → nat_abs w ≤ 1_000_000 → nat_abs (least_of k w) ≤ 1_000_000
  unfolding least_of
  part_size absent w h = negative_small w h
  part_size (present v) w h = share_size v w h

  least_size : (p : Plan) (ts : List Term) → all (term_within n) ts ≡ true → nat_abs (least_cost p ts) ≤ 1_000_000 * length ts
  unfolding all term_within least_cost
  least_size p [] h = zero-le
  least_size p (t ∷ ts) h =
      let w = part_size (lock_of p t.variable) t.weight (weight_small t.weight (and_right _ _ (and_left _ _ h))) in
      omega (arith, w, least_size p ts (and_right _ _ h), size_sum (least_of (lock_of p t.variable) t.weight) (least_cost p ts))

module _ (p : Plan) (r : T (roomy p)) where
  pub objective_short : length p.objective ≤ p.variables
  unfolding rising
  objective_short =
      let l = roomy_parts p r in
      omega (arith, terms_short p.variables 0 p.objective l.objective.rise l.objective.within zero-le)

  few : length p.objective ≤ 512
  few = omega (arith, objective_short, (roomy_parts p r).high)

  pub cost_size : (a : Assignment) → nat_abs (cost p a) ≤ 512_000_000
  unfolding cost
  cost_size a = omega (arith, few, total_size p.variables a p.objective (roomy_parts p r).objective.within)

  pub floor_size : nat_abs (floor_cost p) ≤ 512_000_000
  unfolding floor_cost
  floor_size = omega (arith, few, least_size p.variables p p.objective (roomy_parts p r).objective.within)

-- A cost above l(O) has a term to come from.
some_terms : (p : Plan) (a : Assignment) (ts : List Term) → (le_z (total a ts) (least_cost p ts) and le_z (least_cost p ts) (total a ts)) ≡ false → 0 < length ts
unfolding total least_cost ◌and◌
some_terms p a [] e = absurd (let z : ◌≡◌ {A = ℕ} 0 1 = cc in omega arith)
some_terms p a (t ∷ ts) e = omega arith

pub some_objective : (p : Plan) (a : Assignment) → at_floor p a ≡ false → 0 < length p.objective
unfolding at_floor cost floor_cost
some_objective p a e = some_terms p a p.objective e

third_size : (z : ℤ) → nat_abs (third z) ≤ nat_abs z / 3 + 1
unfolding third
third_size (pos n) = omega arith
third_size (negsuc n) = omega arith

-- The bounds of the tightening are within what a rule may have.
module _ (p : Plan) (r : T (roomy p)) (a : Assignment) where
  pub linear_within : nat_abs (linear_bound (cost p a)) ≤ 1_000_000_000
  unfolding linear_bound
  linear_within = omega (arith, cost_size p r a, size_sum (cost p a) (negsuc 0))

  pub lbs_within : nat_abs (lbs_bound (floor_cost p) (cost p a)) ≤ 1_000_000_000
  unfolding lbs_bound
  lbs_within =
      let s = size_sum (floor_cost p) (pos 2 *ℤ cost p a) in
      omega (arith, third_size (floor_cost p +ℤ pos 2 *ℤ cost p a), s, size_double (cost p a), cost_size p r a, floor_size p r)
