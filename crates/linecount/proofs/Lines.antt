-- How many lines rules and clauses have, and how many words are not 0.
-- Assumes nothing.
use Prim.Native.Nat.{ℕ, zero, suc, ◌+◌, ◌*◌, ◌-◌, ◌≤◌, ◌<◌, zero-le}
use native.Mathlib.Omega.{arith}
use native.Mathlib.Numerals.{add-one}
use mathlib.Core.Path.{◌≡◌, refl, sym, ap, ap₂, ◌∙◌}
use mathlib.Core.Bool.{Bool, true, false, cond, not}
use mathlib.Core.List.{List, [], ◌∷◌, ◌++◌, map}
use lib.Dec.{eqb, ltb}
use lib.IntN.{ℤ, pos, negsuc, nat_abs}
use lib.ListN.{length, length-append, length-map}
use Rattle.std.specs.List.{filter, range_with_len}
use borrow.Author.Tests.{ne_eqb, lt-ltb}
use Rattle.plpb.specs.Lists.{keep, count, row, sum_by}
use Rattle.plpb.proofs.Lists.{count_le, length_row}
use Rattle.plpb.specs.Plan.{Bound, absent, present, Term, Rule}
use Rattle.words.specs.Words.{word_at, signed}
use Rattle.counting.specs.Bound.{bound_of}
use Rattle.std.specs.Prelude.{Option, Some, None}
use Rattle.std.specs.Option.{is_some as there}
use Rattle.rules.specs.declared.entry.Entry.{Entry}
use Rattle.rules.specs.Rules.{EntryAt}
use Rattle.rulelines.proofs.Entries.{entry_lower, entry_upper}
use mir.Val.{bool_byte}
use Rattle.format.specs.Layout.{clause_first_at, clause_count_at, rule_first_at}
use Rattle.format.specs.Tables.{rule_of, clause_of, named, is_some, sparse}
use Rattle.opb.specs.Tau.{lower_line, upper_line, straight, fixed, minus_lines, plus_lines, both_lines, rule_lines, rules_lines, or_lines, clause_lines, new_atoms, clauses_lines}
use Rattle.clauselines.specs.Clauses.{atom_count, rules_in, clauses_in}
use Rattle.clauselines.proofs.Clauses.{atoms_of, single_lines, several_lines}

-- ---- one rule

lower_length : (o : Option ℤ) (ts : List Term) → length (lower_line (bound_of o) ts) ≡ bool_byte (there o)
unfolding lower_line
lower_length None ts = refl
lower_length (Some b) ts = refl

upper_length : (o : Option ℤ) (ts : List Term) → length (upper_line (bound_of o) ts) ≡ bool_byte (there o)
unfolding upper_line
upper_length None ts = refl
upper_length (Some b) ts = refl

bit_small : (b : Bool) → bool_byte b ≤ 1
bit_small true = omega arith
bit_small false = omega arith

module _ (tables : List ℕ) (r : ℕ) (e : Entry) (h : EntryAt (word_at tables) (rule_first_at r) e) where
  straight_length : (g : ℕ → ℕ) → bool_byte (there e.lower) + bool_byte (there e.upper) ≡ length (straight (rule_of (word_at tables) g r))
  unfolding straight
  straight_length g =
      let s = rule_of (word_at tables) g r in
      sym (length-append (lower_line s.lower s.terms) (upper_line s.upper s.terms)
      ∙ ap₂ ◌+◌ (ap (λ b. length (lower_line b s.terms)) (sym (entry_lower tables g r e h)) ∙ lower_length e.lower s.terms)
      (ap (λ b. length (upper_line b s.terms)) (sym (entry_upper tables g r e h)) ∙ upper_length e.upper s.terms))

  pub bounds_are : {m n : ℕ} → m ≡ bool_byte (there e.lower) → n ≡ bool_byte (there e.upper)
      → ((g : ℕ → ℕ) → m + n ≡ length (straight (rule_of (word_at tables) g r))) × (m + n ≤ 2)
  bounds_are {m} {n} p q =
      ((λ g. ap₂ ◌+◌ p q ∙ straight_length g), omega (arith, p, q, bit_small (there e.lower), bit_small (there e.upper)))

minus_length : (x : ℕ) (b : Bound ℤ) (ts : List Term) → length (minus_lines x b ts) ≡ suc (length (upper_line b ts))
unfolding minus_lines upper_line fixed
minus_length x absent ts = refl
minus_length x (present u) ts = refl

plus_length : (x : ℕ) (b : Bound ℤ) (ts : List Term) → length (plus_lines x b ts) ≡ suc (length (lower_line b ts))
unfolding plus_lines lower_line fixed
plus_length x absent ts = refl
plus_length x (present l) ts = refl

both_length : (k : ℕ) → length (both_lines k) ≡ 3
unfolding both_lines
both_length k = refl

rule_length : (k : ℕ) (r : Rule) → length (rule_lines k r) ≡ length (straight r) + 5
unfolding rule_lines straight
rule_length k r =
    let a = length-append (minus_lines (k + 2) r.upper r.terms) (plus_lines (k + 1) r.lower r.terms ++ both_lines k) in
    let b = length-append (plus_lines (k + 1) r.lower r.terms) (both_lines k) in
    let c = length-append (lower_line r.lower r.terms) (upper_line r.upper r.terms) in
    omega (arith, a, b, c, minus_length (k + 2) r.upper r.terms, plus_length (k + 1) r.lower r.terms, both_length k)

-- ---- rules

abbrev pub RulesAre : (ℕ → ℕ) → ℕ → ℕ → ℕ → ℕ → Type 0
RulesAre f first count left m = (g : ℕ → ℕ) (k : ℕ) → m ≡ length (rules_lines k (rules_in f g (first + left) (count - left)))

module _ (f : ℕ → ℕ) (first count : ℕ) where
  pub rules_start : RulesAre f first count count 0
  unfolding rules_in row rules_lines
  rules_start g k = let e : count - count ≡ 0 = omega arith in rw e refl

  pub rules_next :
      {left m b : ℕ} → 0 < left → left ≤ count → ((g : ℕ → ℕ) → b ≡ length (straight (rule_of f g (first + (left - 1))))) → RulesAre f first count left m
      → RulesAre f first count (left - 1) (b + 5 + m)
  unfolding rules_in row rules_lines
  rules_next {left} {m} {b} h l e is g k =
      let more : count - (left - 1) ≡ suc (count - left) = omega arith in
      let next : suc (first + (left - 1)) ≡ first + left = omega arith in
      let r = rule_of f g (first + (left - 1)) in
      let joined = length-append (rule_lines k r) (rules_lines (k + 3) (rules_in f g (suc (first + (left - 1))) (count - left))) in
      let same : length (rules_lines (k + 3) (rules_in f g (suc (first + (left - 1))) (count - left))) ≡ m =
      ap (λ i. length (rules_lines (k + 3) (rules_in f g i (count - left)))) next ∙ sym (is g (k + 3)) in
      rw more (omega (arith, joined, same, rule_length k r, e g))

-- ---- clauses

module _ (f : ℕ → ℕ) (c : ℕ) where
  pub single_count : {b : ℕ} → f (clause_count_at c) ≡ 1 → ((g : ℕ → ℕ) → b ≡ length (straight (rule_of f g (f (clause_first_at c))))) → (g : ℕ → ℕ) (k : ℕ) → b ≡ length (clause_lines k (clause_of f g c))
  single_count e h g k = h g ∙ ap length (sym (single_lines f g c k e))

  pub several_count :
      {m : ℕ} → (f (clause_count_at c) ≡ 1 → ⊥) → ((g : ℕ → ℕ) (k : ℕ) → m ≡ length (rules_lines k (rules_in f g (f (clause_first_at c)) (f (clause_count_at c)))))
      → (g : ℕ → ℕ) (k : ℕ) → 1 + m ≡ length (clause_lines k (clause_of f g c))
  unfolding or_lines
  several_count {m} e h g k = omega (arith, h g k, ap length (several_lines f g c k e))

abbrev pub ClausesAre : (ℕ → ℕ) → ℕ → ℕ → ℕ → Type 0
ClausesAre f n left m = (g : ℕ → ℕ) (k : ℕ) → m ≡ length (clauses_lines k (clauses_in f g left (n - left)))

abbrev pub AtomsAre : (ℕ → ℕ) → ℕ → ℕ → ℕ → Type 0
AtomsAre f n left m = (g : ℕ → ℕ) → m ≡ sum_by new_atoms (clauses_in f g left (n - left))

module _ (f : ℕ → ℕ) (n : ℕ) where
  pub clauses_start : ClausesAre f n n 0
  unfolding clauses_in row clauses_lines
  clauses_start g k = let e : n - n ≡ 0 = omega arith in rw e refl

  pub atoms_start : AtomsAre f n n 0
  unfolding clauses_in row sum_by
  atoms_start g = let e : n - n ≡ 0 = omega arith in rw e refl

  module _ {left m : ℕ} (h : 0 < left) (l : left ≤ n) where
    pub clauses_next :
        {b : ℕ} → ((g : ℕ → ℕ) (k : ℕ) → b ≡ length (clause_lines k (clause_of f g (left - 1)))) → ClausesAre f n left m → ClausesAre f n (left - 1) (b + m)
    unfolding clauses_in row clauses_lines
    clauses_next {b} e is g k =
        let more : n - (left - 1) ≡ suc (n - left) = omega arith in
        let next : suc (left - 1) ≡ left = omega arith in
        let d = clause_of f g (left - 1) in
        let joined = length-append (clause_lines k d) (clauses_lines (k + new_atoms d) (clauses_in f g (suc (left - 1)) (n - left))) in
        let same : length (clauses_lines (k + new_atoms d) (clauses_in f g (suc (left - 1)) (n - left))) ≡ m =
        ap (λ i. length (clauses_lines (k + new_atoms d) (clauses_in f g i (n - left)))) next ∙ sym (is g (k + new_atoms d)) in
        rw more (omega (arith, joined, same, e g k))

    pub atoms_next : {b : ℕ} → b ≡ atom_count (f (clause_count_at (left - 1))) → AtomsAre f n left m → AtomsAre f n (left - 1) (b + m)
    unfolding clauses_in row sum_by
    atoms_next {b} e is g =
        let more : n - (left - 1) ≡ suc (n - left) = omega arith in
        let next : suc (left - 1) ≡ left = omega arith in
        let same : sum_by new_atoms (clauses_in f g (suc (left - 1)) (n - left)) ≡ m =
        ap (λ i. sum_by new_atoms (clauses_in f g i (n - left))) next ∙ sym (is g) in
        rw more (ap₂ ◌+◌ (e ∙ sym (atoms_of f g (left - 1))) (sym same))

pub atoms_small : (n : ℕ) → n ≤ 1_024 → atom_count n ≤ 3_072
unfolding atom_count
atoms_small n h = by (eqb n 1)
  where
    by : (b : Bool) → cond b 0 (3 * n) ≤ 3_072
    by true = zero-le
    by false = omega arith

-- ---- words

zero_word : (w : ℕ) → w ≡ 0 → ltb 0 (nat_abs (signed w)) ≡ false
zero_word w e = rw e (unfold signed in refl)

signed_size : (w : ℕ) (b : Bool) → (b ≡ true → 0 < w) → 0 < nat_abs (cond b (pos w) (negsuc (4_294_967_295 - w)))
signed_size w true h = h refl
signed_size w false h = omega arith

some_word : (w : ℕ) → (w ≡ 0 → ⊥) → ltb 0 (nat_abs (signed w)) ≡ true
unfolding signed
some_word w h = lt-ltb 0 _ (signed_size w (ltb w 2_147_483_648) (λ e. positive w h))
  where
    positive : (w : ℕ) → (w ≡ 0 → ⊥) → 0 < w
    positive zero k = absurd (k refl)
    positive (suc v) k = omega arith

tested : (w : ℕ) → ltb 0 (nat_abs (signed w)) ≡ cond (eqb w 0) false true
tested zero = zero_word 0 refl
tested (suc v) = some_word (suc v) none ∙ sym (rw (ne_eqb (suc v) 0 none) refl)
  where
    none : suc v ≡ 0 → ⊥
    none e = omega (arith, e)

module _ (f : ℕ → ℕ) (base : ℕ) where
  abbrev term : ℕ → Term
  term = named (λ x. signed (f (base + x)))

  kept : (b : Bool) (x : ℕ) (t : Term) (xs : List ℕ) (ts : List Term) → length xs ≡ length ts
      → length (cond (not b) (x ∷ xs) xs) ≡ length (cond (cond b false true) (t ∷ ts) ts)
  kept true x t xs ts e = e
  kept false x t xs ts e = ap suc e

  counted : (xs : List ℕ) → length (filter (λ x. not (eqb (f (base + x)) 0)) xs) ≡ length (keep is_some (map term xs))
  unfolding keep is_some named
  counted [] = refl
  counted (x ∷ xs) = rw (tested (f (base + x))) (kept (eqb (f (base + x)) 0) x (term x) _ _ (counted xs))

  range_row : (i k : ℕ) → range_with_len i k ≡ row i k
  unfolding row
  range_row i zero = refl
  range_row i (suc k) = rw (add-one i) (ap (λ l. i ∷ l) (range_row (suc i) k))

  count_keep : (p : Term → Bool) (ts : List Term) → length (keep p ts) ≤ length ts
  unfolding count
  count_keep p ts = count_le p ts

  pub words_counted :
      (n : ℕ) {m : ℕ} → m ≡ length (filter (λ x. not (eqb (f (base + x)) 0)) (range_with_len 1 (n + 1 - 1)))
      → (m ≡ length (sparse (λ x. signed (f (base + x))) 0 n)) × (m ≤ n)
  unfolding sparse
  words_counted n {m} e =
      let k : n + 1 - 1 ≡ n = omega arith in
      let is : m ≡ length (keep is_some (map term (row 1 n))) =
      e ∙ ap (λ j. length (filter (λ x. not (eqb (f (base + x)) 0)) (range_with_len 1 j))) k ∙ ap (λ l. length (filter (λ x. not (eqb (f (base + x)) 0)) l)) (range_row 1 n) ∙ counted (row 1 n) in
      (is, omega (arith, is, count_keep is_some (map term (row 1 n)), length-map (row 1 n) term, length_row 1 n))
