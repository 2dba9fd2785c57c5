-- A sum read and judged term by term.
-- Assumes nothing.
use Prim.Native.Nat.{ℕ, zero, suc, ◌+◌, ◌-◌, ◌≤◌, ◌<◌}
use native.Mathlib.Omega.{arith}
use mathlib.Core.Path.{◌≡◌, refl, sym, ap, ap₂, ◌∙◌}
use mathlib.Core.Bool.{Bool, true, false, not, cond, ◌&&◌, ◌||◌}
use mathlib.Core.List.{List, [], ◌∷◌}
use lib.Dec.{ltb, eqb}
use lib.IntN.{pos}
use lib.ListN.{length, get_or}
use borrow.Author.Tests.{ltb-true, le-ltb}
use Rattle.std.specs.Prelude.{Some}
use Rattle.plpb.specs.Lists.{◌and◌, ◌or◌, any, all, is_empty}
use Rattle.plpb.specs.Plan.{Term, rising_above}
use Rattle.plpb.proofs.Lists.{and_middle, and_assoc, and_true, or_assoc, or_false}
use Rattle.format.specs.Limits.{terms_lawful}
use Rattle.format.proofs.Bools.{and_left, and_right}
use Rattle.bodies.specs.Terms.{term_lawful, lawful_above}
use Rattle.bodies.proofs.TermLaws.{lawful_start}
use Rattle.tokens.specs.Tokens.{is_digit, digits_end, number_at}
use Rattle.tokens.specs.declared.text.Text.{Text}
use Rattle.tokens.specs.Found.{read, Reads, Found}
use Rattle.tokens.proofs.Runs.{both_is, run_end_lem, read_behind}
use Rattle.tokens.proofs.Numbers.{seen_ltb}
use Rattle.statements.specs.declared.Weighted.{Weighted}
use Rattle.statements.specs.Grammar.{unsigned_from, integer_end, is_integer, letter_at, index_from, index_end, integer_at, is_term, term_at, term_end, terms_from, end_from, sum_at, sum_end, has_terms}
use Rattle.statements.specs.Parts.{WeightedAt, SumAt, passes}
use Rattle.statements.proofs.Parts.{sign_from, sign_none, term_seen, variable_seen}

or_is : (a b : Bool) → (a || b) ≡ (a or b)
unfolding ◌or◌
or_is true b = refl
or_is false b = refl

-- The terms from a place on, by whether one stands there.
module _ (s : List ℕ) (at : ℕ) where
  pub terms_none : (left : ℕ) → is_term s at ≡ false → (terms_from left s at ≡ []) × (end_from left s at ≡ at)
  unfolding terms_from end_from
  terms_none zero h = (refl, refl)
  terms_none (suc left) h = (rw h, rw h)

  pub terms_some :
      (left : ℕ) → 0 < left → is_term s at ≡ true
      → (terms_from left s at ≡ term_at s at ∷ terms_from (left - 1) s (term_end s at)) × (end_from left s at ≡ end_from (left - 1) s (term_end s at))
  unfolding terms_from end_from
  terms_some zero n h = absurd (omega arith)
  terms_some (suc left) n h =
      let e : left ≡ suc left - 1 = omega arith in
      (rw h (ap (λ k. term_at s at ∷ terms_from k s (term_end s at)) e), rw h (ap (λ k. end_from k s (term_end s at)) e))

-- A term ends behind its place, and none stands beyond the end of the text.
pub term_on : (s : List ℕ) (at : ℕ) → is_term s at ≡ true → at < term_end s at
unfolding is_term is_integer
term_on s at h =
    let d = ltb-true (index_end s at) (term_end s at) (and_right _ _ h) in
    let h1 = and_left _ _ h in
    let c = ltb-true (index_from s at) (index_end s at) (and_right _ _ h1) in
    let h2 = and_left _ _ h1 in
    let b = ltb-true (letter_at s at) (index_from s at) (and_right _ _ h2) in
    let h3 = and_left _ _ h2 in
    let a = ltb-true (integer_end s at) (letter_at s at) (and_right _ _ h3) in
    let i = ltb-true (unsigned_from s at) (integer_end s at) (and_left _ _ h3) in
    omega (arith, sign_from s at)

pub no_term : (s : List ℕ) (at : ℕ) → length s ≤ at → is_term s at ≡ false
unfolding is_term is_integer integer_end ◌and◌
no_term s at h =
    let a = sign_none s at h in
    let b : digits_end s (unsigned_from s at) ≡ unsigned_from s at = sym (run_end_lem is_digit s (unsigned_from s at) (omega (arith, a, h))) in
    rw (b, le-ltb (unsigned_from s at) (unsigned_from s at) (omega arith))

-- As many terms as there are bytes left are enough: no more are read.
more_by :
    (t : Bool) (x : Term) (at : ℕ) {xs ys : List Term} {m n : ℕ} → (t ≡ true → (xs ≡ ys) × (m ≡ n))
    → (cond t (x ∷ xs) [] ≡ cond t (x ∷ ys) []) × (cond t m at ≡ cond t n at)
more_by true x at h = let (p, q) = h refl in (ap (λ ts. x ∷ ts) p, q)
more_by false x at h = (refl, refl)

enough :
    (a b : ℕ) (s : List ℕ) (at : ℕ) → length s ≤ at + a → length s ≤ at + b
    → (terms_from a s at ≡ terms_from b s at) × (end_from a s at ≡ end_from b s at)
unfolding terms_from end_from
enough zero b s at h k = let (p, q) = terms_none s at b (no_term s at (omega arith)) in (sym p, sym q)
enough (suc a) zero s at h k = terms_none s at (suc a) (no_term s at (omega arith))
enough (suc a) (suc b) s at h k =
    more_by (is_term s at) (term_at s at) at (λ e. let on = term_on s at e in enough a b s (term_end s at) (omega arith) (omega arith))

module _ (s : List ℕ) (at : ℕ) where
  pub sum_none : is_term s at ≡ false → (sum_at s at ≡ []) × (sum_end s at ≡ at)
  sum_none h = terms_none s at (length s) h

  one_more :
      (k : ℕ) → is_term s at ≡ true
      → (terms_from (suc k) s at ≡ term_at s at ∷ terms_from k s (term_end s at)) × (end_from (suc k) s at ≡ end_from k s (term_end s at))
  unfolding terms_from end_from
  one_more k h = (rw h, rw h)

  pub sum_some : is_term s at ≡ true → (sum_at s at ≡ term_at s at ∷ sum_at s (term_end s at)) × (sum_end s at ≡ sum_end s (term_end s at))
  sum_some h =
      let (p, q) = enough (length s) (suc (length s)) s at (omega arith) (omega arith) in
      let (u, v) = one_more (length s) h in
      (p ∙ u, q ∙ v)

lawful_cons : (n v : ℕ) (t : Term) (ts : List Term) → lawful_above n v (t ∷ ts) ≡ term_lawful n v t and lawful_above n t.variable ts
unfolding lawful_above rising_above all term_lawful
lawful_cons n v t ts = and_middle (ltb v t.variable) _ _ _

some_by : {A : Type 0} (xs : List A) (k : ℕ) → k ≡ length xs → ((k ≡ 0 → ⊥) → not (is_empty xs) ≡ true) × (k ≡ 0 → not (is_empty xs) ≡ false)
unfolding is_empty
some_by [] k e = ((λ n. absurd (n e)), λ z. refl)
some_by (x ∷ xs) k e = ((λ n. refl), λ z. absurd (omega arith))

-- A sum of which some terms are passed: those still to be read make the rest.
module _ (t : Text) (n : ℕ) where
  pub record Summing (rest : Text) (before count : ℕ) (above lawful : Bool) : Type 0 where
    pub bytes : rest.bytes.now ≡ t.bytes.now
    pub few : count ≤ rest.at
    pub small : n ≤ 512
    pub end : read sum_end rest ≡ read sum_end t
    pub number : count + length (read sum_at rest) ≡ length (read sum_at t)
    pub over : above or passes n (read sum_at rest) ≡ passes n (read sum_at t)
    pub right : lawful and lawful_above n before (read sum_at rest) ≡ terms_lawful n (read sum_at t)

  pub summing_start : n ≤ 512 → Summing t 0 0 false true
  unfolding ◌and◌ ◌or◌
  summing_start k = record {
    bytes = refl;
    few = omega arith;
    small = k;
    end = refl;
    number = omega arith;
    over = refl;
    right = lawful_start n (read sum_at t);
  }

  module _ {rest : Text} {before count : ℕ} {above lawful : Bool} (inv : Summing rest before count above lawful) where
    abbrev s : List ℕ
    s = rest.bytes.now

    abbrev at : ℕ
    at = rest.at

    -- No term is left.
    module _ (none : read is_term rest ≡ false) where
      number_is : count ≡ length (read sum_at t)
      number_is = sym (sym inv.number ∙ ap (λ ts. count + length ts) (sum_none s at none).0 ∙ omega arith)

      pub summing_none : count ≡ 0 → read has_terms t ≡ false
      unfolding has_terms
      summing_none z = (some_by (read sum_at t) count number_is).1 z

      pub summing_end :
          (count ≡ 0 → ⊥) → Found (read has_terms t) (SumAt t.bytes.now t.at n) (Some (record { count = count; above = above; lawful = lawful; rest = rest }))
      unfolding has_terms passes any lawful_above rising_above all ◌and◌
      summing_end z =
          let (e, f) = sum_none s at none in (
            (some_by (read sum_at t) count number_is).0 z,
            record {
              some = (some_by (read sum_at t) count number_is).0 z;
              count = number_is;
              above = sym (sym inv.over ∙ ap (λ ts. above or passes n ts) e ∙ or_false above);
              lawful = sym (sym inv.right ∙ ap (λ ts. lawful and lawful_above n before ts) e ∙ and_true lawful);
              rest = record { bytes = inv.bytes; at = sym f ∙ inv.end };
            },
          )

    -- One term more is passed.
    module _ (w : Weighted) (some : read is_term rest ≡ true) (h : Reads WeightedAt rest w) {f : Bool} (fit : f ≡ term_lawful n before (record { variable = w.variable; weight = pos w.weight.size })) where
      abbrev those : List Term
      those = sum_at s (term_end s at)

      abbrev here : Term
      here = term_at s at

      parts : (sum_at s at ≡ here ∷ those) × (sum_end s at ≡ sum_end s (term_end s at))
      parts = sum_some s at some

      fit_is : f ≡ term_lawful n before here
      unfolding term_at integer_at
      fit_is =
          fit
          ∙ ap₂ (λ x k. term_lawful n before (record { variable = x; weight = pos k })) h.variable h.weight.size
          ∙ term_seen n before (number_at s (index_from s at)) (number_at s (unsigned_from s at)) (eqb (get_or s at 0) 45) inv.small

      over_is : ltb n w.variable ≡ ltb n here.variable
      unfolding term_at
      over_is = ap (ltb n) h.variable ∙ seen_ltb n (number_at s (index_from s at)) (omega (arith, inv.small))

      right_by : (g : Bool) → term_lawful n before here ≡ g → lawful and g and lawful_above n w.variable those ≡ lawful and (g and lawful_above n here.variable those)
      unfolding term_at ◌and◌
      right_by true e =
          and_assoc lawful true (lawful_above n w.variable those)
          ∙ ap (λ x. lawful and lawful_above n x those) (h.variable ∙ variable_seen n before (number_at s (index_from s at)) (integer_at s at) inv.small e)
      right_by false e = and_assoc lawful false (lawful_above n w.variable those)

      those_are : read sum_at w.rest ≡ those
      those_are = read_behind h.rest sum_at

      pub summing_on : at < w.rest.at
      summing_on = omega (arith, h.rest.at, term_on s at some)

      pub summing_more : Summing w.rest w.variable (count + 1) (above || ltb n w.variable) (lawful && f)
      unfolding passes any
      summing_more = record {
        bytes = h.rest.bytes ∙ inv.bytes;
        few = omega (arith, inv.few, summing_on);
        small = inv.small;
        end = read_behind h.rest sum_end ∙ sym parts.1 ∙ inv.end;
        number = ap (λ ts. count + 1 + length ts) those_are ∙ omega (arith, ap length parts.0) ∙ inv.number;
        over =
            ap₂ (λ g ts. g or passes n ts) (or_is above (ltb n w.variable) ∙ ap (λ g. above or g) over_is) those_are
            ∙ or_assoc above (ltb n here.variable) (passes n those)
            ∙ sym (ap (λ ts. above or passes n ts) parts.0)
            ∙ inv.over;
        right =
            ap₂ (λ g ts. g and lawful_above n w.variable ts) (both_is lawful f ∙ ap (λ g. lawful and g) fit_is) those_are
            ∙ right_by (term_lawful n before here) refl
            ∙ sym (ap (λ ts. lawful and lawful_above n before ts) parts.0 ∙ ap (λ g. lawful and g) (lawful_cons n before here those))
            ∙ inv.right;
      }
