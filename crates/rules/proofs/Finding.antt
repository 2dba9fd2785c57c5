-- Laws of where a variable occurs among the terms of a rule, found from the last term to the first, and of how it stands there.
-- Assumes nothing.
use Prim.Native.Nat.{ℕ, suc, ◌+◌, ◌*◌, ◌-◌, ◌≤◌, ◌<◌, zero-le}
use native.Mathlib.Nat.{add-zero, sub-zero}
use native.Mathlib.Omega.{arith}
use mathlib.Core.Path.{◌≡◌, refl, sym, ap, ap₂, ◌∙◌}
use Rattle.std.specs.Prelude.{Option, Some, None}
use mathlib.Core.Bool.{Bool, true, false, cond}
use mathlib.Core.List.{List, [], ◌∷◌}
use lib.Dec.{T, eqb, ltb→lt}
use borrow.Author.Tests.{eq-eqb, ne_eqb}
use Rattle.std.specs.Option.{IfSome}
use Rattle.plpb.specs.Lists.{◌or◌, all, any, row, sum_by}
use Rattle.plpb.specs.Plan.{Term, Assignment, value, rising_above, rising, named_in}
use Rattle.plpb.specs.Normal.{literal, literal_true, size, K, P}
use Rattle.plpb.specs.Equations.{out, on, off, standing, lost, gained}
use Rattle.plpb.proofs.Lists.{and_left, and_right}
use Rattle.plpb.proofs.Normal.{P_at_most_K}
use Rattle.format.specs.Limits.{terms_lawful}
use Rattle.format.specs.Tables.{term_of}
use Rattle.rules.specs.declared.term.Literal.{Literal}
use Rattle.rules.specs.Terms.{LiteralOf, terms_at, TermReadable, Readable}
use Rattle.rules.specs.Places.{standing_of, Found}
use Rattle.rules.proofs.Terms.{term_legal, term_readable, terms_next}
use Rattle.rules.proofs.Summing.{literal_same}

-- ---- the search: it starts behind the last term and takes one more in front

module _ (x : ℕ) (t : Term) (ts : List Term) where
  named_first : (b : Bool) → eqb t.variable x ≡ b → named_in x (t ∷ ts) ≡ b or named_in x ts
  unfolding named_in any
  named_first b e = rw e refl

  stands_first : (a : Assignment) (b : Bool) → eqb t.variable x ≡ b → standing a x (t ∷ ts) ≡ cond b (standing_of a t) (standing a x ts)
  unfolding standing standing_of
  stands_first a b e = rw e refl

among_more : (i k : ℕ) (r : Option ℕ) → IfSome r (λ j. (suc i ≤ j) × (j < suc i + k)) → IfSome r (λ j. (i ≤ j) × (j < i + suc k))
among_more i k None h = tt
among_more i k (Some j) h = (omega (arith, h.0), omega (arith, h.1))

module _ (g : ℕ → ℕ) (x : ℕ) where
  found_nothing : (i : ℕ) → Found g i 0 x None
  unfolding terms_at row named_in any standing
  found_nothing i = record { among = tt; named = refl; stands = λ a. refl }

  found_more : (i k : ℕ) (r : Option ℕ) (b : Bool) → eqb (g (2 * i)) x ≡ b → Found g (suc i) k x r → Found g i (suc k) x (cond b (Some i) r)
  unfolding term_of ◌or◌
  found_more i k r true e h =
      record {
        among = (omega arith, omega arith);
        named = ap (named_in x) (terms_next g i k) ∙ named_first x (term_of g i) (terms_at g (suc i) k) true e;
        stands = λ a. ap (standing a x) (terms_next g i k) ∙ stands_first x (term_of g i) (terms_at g (suc i) k) a true e;
      }
  found_more i k r false e h =
      record {
        among = among_more i k r h.among;
        named = ap (named_in x) (terms_next g i k) ∙ named_first x (term_of g i) (terms_at g (suc i) k) false e ∙ h.named;
        stands = λ a. ap (standing a x) (terms_next g i k) ∙ stands_first x (term_of g i) (terms_at g (suc i) k) a false e ∙ h.stands a;
      }

  pub found_start : (first count : ℕ) → Found g (first + count) (count - count) x None
  found_start first count =
      let none : count - count ≡ 0 = omega arith in
      rw none (found_nothing (first + count))

  module _ (first count left : ℕ) (r : Option ℕ) (low : 0 < left) (high : left ≤ count) (h : Found g (first + left) (count - left) x r) where
    found_step : (b : Bool) → eqb (g (2 * (first + (left - 1)))) x ≡ b → Found g (first + (left - 1)) (count - (left - 1)) x (cond b (Some (first + (left - 1))) r)
    found_step b e =
        let i = first + (left - 1) in
        let more : count - (left - 1) ≡ suc (count - left) = omega arith in
        let next : first + left ≡ suc i = omega arith in
        rw more (found_more i (count - left) r b e (rw next at h))

    pub found_here : (w : ℕ) → w ≡ g (2 * (first + (left - 1))) → w ≡ x → Found g (first + (left - 1)) (count - (left - 1)) x (Some (first + (left - 1)))
    found_here w d e = found_step true (eq-eqb _ x (sym d ∙ e))

    pub found_other : (w : ℕ) → w ≡ g (2 * (first + (left - 1))) → (w ≡ x → ⊥) → Found g (first + (left - 1)) (count - (left - 1)) x r
    found_other w d n = found_step false (ne_eqb _ x (λ e. n (d ∙ e)))

  pub found_end : (first count left : ℕ) (r : Option ℕ) → left ≤ 0 → Found g (first + left) (count - left) x r → Found g first count x r
  found_end first count left r low h =
      let none : left ≡ 0 = omega arith in
      rw (none, add-zero first, sub-zero count) at h

-- The term found can be read where all can.
pub found_readable : {terms assignment : List ℕ} {first count : ℕ} (r : Option ℕ) → IfSome r (λ i. (first ≤ i) × (i < first + count)) → Readable terms assignment first count → IfSome r (λ i. TermReadable terms assignment i)
found_readable None h l = tt
found_readable {terms} {assignment} {first} {count} (Some i) h l =
    let e : first + (i - first) ≡ i = omega (arith, h.0) in
    rw e at (term_readable terms assignment first count l (i - first) (omega (arith, h.0, h.1)))

-- ---- how the variable stands

-- No term is of variable 0.
stands_none : (a : Assignment) (x v : ℕ) (ts : List Term) → T (rising_above v ts) → x ≤ v → standing a x ts ≡ out
unfolding rising_above standing
stands_none a x v [] r h = refl
stands_none a x v (t ∷ ts) r h =
    let above : v < t.variable = ltb→lt v t.variable (and_left _ _ r) in
    rw (ne_eqb t.variable x (λ e. omega arith)) (stands_none a x t.variable ts (and_right _ _ r) (omega arith))

pub stands_zero : (n : ℕ) (a : Assignment) (ts : List Term) → T (terms_lawful n ts) → standing a 0 ts ≡ out
unfolding terms_lawful rising
stands_zero n a ts t = stands_none a 0 0 ts (and_left _ _ t) (omega arith)

module _ {a : Assignment} {t : Term} {l : Literal} (h : LiteralOf a t l) where
  pub stands_on : l.truth ≡ true → on l.size ≡ standing_of a t
  unfolding standing_of
  stands_on e = rw (← h.truth, e) (ap on h.sized)

  pub stands_off : l.truth ≡ false → off l.size ≡ standing_of a t
  unfolding standing_of
  stands_off e = rw (← h.truth, e) (ap off h.sized)

-- Its weight is part of P where its literal is true, and not of P where it is false.
pub lost_in_P : (a : Assignment) (x : ℕ) (ts : List Term) → lost (standing a x ts) ≤ P a ts
unfolding standing P sum_by lost
lost_in_P a x [] = zero-le
lost_in_P a x (t ∷ ts) = at (eqb t.variable x) (literal_true a (literal t)) (lost_in_P a x ts)
  where
    at : (b c : Bool) → lost (standing a x ts) ≤ P a ts → lost (cond b (cond c (on (size t)) (off (size t))) (standing a x ts)) ≤ cond c (size t) 0 + P a ts
    at true true h = omega arith
    at true false h = zero-le
    at false c h = omega (arith, h)

pub gained_beside_P : (a : Assignment) (x : ℕ) (ts : List Term) → gained (standing a x ts) + P a ts ≤ K ts
unfolding standing P K sum_by gained
gained_beside_P a x [] = zero-le
gained_beside_P a x (t ∷ ts) = at (eqb t.variable x) (literal_true a (literal t)) (gained_beside_P a x ts)
  where
    at : (b c : Bool) → gained (standing a x ts) + P a ts ≤ K ts → gained (cond b (cond c (on (size t)) (off (size t))) (standing a x ts)) + (cond c (size t) 0 + P a ts) ≤ size t + K ts
    at true true h = omega (arith, P_at_most_K a ts)
    at true false h = omega (arith, P_at_most_K a ts)
    at false true h = omega arith
    at false false h = omega arith

module _ (n : ℕ) (a b : Assignment) (same : (v : ℕ) → v ≤ n → value a v ≡ value b v) where
  pub standing_same : (x : ℕ) (ts : List Term) → T (all (term_legal n) ts) → standing a x ts ≡ standing b x ts
  unfolding standing all
  standing_same x [] l = refl
  standing_same x (t ∷ ts) l =
      ap₂ (λ c z. cond (eqb t.variable x) (cond c (on (size t)) (off (size t))) z)
      (literal_same n a b same t (and_left _ _ l))
      (standing_same x ts (and_right _ _ l))
