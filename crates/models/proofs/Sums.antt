-- Sums over what is written: zero coefficients change nothing, changed signs turn a sum over, and one term more adds to it.
-- Assumes nothing.
use Prim.Native.Nat.{ℕ, zero, suc, ◌≤◌, ◌<◌}
use native.Mathlib.Nat.{not-suc-le-zero}
use native.Mathlib.Omega.{arith}
use mathlib.Core.Path.{◌≡◌, refl, sym, ap, ap₂, ◌∙◌}
use mathlib.Core.Bool.{Bool, true, false, cond, true≢false}
use mathlib.Core.List.{List, [], ◌∷◌, ◌++◌, map}
use lib.Dec.{ltb, leb}
use lib.IntN.{ℤ, pos, negsuc, nat_abs, neg_ℤ, ◌+ℤ◌, +ℤ_idl, +ℤ_assoc, +ℤ_comm, neg_ℤ-+ℤ, +ℤ-neg_ℤ_cancel}
use lib.ListN.{length, get_or}
use lib.Signed.{le_z}
use borrow.Author.Tests.{ltb-false, leb-true}
use Rattle.plpb.specs.Lists.{◌and◌, all, keep}
use Rattle.plpb.specs.Plan.{Term, Assignment, value, total}
use Rattle.plpb.proofs.Integers.{le_z_shift}
use Rattle.opb.specs.Opb.{meets}
use Rattle.opb.specs.Tau.{has_weight, negated, geq, leq}

-- ---- what is written

none_of : (b : Bool) → cond b (pos 0) (pos 0) ≡ pos 0
none_of true = refl
none_of false = refl

-- A term whose coefficient is 0 adds nothing.
no_weight : (w : ℤ) → ltb 0 (nat_abs w) ≡ false → w ≡ pos 0
no_weight (pos zero) h = refl
no_weight (pos (suc n)) h = absurd (not-suc-le-zero (ltb-false 0 (suc n) h))
no_weight (negsuc n) h = absurd (not-suc-le-zero (ltb-false 0 (suc n) h))

-- Both sides turned over.
turned_over : (s u : ℤ) → le_z (neg_ℤ u) (neg_ℤ s) ≡ le_z s u
turned_over s u =
    sym (le_z_shift (s +ℤ u) (neg_ℤ u) (neg_ℤ s))
    ∙ ap₂ le_z (+ℤ-neg_ℤ_cancel s u) (ap (λ z. z +ℤ neg_ℤ s) (+ℤ_comm s u) ∙ +ℤ-neg_ℤ_cancel u s)

module _ (b : Assignment) where
  pub total_kept : (ts : List Term) → total b (keep has_weight ts) ≡ total b ts
  unfolding total keep has_weight
  total_kept [] = refl
  total_kept (t ∷ ts) = by (ltb 0 (nat_abs t.weight)) refl (total_kept ts)
    where
      by : (k : Bool) → ltb 0 (nat_abs t.weight) ≡ k → total b (keep has_weight ts) ≡ total b ts
          → total b (cond k (t ∷ keep has_weight ts) (keep has_weight ts)) ≡ cond (value b t.variable) t.weight (pos 0) +ℤ total b ts
      by true e h = ap (λ z. cond (value b t.variable) t.weight (pos 0) +ℤ z) h
      by false e h =
          h ∙ sym (ap (λ w. cond (value b t.variable) w (pos 0) +ℤ total b ts) (no_weight t.weight e) ∙ ap (λ z. z +ℤ total b ts) (none_of (value b t.variable)) ∙ +ℤ_idl (total b ts))

  negated_term : (v : Bool) (w : ℤ) → cond v (neg_ℤ w) (pos 0) ≡ neg_ℤ (cond v w (pos 0))
  negated_term true w = refl
  negated_term false w = refl

  pub total_negated : (ts : List Term) → total b (map negated ts) ≡ neg_ℤ (total b ts)
  unfolding total negated
  total_negated [] = refl
  total_negated (t ∷ ts) =
      ap₂ ◌+ℤ◌ (negated_term (value b t.variable) t.weight) (total_negated ts)
      ∙ sym (neg_ℤ-+ℤ (cond (value b t.variable) t.weight (pos 0)) (total b ts))

  pub total_snoc : (ts : List Term) (t : Term) → total b (ts ++ (t ∷ [])) ≡ total b ts +ℤ cond (value b t.variable) t.weight (pos 0)
  unfolding total
  total_snoc [] t = +ℤ_comm (cond (value b t.variable) t.weight (pos 0)) (pos 0)
  total_snoc (u ∷ ts) t =
      ap (λ z. cond (value b u.variable) u.weight (pos 0) +ℤ z) (total_snoc ts t)
      ∙ sym (+ℤ_assoc (cond (value b u.variable) u.weight (pos 0)) (total b ts) (cond (value b t.variable) t.weight (pos 0)))

  -- A sum of at least, or at most, a bound.
  pub meets_geq : (ts : List Term) (l : ℤ) → meets b (geq ts l) ≡ le_z l (total b ts)
  unfolding meets geq
  meets_geq ts l = ap (le_z l) (total_kept ts)

  pub meets_leq : (ts : List Term) (u : ℤ) → meets b (leq ts u) ≡ le_z (total b ts) u
  unfolding leq
  meets_leq ts u = meets_geq (map negated ts) (neg_ℤ u) ∙ ap (le_z (neg_ℤ u)) (total_negated ts) ∙ turned_over (total b ts) u

-- ---- assignments that go on

pub value_front : (a e : Assignment) (x : ℕ) → x ≤ length a → value (a ++ e) x ≡ value a x
unfolding value
value_front a e zero h = refl
value_front a e (suc i) h = here a i h
  where
    here : (a : Assignment) (i : ℕ) → i < length a → get_or (a ++ e) i false ≡ get_or a i false
    here [] i l = absurd (not-suc-le-zero l)
    here (v ∷ a) zero l = refl
    here (v ∷ a) (suc i) l = here a i (omega (arith, l))

pub total_front : (a e : Assignment) (ts : List Term) → all (λ t. leb t.variable (length a)) ts ≡ true → total (a ++ e) ts ≡ total a ts
unfolding total all ◌and◌
total_front a e [] h = refl
total_front a e (t ∷ ts) h =
    let l = and_parts (leb t.variable (length a)) _ h in
    ap₂ (λ (v : Bool) (z : ℤ). cond v t.weight (pos 0) +ℤ z) (value_front a e t.variable (leb-true t.variable (length a) l.0)) (total_front a e ts l.1)
  where
    and_parts : (p q : Bool) → (p and q) ≡ true → (p ≡ true) × (q ≡ true)
    and_parts true q e = (refl, e)
    and_parts false q e = absurd (true≢false (sym e))
