-- A literal's weight is part of P where it is true, and of N where it is false.
-- Assumes nothing.
use Prim.Native.Nat.{ℕ, zero, suc, ◌+◌, ◌-◌, ◌≤◌, ◌<◌}
use native.Mathlib.Omega.{arith}
use mathlib.Core.Path.{◌≡◌, refl}
use mathlib.Core.Bool.{Bool, true, false, cond}
use mathlib.Core.List.{List, [], ◌∷◌}
use lib.ListN.{length, get_or}
use Rattle.plpb.specs.Lists.{sum_by}
use Rattle.plpb.specs.Plan.{Term, Assignment}
use Rattle.plpb.specs.Normal.{literal, literal_true, size, K, P}
use Rattle.plpb.proofs.Normal.{P_at_most_K}

cond_most : (b : Bool) (w : ℕ) → cond b w 0 ≤ w
cond_most true w = omega arith
cond_most false w = omega arith

module _ (a : Assignment) (d : Term) where
  in_true : (ts : List Term) (j : ℕ) → j < length ts → literal_true a (literal (get_or ts j d)) ≡ true → size (get_or ts j d) ≤ P a ts
  unfolding P sum_by
  in_true [] j h e = absurd (omega arith)
  in_true (t ∷ ts) zero h e = rw e (omega arith)
  in_true (t ∷ ts) (suc j) h e = omega (arith, in_true ts j (omega arith) e)

  in_false : (ts : List Term) (j : ℕ) → j < length ts → literal_true a (literal (get_or ts j d)) ≡ false → P a ts + size (get_or ts j d) ≤ K ts
  unfolding P K sum_by
  in_false [] j h e = absurd (omega arith)
  in_false (t ∷ ts) zero h e = rw e (omega (arith, P_at_most_K a ts))
  in_false (t ∷ ts) (suc j) h e = omega (arith, in_false ts j (omega arith) e, cond_most (literal_true a (literal t)) (size t))

  pub literal_part : (ts : List Term) (j : ℕ) → j < length ts → size (get_or ts j d) ≤ cond (literal_true a (literal (get_or ts j d))) (P a ts) (K ts - P a ts)
  literal_part ts j h = at (literal_true a (literal (get_or ts j d))) refl
    where
      at : (b : Bool) → literal_true a (literal (get_or ts j d)) ≡ b → size (get_or ts j d) ≤ cond b (P a ts) (K ts - P a ts)
      at true e = in_true ts j h e
      at false e = omega (arith, in_false ts j h e)
