-- A flip turns over one value and leaves the others, because it sets one place of the list.
use Prim.Native.Nat.{ℕ, zero, suc, ◌≤◌, ◌<◌}
use native.Mathlib.Nat.{not-suc-le-zero}
use native.Mathlib.Decide.{dec_lt}
use native.Mathlib.Omega.{arith}
use mathlib.Core.Path.{◌≡◌, refl, ap, ◌∙◌}
use mathlib.Core.Logic.{◌≢◌}
use mathlib.Core.Bool.{Bool, true, false, not, cond}
use lib.ListN.{length, get_or, set, length-set}
use lib.Seq.{get_or-set_same, get_or-set_other, set-set, set-get_or, set_out}
use Rattle.plpb.specs.Plan.{Assignment, value, flip}
use Rattle.plpb.specs.Normal.{Literal, literal_true}
use Rattle.plpb.proofs.Lists.{not_not}

pub length_flip : (a : Assignment) (x : ℕ) → length (flip a x) ≡ length a
unfolding flip
length_flip a zero = refl
length_flip a (suc i) = length-set a i (not (get_or a i false))

pub flip_same : (a : Assignment) (x : ℕ) → 0 < x → x ≤ length a → value (flip a x) x ≡ not (value a x)
unfolding flip value
flip_same a zero h k = absurd (not-suc-le-zero h)
flip_same a (suc i) h k = get_or-set_same a i (not (get_or a i false)) false k

pub flip_other : (a : Assignment) (x y : ℕ) → y ≢ x → value (flip a x) y ≡ value a y
unfolding flip value
flip_other a zero y h = refl
flip_other a (suc i) zero h = refl
flip_other a (suc i) (suc j) h = get_or-set_other a i j (not (get_or a i false)) false (λ e. h (ap suc e))

-- Twice the same flip leaves all as it was.
pub flip_twice : (a : Assignment) (x : ℕ) → flip (flip a x) x ≡ a
unfolding flip
flip_twice a zero = refl
flip_twice a (suc i) = at (dec_lt i (length a))
  where
    v : Bool
    v = get_or a i false

    at : Dec (i < length a) → set (set a i (not v)) i (not (get_or (set a i (not v)) i false)) ≡ a
    at (yes h) =
        set-set a i (not v) (not (get_or (set a i (not v)) i false))
        ∙ ap (set a i) (ap not (get_or-set_same a i (not v) false h) ∙ not_not v)
        ∙ set-get_or a i false
    at (no h) = set-set a i (not v) (not (get_or (set a i (not v)) i false)) ∙ set_out a i (not (get_or (set a i (not v)) i false)) (omega arith)

-- A literal turns over with its variable.
pub flip_literal_same : (a : Assignment) (x : ℕ) (k : Literal) → 0 < x → x ≤ length a → k.variable ≡ x → literal_true (flip a x) k ≡ not (literal_true a k)
unfolding literal_true
flip_literal_same a x k h l e = rw e (rw (flip_same a x h l) (turned k.negated (value a x)))
  where
    turned : (n v : Bool) → cond n (not (not v)) (not v) ≡ not (cond n (not v) v)
    turned true v = refl
    turned false v = refl

pub flip_literal_other : (a : Assignment) (x : ℕ) (k : Literal) → k.variable ≢ x → literal_true (flip a x) k ≡ literal_true a k
unfolding literal_true
flip_literal_other a x k h = ap (λ v. cond k.negated (not v) v) (flip_other a x k.variable h)
