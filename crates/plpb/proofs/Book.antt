-- The book turns a bit over for an accepted flip alone: with a refusal, and for counts, "no bit changes".
-- Assumes nothing.
use Prim.Native.Nat.{ℕ}
use native.Mathlib.Omega.{arith}
use mathlib.Core.Path.{◌≡◌, refl}
use mathlib.Core.Bool.{Bool, true, false}
use Rattle.plpb.specs.Plan.{Plan, Assignment, is_variable, is_locked}
use Rattle.plpb.specs.Tallies.{rules_named}
use Rattle.plpb.specs.Book.{Call, flip_call, counts_call, refused, accepted, refusal, entry}

pub counts_keep : (p : Plan) (a : Assignment) (x : ℕ) → (entry p a (counts_call x)).bits ≡ a
unfolding entry refusal
counts_keep p a x = at (is_variable p x) refl
  where
    at : (b : Bool) → is_variable p x ≡ b → (entry p a (counts_call x)).bits ≡ a
    at true e = rw e
    at false e = rw e

pub refused_keeps : (p : Plan) (a : Assignment) (c : Call) (n : ℕ) → (entry p a c).answer ≡ refused n → (entry p a c).bits ≡ a
unfolding entry refusal
refused_keeps p a (counts_call x) n h = counts_keep p a x
refused_keeps p a (flip_call x) n h = at (is_variable p x) refl
  where
    locked : (b : Bool) → is_variable p x ≡ true → is_locked p x ≡ b → (entry p a (flip_call x)).bits ≡ a
    locked true e k = rw (e, k)
    locked false e k =
        let taken : accepted (rules_named p x) ≡ refused n = rw (e, k) at h in
        let z : ◌≡◌ {A = ℕ} 0 1 = cc in
        let never : ⊥ = omega arith in
        absurd never

    at : (b : Bool) → is_variable p x ≡ b → (entry p a (flip_call x)).bits ≡ a
    at true e = locked (is_locked p x) e refl
    at false e = rw e
