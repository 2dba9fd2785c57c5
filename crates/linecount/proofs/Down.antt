-- A count made from the last to the first.
-- Assumes nothing.
use Prim.Native.Nat.{ℕ, suc, ◌+◌, ◌*◌, ◌-◌, ◌≤◌, ◌<◌, zero-le}
use native.Mathlib.Nat.{le_refl, mul-suc}
use native.Mathlib.Omega.{arith}
use mathlib.Core.Path.{◌≡◌, subst}

-- Of n things those from `left` on are counted, each at most `most`.
pub record Down (Is : ℕ → ℕ → Type 0) (most n left m : ℕ) : Type 0 where
  pub within : left ≤ n
  pub is : Is left m
  pub size : m ≤ most * (n - left)

module _ (Is : ℕ → ℕ → Type 0) (most n : ℕ) where
  pub down_start : Is n 0 → Down Is most n n 0
  down_start h = record { within = le_refl n; is = h; size = zero-le }

  module _ {left m : ℕ} (d : Down Is most n left m) where
    pub down_more : (j : ℕ) → 0 < left → j ≤ most → Is (left - 1) (j + m) → Down Is most n (left - 1) (j + m)
    down_more j h l e =
        let more : n - (left - 1) ≡ suc (n - left) = omega (arith, h, d.within) in
        record { within = omega (arith, d.within); is = e; size = rw more (bound (n - left) d.size) }
      where
        bound : (k : ℕ) → m ≤ most * k → j + m ≤ most * suc k
        bound k s = omega (arith, s, l, mul-suc most k)

    pub down_done : left ≤ 0 → Is 0 m × (m ≤ most * n)
    down_done h =
        let e : left ≡ 0 = omega (arith, h) in
        let z : n - left ≡ n = omega (arith, e) in
        (subst (λ (k : ℕ). Is k m) e d.is, rw z at d.size)
