-- The factors that a binomial reports: where they are found, that they are at most 17, and that 35 over 17 has so many.
-- Assumes nothing.
use Prim.Native.Nat.{ℕ, zero, suc, ◌+◌, ◌-◌, ◌≤◌, ◌<◌, min}
use native.Mathlib.Nat.{zero-add, add-zero, add-suc, suc-add, le_trans, min-eq_left}
use native.Mathlib.Decide.{dec_le}
use native.Mathlib.Omega.{arith}
use lib.Dec.{ltb, lit≤}
use mathlib.Core.Bool.{Bool, true, false, cond}
use mathlib.Core.Path.{◌≡◌, refl, sym, ◌∙◌, ap}
use borrow.Author.Tests.{lt-ltb, le-ltb}
use Rattle.plpb.specs.Count.{cap}
use Rattle.plpb.specs.Equations.{binom}
use Rattle.plpb.specs.Factors.{triangle_rows, passes_at, factors}
use Rattle.plpb.proofs.Binomial.{binom_mono_lower, quick, quick_is, past_cap}

-- The d-th from i on, where none before it passes the cap, and it does or is the last.
passes_there : (m i d left : ℕ) → d ≤ left → ((j : ℕ) → j < i + d → binom m j ≤ cap) → (d < left → cap < binom m (i + d)) → passes_at m i left ≡ i + d
unfolding passes_at
passes_there m i zero zero l low high = sym (add-zero i)
passes_there m i (suc d) zero l low high = omega arith
passes_there m i zero (suc left) l low high =
    let past : cap < binom m i = rw add-zero at (high (omega arith)) in
    rw (lt-ltb cap (binom m i) past) (sym (add-zero i))
passes_there m i (suc d) (suc left) l low high =
    rw (le-ltb cap (binom m i) (low i (omega arith)))
    (passes_there m (suc i) d left (omega arith) (λ j h. low j (omega arith)) (λ h. rw (suc-add, ← add-suc) (high (omega arith)))
    ∙ suc-add i d
    ∙ sym (add-suc i d))

-- Up to the middle of a row, where entries only rise: the first past the cap ..
module _ (m k : ℕ) (middle : k + k ≤ m) where
  pub first_past : (i : ℕ) → i + 1 ≤ k → binom m i ≤ cap → cap < binom m (i + 1) → i + 1 ≡ passes_at m 0 k
  first_past i h low high =
      sym
      (passes_there m 0 (i + 1) k h (λ j l. le_trans (binom_mono_lower m j i (omega arith) (omega arith)) low) (λ l. rw zero-add high)
      ∙ zero-add (i + 1))

  -- .. or k, where none is.
  pub none_past : binom m k ≤ cap → k ≡ passes_at m 0 k
  none_past low =
      sym
      (passes_there m 0 k k (omega arith) (λ j l. le_trans (binom_mono_lower m j k (omega arith) (omega arith)) low) (λ l. omega arith)
      ∙ zero-add k)

-- What is reported, by the cases that the code goes by.
pub factors_small : (m k : ℕ) → m < triangle_rows → 0 ≡ factors m k
unfolding factors
factors_small m k h = rw (lt-ltb m triangle_rows h) refl

pub factors_outside : (m k : ℕ) → m < k → 0 ≡ factors m k
unfolding factors
factors_outside m k h = go (dec_le triangle_rows m)
  where
    go : Dec (triangle_rows ≤ m) → 0 ≡ factors m k
    go (yes l) = rw (le-ltb m triangle_rows l, lt-ltb m k h) refl
    go (no l) = factors_small m k (omega arith)

module _ (m k : ℕ) (large : triangle_rows ≤ m) (within : k ≤ m) where
  pub factors_inside : passes_at m 0 (min k (m - k)) ≡ factors m k
  unfolding factors
  factors_inside = rw (le-ltb m triangle_rows large, le-ltb m k within) refl

  factors_near : k ≤ m - k → passes_at m 0 k ≡ factors m k
  factors_near h = ap (passes_at m 0) (sym (min-eq_left h)) ∙ factors_inside

-- No more than the place of an entry past the cap.
either_at_most : (b : Bool) {x y n : ℕ} → x ≤ n → y ≤ n → cond b x y ≤ n
either_at_most true h l = h
either_at_most false h l = l

passes_by : (m i d left : ℕ) → cap < binom m (i + d) → passes_at m i left ≤ i + d
unfolding passes_at
passes_by m i d zero h = omega arith
passes_by m i zero (suc left) h =
    let past : cap < binom m i = rw add-zero at h in
    rw (lt-ltb cap (binom m i) past) (omega arith)
passes_by m i (suc d) (suc left) h =
    let there : suc i + d ≡ i + suc d = suc-add i d ∙ sym (add-suc i d) in
    either_at_most (ltb cap (binom m i)) (omega arith) (rw there at (passes_by m (suc i) d left (rw there h)))

-- "It is at most 17 ..
pub factors_most : (m k : ℕ) → factors m k ≤ 17
factors_most m k = go (dec_le triangle_rows m) (dec_le k m)
  where
    go : Dec (triangle_rows ≤ m) → Dec (k ≤ m) → factors m k ≤ 17
    go (yes l) (yes h) = rw (← factors_inside m k l h) (passes_by m 0 17 (min k (m - k)) (past_cap m l))
    go (yes l) (no h) = omega (arith, factors_outside m k (omega arith))
    go (no l) h = omega (arith, factors_small m k (omega arith))

below_cap : binom 35 16 ≤ cap
unfolding cap quick
below_cap = rw (← quick_is 35 16) (lit≤ {m = quick 35 16} {n = cap} tt)

-- .. reached at 35 over 17": the entries of row 35 before it are below the cap.
pub factors_reached : factors 35 17 ≡ 17
factors_reached =
    sym (factors_near 35 17 (omega arith) (omega arith) (omega arith))
    ∙ passes_there 35 0 17 17 (omega arith) (λ j h. le_trans (binom_mono_lower 35 j 16 (omega arith) (omega arith)) below_cap) (λ h. omega arith)
