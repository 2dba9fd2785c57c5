-- Laws of binomials: vanishing, absorption, the step from one lower number to the next, symmetry, how they grow, and a form that computes quickly.
-- Assumes nothing.
use Prim.Native.Nat.{ℕ, zero, suc, ◌+◌, ◌*◌, ◌-◌, ◌/◌, ◌≤◌, ◌<◌}
use native.Mathlib.Nat.{zero-add, suc-add, mul_comm, mul-sub, le_refl, le_trans, mul-le-mul_left, le_of_mul-le-mul_left, lt_of_lt_of_le, eq-or-lt_of_le, div-eq_of_eq-mul_right, sub-add_cancel}
use native.Mathlib.Omega.{arith}
use lib.Dec.{lit<}
use mathlib.Core.Logic.{⊎_elim}
use mathlib.Core.Path.{◌≡◌, refl, sym, ◌∙◌}
use Rattle.plpb.specs.Count.{cap}
use Rattle.plpb.specs.Equations.{binom}

-- Nothing can be chosen of fewer than k.
pub binom_vanishes : (n k : ℕ) → n < k → binom n k ≡ 0
unfolding binom
binom_vanishes n zero h = omega arith
binom_vanishes zero (suc k) h = refl
binom_vanishes (suc n) (suc k) h =
    omega (arith, binom_vanishes n k (omega arith), binom_vanishes n (suc k) (omega arith))

pub binom_full : (n : ℕ) → binom n n ≡ 1
unfolding binom
binom_full zero = refl
binom_full (suc n) = omega (arith, binom_full n, binom_vanishes n (suc n) (omega arith))

pub binom_one : (n : ℕ) → binom n 1 ≡ n
unfolding binom
binom_one zero = refl
binom_one (suc n) = omega (arith, binom_one n)

-- (n + 1) · C(n, k) = (k + 1) · C(n + 1, k + 1)
pub absorb : (n k : ℕ) → suc n * binom n k ≡ suc k * binom (suc n) (suc k)
unfolding binom
absorb zero zero = refl
absorb zero (suc k) = omega arith
absorb (suc n) zero = omega (arith, absorb n zero)
absorb (suc n) (suc k) = omega (arith, absorb n k, absorb n (suc k))

-- (k + 1) · C(n, k + 1) = C(n, k) · (n − k): from one lower number to the next.
pub next_lower : (n k : ℕ) → suc k * binom n (suc k) ≡ binom n k * (n - k)
unfolding binom
next_lower n k = omega (arith, absorb n k, mul-sub (binom n k) n k)

-- Dividing by k + 1 is exact.
pub next_quotient : (n k : ℕ) → binom n k * (n - k) / suc k ≡ binom n (suc k)
next_quotient n k = div-eq_of_eq-mul_right (omega arith) (sym (next_lower n k))

-- C(n + 1, k + 1) from C(n, k), where C(n, k + 1) is not at hand.
pub absorb_quotient : (n k : ℕ) → binom n k * suc n / suc k ≡ binom (suc n) (suc k)
absorb_quotient n k = div-eq_of_eq-mul_right (omega arith) (mul_comm (binom n k) (suc n) ∙ absorb n k)

-- To choose a of a + b is to leave b of them.
symmetric_sum : (n a b : ℕ) → a + b ≡ n → binom n a ≡ binom n b
unfolding binom
symmetric_sum n zero b h =
    let same : b ≡ n = omega arith in
    rw same (sym (binom_full n))
symmetric_sum n (suc a) zero h =
    let same : suc a ≡ n = omega arith in
    rw same (binom_full n)
symmetric_sum zero (suc a) (suc b) h = refl
symmetric_sum (suc n) (suc a) (suc b) h =
    omega (arith, symmetric_sum n a (suc b) (omega arith), symmetric_sum n (suc a) b (omega arith))

pub symmetric : (n k : ℕ) → k ≤ n → binom n k ≡ binom n (n - k)
symmetric n k h = symmetric_sum n k (n - k) (omega arith)

-- In its upper number a binomial never falls ..
pub binom_suc : (n k : ℕ) → binom n k ≤ binom (suc n) k
unfolding binom
binom_suc n zero = le_refl 1
binom_suc n (suc k) = omega arith

binom_further : (k m d : ℕ) → binom m k ≤ binom (d + m) k
binom_further k m zero = rw zero-add (le_refl (binom m k))
binom_further k m (suc d) = rw suc-add (le_trans (binom_further k m d) (binom_suc (d + m) k))

pub binom_mono_upper : (k : ℕ) {m n : ℕ} → m ≤ n → binom m k ≤ binom n k
binom_mono_upper k {m} {n} h = rw sub-add_cancel at (binom_further k m (n - m))

-- .. and in its lower number not before the middle.
pub binom_rises : (n k : ℕ) → suc k ≤ n - k → binom n k ≤ binom n (suc k)
binom_rises n k h =
    let wide : binom n k * suc k ≤ binom n k * (n - k) = mul-le-mul_left (binom n k) h in
    le_of_mul-le-mul_left {k = suc k} (omega (arith, wide, next_lower n k)) (omega arith)

pub binom_mono_lower : (n i k : ℕ) → i ≤ k → k ≤ n - k → binom n i ≤ binom n k
binom_mono_lower n i zero h mid =
    let same : i ≡ 0 = omega arith in
    rw same (le_refl (binom n 0))
binom_mono_lower n i (suc k) h mid =
    let down : k ≤ n - k = omega arith in
    ⊎_elim
    (λ e. rw e (le_refl (binom n (suc k))))
    (λ l. le_trans (binom_mono_lower n i k (omega arith) down) (binom_rises n k (omega arith)))
    (eq-or-lt_of_le h)

-- Some choice there is, where enough is there to choose from.
pub binom_positive : (n k : ℕ) → k ≤ n → 0 < binom n k
unfolding binom
binom_positive n zero h = omega arith
binom_positive zero (suc k) h = omega arith
binom_positive (suc n) (suc k) h = omega (arith, binom_positive n k (omega arith))

-- w more to choose from, of which one at least is taken: C(m + w + 1, k + 1) − C(m, k + 1) is at least C(m + w, k).
pub binom_gain : (m w k : ℕ) → binom m (suc k) + binom (m + w) k ≤ binom (suc (m + w)) (suc k)
unfolding binom
binom_gain m w k = omega (arith, binom_mono_upper (suc k) {m = m} {n = m + w} (omega arith))

-- The binomial by recursion on its lower number alone, which computes in k steps.
unfoldable pub quick : ℕ → ℕ → ℕ
quick n zero = 1
quick zero (suc k) = 0
quick (suc n) (suc k) = suc n * quick n k / suc k

pub quick_is : (n k : ℕ) → quick n k ≡ binom n k
unfolding quick binom
quick_is n zero = refl
quick_is zero (suc k) = refl
quick_is (suc n) (suc k) = div-eq_of_eq-mul_right (omega arith) (rw (quick_is n k) (absorb n k))

-- Above row 34 the 17th entry exceeds the cap, so no more than 17 factors are ever multiplied there.
pub past_cap : (n : ℕ) → 35 ≤ n → cap < binom n 17
unfolding cap quick
past_cap n h = lt_of_lt_of_le (rw (← quick_is 35 17) (lit< {m = cap} {n = quick 35 17} tt)) (binom_mono_upper 17 h)
