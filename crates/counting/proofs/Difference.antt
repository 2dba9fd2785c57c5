-- The capped difference of two binomials with the same lower number: the cases that the code goes by.
-- Assumes nothing.
use Prim.Native.Nat.{ℕ, zero, suc, ◌+◌, ◌-◌, ◌≤◌, ◌<◌}
use native.Mathlib.Nat.{add-zero, add-suc, le_trans}
use native.Mathlib.Decide.{dec_le}
use native.Mathlib.Omega.{arith}
use mathlib.Core.Path.{◌≡◌, sym, ◌∙◌, ap}
use Rattle.plpb.specs.Count.{cap, capped}
use Rattle.plpb.specs.Equations.{binom}
use Rattle.plpb.proofs.Binomial.{binom_vanishes, binom_full, binom_one, symmetric, binom_mono_upper, binom_mono_lower, binom_gain, past_cap}
use Rattle.plpb.proofs.Capped.{capped_zero, capped_one, capped_small, capped_large, capped_exact, capped_passes}

nothing : (a b : ℕ) → a ≤ b → 0 ≡ capped (a - b)
nothing a b h =
    let none : a - b ≡ 0 = omega arith in
    sym (ap capped none ∙ capped_zero)

-- Of nothing there is one choice, from however many.
pub none_taken : (m w k : ℕ) → k ≡ 0 → 0 ≡ capped (binom (m + w) k - binom m k)
unfolding binom
none_taken m w k h = rw h (nothing 1 1 (omega arith))

pub none_added : (m w k : ℕ) → w ≡ 0 → 0 ≡ capped (binom (m + w) k - binom m k)
none_added m w k h = rw (h, add-zero) (nothing (binom m k) (binom m k) (omega arith))

pub too_few : (m w k : ℕ) → m + w < k → 0 ≡ capped (binom (m + w) k - binom m k)
too_few m w k h = nothing (binom (m + w) k) (binom m k) (omega (arith, binom_vanishes (m + w) k h))

-- The row below the last gains no more than the difference.
gain_below : (m w k : ℕ) → 0 < w → 0 < k → binom (m + w - 1) (k - 1) ≤ binom (m + w) k - binom m k
gain_below m zero k p q = omega arith
gain_below m (suc w) zero p q = omega arith
gain_below m (suc w) (suc k) p q =
    let row : m + suc w - 1 ≡ m + w = omega arith in
    let less : suc k - 1 ≡ k = omega arith in
    rw (row, less, add-suc m w) (omega (arith, binom_gain m w k))

-- All are taken: there is one choice, and none without those added.
pub all_taken : (m w k : ℕ) → 0 < w → m + w ≡ k → 1 ≡ capped (binom (m + w) k - binom m k)
all_taken m w k p e =
    let whole : binom (m + w) k ≡ 1 = ap (λ n. binom n k) e ∙ binom_full k in
    let one : binom (m + w) k - binom m k ≡ 1 = omega (arith, whole, binom_vanishes m k (omega arith)) in
    sym (ap capped one ∙ capped_one)

-- One is taken: there are as many choices as are added.
pub one_taken : (m w k : ℕ) → k ≡ 1 → capped w ≡ capped (binom (m + w) k - binom m k)
one_taken m w k e =
    let as_many : w ≡ binom (m + w) 1 - binom m 1 = omega (arith, binom_one (m + w), binom_one m) in
    rw e (ap capped as_many)

-- What 32 bits hold is not cut.
pub word_exact : (n : ℕ) → n < 4294967296 → n ≡ capped n
unfolding cap
word_exact n h = sym (capped_small n (omega arith))

-- An entry that is 17 or more from both ends of a row above the triangle is past the cap.
pub middle_past : (m k : ℕ) → 35 ≤ m → 17 ≤ k → k + 17 ≤ m → cap < binom m k
middle_past m k h l u = by (dec_le k (m - k))
  where
    by : Dec (k ≤ m - k) → cap < binom m k
    by (yes d) = omega (arith, past_cap m h, binom_mono_lower m 17 k l d)
    by (no d) = omega (arith, past_cap m h, symmetric m k (omega arith), binom_mono_lower m 17 (m - k) (omega arith) (omega arith))

pub middle_cut : (m k : ℕ) → 35 ≤ m → 17 ≤ k → k ≤ m - 17 → suc cap ≡ capped (binom m k)
middle_cut m k h l u = sym (capped_large (binom m k) (middle_past m k h l (omega arith)))

-- So is the difference where what it is at least is such an entry.
pub far_apart : (m w k : ℕ) → 19 ≤ k → 0 < w → k ≤ m + w → 17 ≤ m + w - k → cap < binom (m + w) k - binom m k
far_apart m w k l p u d =
    le_trans (middle_past (m + w - 1) (k - 1) (omega arith) (omega arith) (omega arith)) (gain_below m w k p (omega arith))

-- Where what it gains is cut, so is the difference ..
pub gain_cut : (m w k gain : ℕ) → 0 < w → 0 < k → gain ≡ capped (binom (m + w - 1) (k - 1)) → cap < gain → suc cap ≡ capped (binom (m + w) k - binom m k)
gain_cut m w k gain p q e h =
    let past : cap < binom (m + w - 1) (k - 1) = capped_passes (binom (m + w - 1) (k - 1)) (omega arith) in
    sym (capped_large (binom (m + w) k - binom m k) (le_trans past (gain_below m w k p q)))

-- .. and else what was given out is the entry itself ..
pub gain_exact : (n v : ℕ) → v ≡ capped n → v < 4294967296 → v ≡ n
unfolding cap
gain_exact n v e h = e ∙ capped_exact n (omega arith)

-- .. and so is that of a smaller row.
pub smaller_row : (m w k gain v : ℕ) → gain < 4294967296 → gain ≡ binom (m + w - 1) (k - 1) → v ≡ capped (binom (m - 1) (k - 1)) → (v ≡ binom (m - 1) (k - 1)) × (v < 4294967296)
unfolding cap
smaller_row m w k gain v h e f =
    let rise : binom (m - 1) (k - 1) ≤ binom (m + w - 1) (k - 1) = binom_mono_upper (k - 1) (omega arith) in
    let same : v ≡ binom (m - 1) (k - 1) = f ∙ capped_small (binom (m - 1) (k - 1)) (omega arith) in
    (same, omega arith)

pub alone : (m k above more : ℕ) → m < k → above ≡ more → capped above ≡ capped (more - binom m k)
alone m k above more h e =
    let same : above ≡ more - binom m k = omega (arith, binom_vanishes m k h) in
    ap capped same

pub ordered : (m w k above below : ℕ) → above ≡ binom (m + w) k → below ≡ binom m k → below ≤ above
ordered m w k above below e f =
    let rise : binom m k ≤ binom (m + w) k = binom_mono_upper k (omega arith) in
    omega arith
