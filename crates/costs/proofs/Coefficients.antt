-- Sums over the variables: the objective's terms, read back from the table, sum up as its coefficients do, because a variable without a term has
-- coefficient 0.
-- Assumes nothing.
use Prim.Native.Nat.{ℕ, zero, suc, ◌+◌, ◌*◌, ◌-◌, ◌≤◌, ◌<◌, zero-le}
use native.Mathlib.Nat.{eq-or-lt_of_le}
use native.Mathlib.Numerals.{add-one}
use native.Mathlib.Omega.{arith}
use mathlib.Core.Path.{◌≡◌, refl, sym, ap, ◌∙◌}
use mathlib.Core.Bool.{Bool, true, false, cond}
use mathlib.Core.List.{List, [], ◌∷◌}
use mathlib.Core.Logic.{⊎_elim}
use lib.Dec.{eqb}
use lib.IntN.{ℤ, pos, negsuc, nat_abs, ◌+ℤ◌, +ℤ_idl, +ℤ_idr, +ℤ_assoc}
use lib.ListN.{get_or, take, get_or-map}
use lib.Seq.{get_or-take}
use Rattle.std.specs.Int.{int_min}
use mir.Facts.{to_z-of_z}
use mir.Syntax.{w64}
use mir.Val.{SFits, to_z, of_z}
use borrow.Author.Tests.{lt-ltb}
use Rattle.plpb.specs.Lists.{keep, row}
use Rattle.plpb.specs.Plan.{Term, value, total, negative_part}
use Rattle.words.specs.Words.{word_at, signed}
use Rattle.format.specs.Tables.{objective_of, sparse, named, is_some}
use Rattle.format.proofs.Bounds.{nat_abs_zero}
use Rattle.format.proofs.Objective.{sparse_skip, sparse_hold}
use Rattle.counting.proofs.Signed.{small_fits, size_sum}
use Rattle.format.specs.Assignment.{bits_in, bits_of}
use Rattle.costs.specs.Sums.{cost_in, least_by, least_in, floor_in, weight_at, share_at, least_at, sum_from}
use Rattle.format.specs.Layout.{locks_at, lock_at}

-- ---- a sum over terms, and over coefficients

-- Two sums are equal where their numbers are.
pub sum_from_same : (g h : ℕ → ℤ) (n i k : ℕ) → i + k ≤ n → ((j : ℕ) → j < n → g j ≡ h j) → sum_from g i k ≡ sum_from h i k
unfolding sum_from
sum_from_same g h n i zero l e = refl
sum_from_same g h n i (suc k) l e = rw (e i (omega arith), sum_from_same g h n (suc i) k (omega arith) e)

-- A sum over terms to which a term of weight 0 gives nothing.
module _
    (F : List Term → ℤ) (s : Term → ℤ) (none : F [] ≡ pos 0) (more : (t : Term) (ts : List Term) → F (t ∷ ts) ≡ s t +ℤ F ts)
    (nothing : (t : Term) → t.weight ≡ pos 0 → s t ≡ pos 0)
  where
    pub terms_summed : (h : ℕ → ℤ) (v k : ℕ) → F (sparse h v k) ≡ sum_from (λ i. s (named h (suc i))) v k
    unfolding sum_from sparse named keep row
    terms_summed h v zero = none
    terms_summed h v (suc k) =
        let rest = terms_summed h (suc v) k in
        ⊎_elim
        (λ z.
        ap F (sparse_skip h v k (sym z)) ∙ rest ∙ sym (+ℤ_idl _)
        ∙ ap (λ x. x +ℤ sum_from (λ i. s (named h (suc i))) (suc v) k) (sym (nothing (named h (suc v)) (sym (nat_abs_zero (h (suc v)) (sym z))))))
        (λ z. ap F (sparse_hold h v k z) ∙ more _ _ ∙ ap (λ x. s (named h (suc v)) +ℤ x) rest)
        (eq-or-lt_of_le {n = 0} zero-le)

-- Word 3 + x as word 4 + i, where x is variable i + 1.
pub place : (i : ℕ) → 3 + suc i ≡ 4 + i
place i = omega arith

-- Its lock at word 6,667 + i.
pub lock_place : (i : ℕ) → lock_at (suc i) ≡ locks_at + i
lock_place i = omega arith

-- The bit of variable i + 1.
bit_at : (n : ℕ) (bytes : List ℕ) (i : ℕ) → i < n → value (bits_of n bytes) (suc i) ≡ eqb (get_or bytes i 0) 1
unfolding value bits_of bits_in
bit_at n bytes i h = get_or-map (λ b. eqb b 1) (take n bytes) i 0 ∙ ap (λ b. eqb b 1) (get_or-take n bytes i 0 h)

no_share : (b : Bool) (w : ℤ) → w ≡ pos 0 → cond b w (pos 0) ≡ pos 0
no_share true w e = e
no_share false w e = refl

no_least : (lock : ℕ) (w : ℤ) → w ≡ pos 0 → least_by lock w ≡ pos 0
unfolding negative_part least_by
no_least lock w e = rw e (either (eqb lock 0) (eqb lock 1))
  where
    either : (b c : Bool) → cond b (pos 0) (cond c (pos 0) (pos 0)) ≡ pos 0
    either true c = refl
    either false true = refl
    either false false = refl

-- What an assignment costs is what its variables cost; l(O) what they cost at least.
pub cost_summed :
    (tables bytes : List ℕ)
    → cost_in tables (bits_of (word_at tables 0) bytes) ≡ sum_from (share_at tables bytes) 0 (word_at tables 0)
unfolding cost_in objective_of share_at weight_at total sparse named is_some
cost_summed tables bytes =
    let n = word_at tables 0 in
    let a = bits_of n bytes in
    terms_summed (total a) (λ t. cond (value a t.variable) t.weight (pos 0)) refl (λ t ts. refl)
    (λ t. no_share (value a t.variable) t.weight) (λ x. signed (word_at tables (3 + x))) 0 n
    ∙ sum_from_same _ _ n 0 n (omega arith) (λ i h. rw (bit_at n bytes i h, place i))

pub floor_summed : (tables : List ℕ) → floor_in tables ≡ sum_from (least_at tables) 0 (word_at tables 0)
unfolding floor_in least_in objective_of least_at weight_at sparse named is_some
floor_summed tables =
    let n = word_at tables 0 in
    terms_summed (least_in tables) (λ t. least_by (word_at tables (lock_at t.variable)) t.weight) refl (λ t ts. refl)
    (λ t. no_least (word_at tables (lock_at t.variable)) t.weight) (λ x. signed (word_at tables (3 + x))) 0 n
    ∙ sum_from_same _ _ n 0 n (omega arith) (λ i h. rw (place i, lock_place i))

-- ---- summing up one after the other

-- With i of n numbers added, the others make up what is missing.
abbrev pub Summed : (ℕ → ℤ) → ℕ → ℤ → ℕ → Type 0
Summed g n sum i = sum +ℤ sum_from g i (n - i) ≡ sum_from g 0 n

module _ (g : ℕ → ℤ) (n : ℕ) where
  pub summed_none : Summed g n (pos 0) 0
  summed_none = rw (+ℤ_idl _) (ap (sum_from g 0) (omega arith))

  pub summed_more : (sum : ℤ) (i : ℕ) → i < n → Summed g n sum i → Summed g n (sum +ℤ g i) (i + 1)
  unfolding sum_from
  summed_more sum i h r =
      let k : n - i ≡ suc (n - suc i) = omega arith in
      let e : sum +ℤ (g i +ℤ sum_from g (suc i) (n - suc i)) ≡ sum_from g 0 n = rw (k, sum_from) at r in
      rw (add-one i) (+ℤ_assoc sum (g i) _ ∙ e)

  pub summed_all : (sum : ℤ) (i : ℕ) → n ≤ i → Summed g n sum i → sum ≡ sum_from g 0 n
  unfolding sum_from
  summed_all sum i h r =
      let k : n - i ≡ 0 = omega arith in
      sym (+ℤ_idr sum) ∙ (rw (k, sum_from) at r)

-- One step as the machine takes it, with numbers of size a million at most: r is the number that was worked out, `sum` the sum's bits.
module _ (n sum i : ℕ) (r : ℤ) (high : n ≤ 512) (h : i < n) (f : SFits w64 r) (small : nat_abs r ≤ 1_000_000) (low : nat_abs (to_z w64 sum) ≤ 1_000_000 * i) where
  added : to_z w64 sum +ℤ to_z w64 (of_z w64 r) ≡ to_z w64 sum +ℤ r
  added = ap (λ z. to_z w64 sum +ℤ z) (to_z-of_z f)

  step_fits : SFits w64 (to_z w64 sum +ℤ to_z w64 (of_z w64 r))
  step_fits = rw added (small_fits _ (omega (arith, low, small, size_sum (to_z w64 sum) r)))

  pub step_is : to_z w64 (of_z w64 (to_z w64 sum +ℤ to_z w64 (of_z w64 r))) ≡ to_z w64 sum +ℤ r
  step_is = to_z-of_z step_fits ∙ added

  pub step_small : nat_abs (to_z w64 (of_z w64 (to_z w64 sum +ℤ to_z w64 (of_z w64 r)))) ≤ 1_000_000 * (i + 1)
  step_small = rw step_is (omega (arith, low, small, size_sum (to_z w64 sum) r))

-- How large the numbers are.
pub share_small : (tables bytes : List ℕ) (i : ℕ) → nat_abs (weight_at tables i) ≤ 1_000_000 → nat_abs (share_at tables bytes i) ≤ 1_000_000
unfolding share_at
share_small tables bytes i h = either (eqb (get_or bytes i 0) 1)
  where
    either : (b : Bool) → nat_abs (cond b (weight_at tables i) (pos 0)) ≤ 1_000_000
    either true = h
    either false = zero-le

pub negative_small : (w : ℤ) → nat_abs w ≤ 1_000_000 → nat_abs (negative_part w) ≤ 1_000_000
unfolding negative_part
negative_small (pos n) h = zero-le
negative_small (negsuc n) h = h

pub least_small : (tables : List ℕ) (i : ℕ) → nat_abs (weight_at tables i) ≤ 1_000_000 → nat_abs (least_at tables i) ≤ 1_000_000
unfolding least_at least_by
least_small tables i h = either (eqb (word_at tables (locks_at + i)) 0) (eqb (word_at tables (locks_at + i)) 1)
  where
    either : (b c : Bool) → nat_abs (cond b (negative_part (weight_at tables i)) (cond c (pos 0) (weight_at tables i))) ≤ 1_000_000
    either true c = negative_small (weight_at tables i) h
    either false true = zero-le
    either false false = h

-- The library's lesser of a number and 0 is its negative part.
pub negative_min : (w : ℤ) → int_min w (pos 0) ≡ negative_part w
unfolding negative_part
negative_min (pos zero) = refl
negative_min (pos (suc n)) = rw (lt-ltb 0 (suc n) (omega arith))
negative_min (negsuc n) = refl
