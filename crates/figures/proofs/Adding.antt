-- Sums of runs, one run more at a time, and what they come to; they stay small.
-- Assumes nothing.
use Prim.Native.Nat.{ℕ, suc, ◌+◌, ◌*◌, ◌≤◌, ◌<◌}
use native.Mathlib.Nat.{zero-add, add-zero, add_assoc}
use native.Mathlib.Omega.{arith}
use mathlib.Core.Path.{◌≡◌, refl, sym, ◌∙◌}
use mathlib.Core.Bool.{Bool, true, false, cond}
use mathlib.Core.List.{List, [], ◌∷◌}
use lib.Dec.{ltb}
use lib.IntN.{ℤ, pos, nat_abs, ◌+ℤ◌, +ℤ_idl, +ℤ_idr, +ℤ_assoc}
use lib.ListN.{length}
use borrow.Author.Tests.{lt-ltb, le-ltb}
use Rattle.plpb.specs.Lists.{keep, count, sum_by}
use Rattle.plpb.specs.Search.{Answer}
use Rattle.counting.proofs.Signed.{size_sum}
use Rattle.figures.specs.declared.Sums.{Sums}
use Rattle.figures.specs.Figures.{has_find, costs, sums_of, AtMost, plus, plus_run}

abbrev pub sums : ℕ → ℕ → ℤ → Sums
sums found flips cost = record { found = found; flips = flips; cost = cost }

same_sums : {a b c d : ℕ} {x y : ℤ} → a ≡ b → c ≡ d → x ≡ y → sums a c x ≡ sums b d y
same_sums e f g = rw (e, f, g)

-- ---- one run more

module _ (s : Sums) (finds flips : ℕ) (cost : ℤ) where
  pub plus_none : {z : ℤ} → finds ≡ 0 → z ≡ s.cost → sums s.found (s.flips + flips) z ≡ plus s finds flips cost
  unfolding plus
  plus_none e h =
      let none : ltb 0 finds ≡ false = le-ltb 0 finds (omega arith) in
      rw (none, h) (same_sums (omega arith) refl refl)

  pub plus_find : {z : ℤ} → 0 < finds → z ≡ s.cost +ℤ cost → sums (s.found + 1) (s.flips + flips) z ≡ plus s finds flips cost
  unfolding plus
  plus_find l h = rw (lt-ltb 0 finds l, h)

  pub plus_most : (n : ℕ) → AtMost n s → flips ≤ 16_384 → nat_abs cost ≤ 512_000_000 → AtMost (suc n) (plus s finds flips cost)
  unfolding plus
  plus_most n m f c =
      record {
        found = either_found (ltb 0 finds);
        flips = omega (arith, m.flips);
        cost = either_cost (ltb 0 finds);
      }
    where
      either_found : (b : Bool) → s.found + cond b 1 0 ≤ suc n
      either_found true = omega (arith, m.found)
      either_found false = omega (arith, m.found)

      either_cost : (b : Bool) → nat_abs (cond b (s.cost +ℤ cost) s.cost) ≤ 512_000_000 * suc n
      either_cost true = omega (arith, m.cost, size_sum s.cost cost)
      either_cost false = omega (arith, m.cost)

-- Fewer runs are no more.
pub most_more : (n m : ℕ) (s : Sums) → n ≤ m → AtMost n s → AtMost m s
most_more n m s h a =
    record {
      found = omega (arith, a.found);
      flips = omega (arith, a.flips);
      cost = omega (arith, a.cost);
    }

-- ---- all of them

unfoldable pub total : Sums → List Answer → Sums
total s [] = s
total s (r ∷ rs) = total (plus_run s r) rs

total_sums : (s : Sums) (rs : List Answer)
    → total s rs ≡ sums (s.found + count has_find rs) (s.flips + sum_by (λ r. r.flips) rs) (s.cost +ℤ costs (keep has_find rs))
unfolding total count keep sum_by costs plus has_find
total_sums s [] = same_sums (sym (add-zero s.found)) (sym (add-zero s.flips)) (sym (+ℤ_idr s.cost))
total_sums s (r ∷ rs) = total_sums (plus_run s r) rs ∙ step (ltb 0 r.finds)
  where
    step : (b : Bool)
        → sums (s.found + cond b 1 0 + length (keep has_find rs)) (s.flips + r.flips + sum_by (λ q. q.flips) rs)
        (cond b (s.cost +ℤ r.cost) s.cost +ℤ costs (keep has_find rs))
        ≡ sums (s.found + length (cond b (r ∷ keep has_find rs) (keep has_find rs))) (s.flips + (r.flips + sum_by (λ q. q.flips) rs))
        (s.cost +ℤ costs (cond b (r ∷ keep has_find rs) (keep has_find rs)))
    step true = same_sums (omega arith) (add_assoc s.flips r.flips _) (+ℤ_assoc s.cost r.cost _)
    step false = same_sums (omega arith) (add_assoc s.flips r.flips _) refl

pub total_all : (rs : List Answer) → total (sums 0 0 (pos 0)) rs ≡ sums_of rs
unfolding sums_of
total_all rs = total_sums (sums 0 0 (pos 0)) rs ∙ same_sums (zero-add _) (zero-add _) (+ℤ_idl _)
