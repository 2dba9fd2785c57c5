-- Laws for loops over numbers in a row, one turn and how they end, and for the library's search of a range.
-- Assumes nothing.
use Prim.Native.Nat.{ℕ, zero, suc, ◌+◌, ◌-◌, ◌≤◌, ◌<◌}
use native.Mathlib.Numerals.{add-one}
use native.Mathlib.Omega.{arith}
use mathlib.Core.Path.{◌≡◌, refl, ap, ◌∙◌}
use mathlib.Core.Bool.{Bool, true, false}
use mathlib.Core.List.{[], ◌∷◌, map}
use Rattle.std.specs.Prelude.{◌||◌}
use Rattle.std.specs.List.{list_any, range_with_len}
use Rattle.plpb.specs.Lists.{◌or◌, any, row}

-- What is left of a row from i up to e.
module _ {A : Type 0} (h : ℕ → A) where
  pub along_step : (i e : ℕ) → i < e → map h (row i (e - i)) ≡ h i ∷ map h (row (i + 1) (e - (i + 1)))
  unfolding row
  along_step i e l =
      let z : e - i ≡ suc (e - (i + 1)) = omega arith in
      rw (z, add-one i) refl

  pub along_end : (i e : ℕ) → e ≤ i → map h (row i (e - i)) ≡ []
  unfolding row
  along_end i e l = let z : e - i ≡ 0 = omega arith in rw z refl

-- The library's search of a range is that of the plan's definitions.
module _ {A : Type 0} (q : A → Bool) (h : ℕ → A) where
  or_same : (b c : Bool) → (b || c) ≡ (b or c)
  unfolding ◌or◌
  or_same true c = refl
  or_same false c = refl

  pub any_along : (i n : ℕ) → list_any (λ k. q (h k)) (range_with_len i n) ≡ any q (map h (row i n))
  unfolding any row
  any_along i zero = refl
  any_along i (suc n) = or_same _ _ ∙ ap (λ b. q (h i) or b) (any_along (i + 1) n ∙ ap (λ j. any q (map h (row j n))) (add-one i))
