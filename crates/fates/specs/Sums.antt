-- The sums over a field's terms, each as the code works it out: one part of each term after the other.
-- Assumes nothing.
use Rattle.std.specs.Prelude.{ℕ, ◌+◌, ◌*◌, ◌≤◌, ◌≡◌, Bool, true, List, [], ◌∷◌, leb, ℤ, pos, ◌+ℤ◌, length}
use Rattle.plpb.specs.Lists.{◌and◌, all}
use Rattle.plpb.specs.Plan.{Term, negative_part}
use Rattle.format.specs.Limits.{max_variables, weight_lawful}
use Rattle.format.specs.File.{terms_at}
use Rattle.squeezed.specs.Squeezed.{Becomes, locked, renumbered, given, positive_part}

-- The three sums.
pub data Part : Type 0 where
  Given : Part
  Least : Part
  Greatest : Part

-- What a term gives to the sum of the locked variables, or to the least or the greatest sum of the others.
unfoldable pub part_of : Part → Becomes → ℤ → ℤ
part_of Given m w = given m w
part_of Least (locked v) w = pos 0
part_of Least (renumbered k) w = negative_part w
part_of Greatest (locked v) w = pos 0
part_of Greatest (renumbered k) w = positive_part w

unfoldable pub part_total : Part → (ℕ → Becomes) → List Term → ℤ
part_total part f [] = pos 0
part_total part f (t ∷ ts) = part_of part (f t.variable) t.weight +ℤ part_total part f ts

-- Terms whose variables have a place in a map, with weights within their range.
unfoldable pub small_terms : List Term → Bool
small_terms ts = all (λ t. leb t.variable max_variables and weight_lawful t.weight) ts

-- Terms of a field that stand in the file, are no more than a rule may have, and are small.
pub record TermsFit (s : List ℕ) (from count : ℕ) : Type 0 where
  pub inside : from + 6 * count ≤ length s
  pub few : count ≤ max_variables
  pub small : small_terms (terms_at s from count) ≡ true
