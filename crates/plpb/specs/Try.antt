-- What a try has come to, from its start on (document 01, "The walk").
-- Assumes nothing.
use Rattle.std.specs.Prelude.{ℕ, List, [], ◌∷◌}
use Rattle.plpb.specs.Plan.{Plan, Assignment, flip, hold}
use Rattle.plpb.specs.Numbers.{start_of}

-- The assignment that a try holds, and the variables flipped in this try, the last one first.
pub record Try : Type 0 where
  pub bits : Assignment
  pub flips : List ℕ

-- "for each try, take ⌈n/32⌉ numbers; variable i gets bit (i−1) mod 32 .."; "A try's start still uses all its numbers, then locked variables take their
-- value."
unfoldable pub begun : Plan → List ℕ → Try
begun p ws = record { bits = hold p (start_of p.variables ws); flips = [] }

-- A try after a flip.
unfoldable pub turn_over : Try → ℕ → Try
turn_over t x = record { bits = flip t.bits x; flips = x ∷ t.flips }
