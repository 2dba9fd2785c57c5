-- What a choice among the variables of a clause needs.
-- Assumes nothing.
use Rattle.std.specs.Prelude.{ℕ, ◌/◌, ◌≤◌, ◌<◌, List, [], length}
use Rattle.plpb.specs.Try.{Try}
use Rattle.effects.specs.declared.footing.Footing.{Footing}
use Rattle.effects.specs.Footing.{bits_on}
use Rattle.picks.specs.declared.choice.Choice.{Choice}
use Rattle.picks.specs.Picks.{of_clause, Pickable}
use Rattle.picks.specs.Choice.{variables, Rankable, Marked}

-- A try with the assignment that is lent. SKC asks for nothing but that: which flips were made before does not matter.
abbrev pub try_on : Footing → Try
try_on q = record { bits = bits_on q; flips = [] }

-- There is a variable to choose, and the place in the list of numbers is one of it.
pub record ToChoose (q : Footing) (marks : List ℕ) (c : ℕ) (numbers : List ℕ) (used : ℕ) : Type 0 where
  pub pickable : Pickable q marks c
  pub some : 0 < length (of_clause q c)
  pub listed : used ≤ length numbers / 4

-- .. what of it a clause to choose of still needs.
pub record Choosable (q : Choice) (marks numbers : List ℕ) (used : ℕ) : Type 0 where
  pub marked : Marked q marks
  pub some : 0 < length (variables q)
  pub listed : used ≤ length numbers / 4

-- .. and what of that where no hint is asked.
pub record Drawable (q : Choice) (marks numbers : List ℕ) (used : ℕ) : Type 0 where
  pub marked : Rankable q marks
  pub some : 0 < length (variables q)
  pub listed : used ≤ length numbers / 4
