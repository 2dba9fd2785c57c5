-- The numbers of the faults, as docs/REFUSALS.md has them.
-- Assumes nothing.
use Rattle.std.specs.Prelude.{ℕ, Result, Ok, Err}
use Rattle.bodies.specs.declared.Fault.{Fault}
use Rattle.bodies.specs.declared.Fault.TheVariants.{CutShort, WrongTag, WrongLength, TooLarge, WrongTerm, WrongBound, BytesAfterEnd, WrongLock}

abbrev pub number : Fault → ℕ
number CutShort = 1
number WrongTag = 2
number WrongLength = 3
number TooLarge = 4
number WrongTerm = 5
number WrongBound = 6
number BytesAfterEnd = 7
number WrongLock = 10

-- The number of what was found, 0 where nothing is wrong.
abbrev pub found : {A : Type 0} → Result A Fault → ℕ
found (Ok a) = 0
found (Err fault) = number fault
