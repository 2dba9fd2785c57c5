-- An ending as a number meets its contract: each has the number that the definition gives it.
-- Assumes nothing.
use Prim.Native.Nat.{◌+◌}
use mathlib.Core.Path.{◌≡◌, refl}
use denote.Enum.Declared.{tag_of}
use Rattle.progress.specs.Bounds.{ending_of, ending_number}
use Rattle.progress.specs.contracts.Ending.{the_type}
use Rattle.progress.specs.declared.Ending.{Ending}
use Rattle.progress.specs.declared.Ending.TheVariants as code
use Rattle.progress.proofs.U32FromEnding.from.Goals as goal

numbered : (e : Ending) → tag_of the_type e + 1 ≡ ending_number (ending_of e)
unfolding ending_number ending_of
numbered code.Floor = refl
numbered code.Ended = refl
numbered code.None = refl
numbered code.ShortFound = refl
numbered code.ShortNone = refl

pub returns : goal.returns
returns c = numbered c.args.ending
