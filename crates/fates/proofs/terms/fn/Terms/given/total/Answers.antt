-- What a term gives to the sum of the locked variables.
-- Assumes nothing.
use Prim.Native.Nat.{ℕ}
use mathlib.Core.Bool.{Bool, false}
use mathlib.Core.Path.{◌≡◌}
use lib.IntN.{ℤ, pos}
use mir.Facts.{to_z-of_z}
use borrow.Author.Rules.{rules}
use Rattle.squeezed.specs.Squeezed.{given}
use Rattle.fates.specs.Maps.{becomes}
use Rattle.fates.specs.Sums.{Given, part_of}
use Rattle.fates.specs.declared.map.Code.{Code}
use Rattle.fates.specs.declared.map.Code.TheVariants.{Locked, New}
use Rattle.fates.proofs.terms.fn.Terms.given.total.Goals as goal

off_gives : {code : Code} {value : Bool} (w : ℤ) → code ≡ Locked value → value ≡ false → pos 0 ≡ part_of Given (becomes code) w
unfolding part_of given
off_gives w e f = rw (e, f)

new_gives : {code : Code} {k : ℕ} (w : ℤ) → code ≡ New k → pos 0 ≡ part_of Given (becomes code) w
unfolding part_of given
new_gives w e = rw e

pub returns-in-Locked-true : goal.returns-in-Locked-true
unfolding part_of given
returns-in-Locked-true c = rw (c.in-Locked-true.is, c.in-Locked-true.field-0-test) (to_z-of_z c.ranges.weight)

pub returns-in-Locked-false : goal.returns-in-Locked-false
returns-in-Locked-false c = search (rules, off_gives, new_gives)

pub returns-in-Locked-false-2 : goal.returns-in-Locked-false-2
returns-in-Locked-false-2 c = search (rules, off_gives, new_gives)
