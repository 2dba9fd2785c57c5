-- `was_true` meets its contract, by cases on the sign and on the value.
-- Assumes nothing.
use mathlib.Core.Path.{◌≡◌, refl}
use mathlib.Core.Bool.{Bool, true, false, not, cond, beq}
use lib.Dec.{eqb}
use Prim.Native.Nat.{◌%◌}
use Rattle.keeping.specs.Keeping.{was_true}
use Rattle.keeping.proofs.was_true.Goals as goal

as_sign : (value odd : Bool) → beq value odd ≡ cond odd value (not value)
as_sign true true = refl
as_sign true false = refl
as_sign false true = refl
as_sign false false = refl

pub returns : goal.returns
unfolding was_true
returns c = as_sign c.args.value (eqb (c.args.w % 2) 1)
