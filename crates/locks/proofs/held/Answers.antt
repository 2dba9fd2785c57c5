-- `held` meets its contract, by the lock that the word tells.
-- Assumes nothing.
use mathlib.Core.Bool.{Bool, true, false, cond}
use mathlib.Core.Path.{◌≡◌, refl, ◌∙◌}
use mir.Val.{bool_byte}
use Rattle.format.proofs.LockTold.{told}
use Rattle.locks.specs.Held.{held_by}
use Rattle.locks.proofs.held.Goals as goal

bit : (b : Bool) → bool_byte b ≡ cond b 1 0
bit true = refl
bit false = refl

pub returns-in-None : goal.returns-in-None
unfolding held_by
returns-in-None c = told c.args.byte 0 1 c.args.lock c.lock_of.ensures c.in-None.is

pub returns-in-Some : goal.returns-in-Some
unfolding held_by
returns-in-Some c = c.from.ensures ∙ bit _ ∙ told c.args.byte 0 1 c.args.lock c.lock_of.ensures c.in-Some.is
