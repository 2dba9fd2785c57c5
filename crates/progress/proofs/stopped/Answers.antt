-- `stopped` meets its contract.
-- Assumes nothing.
use mathlib.Core.Path.{refl}
use Rattle.progress.specs.Bounds.{StoppedAt}
use Rattle.progress.proofs.stopped.Goals as goal

pub returns-in-Ok : goal.returns-in-Ok
unfolding StoppedAt
returns-in-Ok c = rw c.in-Ok.is (refl, refl)

pub returns-in-Err-Failed : goal.returns-in-Err-Failed
unfolding StoppedAt
returns-in-Err-Failed c = let why = rw c.in-Err-Failed.is at c.in-Err-Failed.field-0-is in rw (c.in-Err-Failed.is, why) (refl, refl)

pub returns-in-Err-Short : goal.returns-in-Err-Short
unfolding StoppedAt
returns-in-Err-Short c = let why = rw c.in-Err-Short.is at c.in-Err-Short.field-0-is in rw (c.in-Err-Short.is, why) (refl, refl)
