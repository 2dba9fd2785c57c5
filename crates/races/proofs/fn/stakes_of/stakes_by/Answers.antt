-- The closure of `stakes_of` meets its contract: what stands there is the stake, and past the last race there is none.
-- Assumes nothing.
use native.Mathlib.Omega.{arith}
use Rattle.races.proofs.Turns.{stake_at, length_stakes, none_past}
use Rattle.races.proofs.fn.stakes_of.stakes_by.Goals as goal

pub returns-then-i-races : goal.returns-then-i-races
returns-then-i-races c = stake_at c.captures.races.now c.args.i _ c.if-i-races.true

pub returns-else-i-races : goal.returns-else-i-races
returns-else-i-races c = none_past _ c.args.i (omega (arith, length_stakes c.captures.races.now, c.if-i-races.false))
