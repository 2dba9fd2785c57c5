-- The goals that the search leaves.
use native.Mathlib.Omega.{arith}
use Rattle.division.proofs.Stepwise.{mixed_first}
use Rattle.races.proofs.Turns.{stake_next, stakes_all}
use Rattle.races.proofs.stakes_by.Goals as goal

pub loop-i-init : goal.loop-i-init
loop-i-init g c = λ ss long told. mixed_first _ _

pub loop-i-preserved : goal.loop-i-preserved
loop-i-preserved g c = λ ss long told. stake_next ss c.loop-i.i _ (omega (arith, c.loop-i-test.true)) (c.loop-i.invariant ss long told) (told _ _ c.stake.ensures)

pub returns : goal.returns
returns g c = λ ss long told. stakes_all ss c.loop-i.i _ (omega (arith, c.loop-i-test.false)) long (c.loop-i.invariant ss long told)
