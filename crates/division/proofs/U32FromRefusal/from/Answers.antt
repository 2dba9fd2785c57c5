-- A refusal as a number meets its contract, by the refusal.
-- Assumes nothing.
use Rattle.division.specs.Eight.{refusal_number}
use Rattle.division.proofs.U32FromRefusal.from.Goals as goal

pub returns-in-NoRoom : goal.returns-in-NoRoom
unfolding refusal_number
returns-in-NoRoom c = rw c.in-NoRoom.is

pub returns-in-WrongCount : goal.returns-in-WrongCount
unfolding refusal_number
returns-in-WrongCount c = rw c.in-WrongCount.is

pub returns-in-WrongStake : goal.returns-in-WrongStake
unfolding refusal_number
returns-in-WrongStake c = rw c.in-WrongStake.is
