-- `numbers::bit_of` meets its contract: the last digit of the number shifted.
-- Assumes nothing.
use Rattle.numbers.proofs.Taking.{bit_is}
use Rattle.numbers.proofs.bit_of.Goals as goal

pub returns : goal.returns
returns c = bit_is c.args.i c.args.number
