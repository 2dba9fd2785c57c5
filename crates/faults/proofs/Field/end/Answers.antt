-- `end` meets its contract: behind the head and the body.
-- Assumes nothing.
use native.Mathlib.Omega.{arith}
use Rattle.format.specs.File.{length_at}
use Rattle.faults.proofs.Faults.{body_room}
use Rattle.faults.proofs.Field.end.Goals as goal

pub overflow_add-result-2 : goal.overflow_add-result-2
overflow_add-result-2 c = omega (arith, c.read_size.ensures, body_room _ _ c.args.self.headed)

pub returns : goal.returns
unfolding length_at
returns c = omega (arith, c.read_size.ensures)
