-- `stands_at` meets its contract: the literal at the place is true or false.
-- Assumes nothing.
use Rattle.rules.proofs.Finding.{stands_on, stands_off}
use Rattle.rules.proofs.place.stands_at.Goals as goal

pub returns-then-l : goal.returns-then-l
returns-then-l c = rw c.in-Some.is (stands_on c.read_literal-l.ensures c.if-l.true)

pub returns-else-l : goal.returns-else-l
returns-else-l c = rw c.in-Some.is (stands_off c.read_literal-l.ensures c.if-l.false)
