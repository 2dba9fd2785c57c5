-- `spelling::put_bytes` meets its contract. The invariant: the bytes to come make the whole.
-- Assumes nothing.
use lib.ListN.{drop}
use Rattle.spelling.proofs.Puts.{Left}
use Rattle.spelling.proofs.put_bytes.Given as goal

abbrev pub invariant-loop-b : goal.invariant-loop-b
invariant-loop-b l = Left l.bytes l.at l.initial.out (drop l.b-index l.bytes) l.next l.out
