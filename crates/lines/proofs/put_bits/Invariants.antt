-- `lines::put_bits` meets its contract. The invariant: the first i characters are written, the rest as it was.
-- Assumes nothing.
use mathlib.Core.List.{map}
use Rattle.lines.proofs.Writing.{Copied, character}
use Rattle.lines.proofs.put_bits.Given as goal

abbrev pub invariant-loop-i : goal.invariant-loop-i
invariant-loop-i l = Copied (map character l.bits) l.initial.out l.out l.i
