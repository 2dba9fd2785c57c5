-- `lines::assignment_line` meets its contract: the assignment where something was found, - otherwise.
-- Assumes nothing.
use Prim.Native.Nat.{◌≤◌}
use native.Mathlib.Omega.{arith}
use lib.ListN.{length}
use Rattle.lines.proofs.Items.{none_written, bits_written}
use Rattle.lines.proofs.assignment_line.Goals as goal

pub returns-in_default : goal.returns-in_default
returns-in_default c = rw c.in_default.is (none_written _ c.put_word.ensures.0 c.put_word.ensures.1)

pub returns : goal.returns
returns c =
    let few : length c.in-Some.bits.now ≤ 512 = rw c.in-Some.is at c.requires.1 in
    rw c.in-Some.is (bits_written _ c.in-Some.bits.now (omega (arith, few, c.requires.0, c.put_bits.auto.out)) c.put_bits.ensures)
