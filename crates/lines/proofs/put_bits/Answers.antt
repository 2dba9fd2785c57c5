-- The goals that the search leaves.
use native.Mathlib.Omega.{arith}
use lib.ListN.{length-map}
use Rattle.lines.proofs.Writing.{character, copied_all}
use Rattle.lines.proofs.put_bits.Goals as goal

pub returns : goal.returns
returns c = copied_all c.loop-i.invariant (omega (arith, c.loop-i-test.false, length-map c.args.bits.now character))
