-- `rulelines::put_bound` meets its contract: one line where the bound is there, else none.
-- Assumes nothing.
use Prim.Native.Nat.{◌≤◌}
use native.Mathlib.Omega.{arith}
use mathlib.Core.Path.{sym}
use lib.IntN.{nat_abs}
use Rattle.spelling.proofs.Puts.{puts_nothing, puts_same, room_same}
use Rattle.rulelines.proofs.Lines.{bound_absent, bound_present, bound_held, small_by}
use Rattle.rulelines.proofs.put_bound.Goals as goal

pub returns-in_default : goal.returns-in_default
returns-in_default c = rw c.in_default.is (puts_same (bound_absent _ _) (puts_nothing _ _))

pub put_constraint-requires : goal.put_constraint-requires
put_constraint-requires c =
    let small : nat_abs c.in-Some.b ≤ 1_000_000_000 = rw c.in-Some.is at c.requires.small in
    record {
      small = (omega arith, small_by {z = c.in-Some.b} (bound_held small) (omega (arith, small)));
      room = rw (bound_held small) (room_same _ (bound_present _ _ _) (rw c.in-Some.is at c.requires.room));
    }

pub returns : goal.returns
returns c =
    let small : nat_abs c.in-Some.b ≤ 1_000_000_000 = rw c.in-Some.is at c.requires.small in
    rw c.in-Some.is (puts_same (sym (bound_present _ _ _)) (rw (bound_held small) at c.put_constraint.ensures))
