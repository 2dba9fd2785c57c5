-- `weigh` meets its contract. The invariant: the weights of the entries before k are written. The measure is what is left.
-- Assumes nothing.
use Prim.Native.Nat.{◌≤◌}
use Rattle.recount.specs.Plans.{plan}
use Rattle.weighing.proofs.Weighing.{WeighedTo}
use Rattle.weighing.proofs.weigh.Given as goal

abbrev pub invariant-loop-k : goal.invariant-loop-k
invariant-loop-k l = (l.k ≤ l.count) × WeighedTo (plan l.t) l.k l.initial.marks l.marks
