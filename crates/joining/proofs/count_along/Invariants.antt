-- `count_along` meets its contract. The invariant: the rules before the next are joined, and the places from i on are those of the rules from it on.
-- Assumes nothing.
use Prim.Native.Nat.{suc}
use mathlib.Core.Path.{◌≡◌}
use Rattle.order.specs.Order.{first_rule}
use Rattle.groups.specs.Group.{plan, bits}
use Rattle.joining.proofs.Pairs.{Counting}
use Rattle.joining.proofs.count_along.Given as goal

abbrev pub invariant-loop-r : goal.invariant-loop-r
invariant-loop-r l =
    let g = l.group in
    let rest = l.r-iterator in
    Counting (plan g) (bits g) g.run.now.x g.clause g.first g.end rest.start l.i l.counted l.pair × (rest.end ≡ first_rule (plan g).clauses (suc g.clause))
