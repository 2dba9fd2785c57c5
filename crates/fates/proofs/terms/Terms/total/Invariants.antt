-- `Terms::total` meets its contract. The invariant: the sum and what the terms to come give are the whole sum, whatever numbers the calls give.
-- Assumes nothing.
use Prim.Native.Nat.{◌+◌, ◌*◌, ◌-◌}
use Rattle.fates.specs.Sums.{Part}
use Rattle.fates.specs.Parts.{Gives}
use Rattle.fates.proofs.Parts.{Summing}
use Rattle.fates.proofs.terms.Terms.total.Given as goal

abbrev pub invariant-loop-i : goal.invariant-loop-i
invariant-loop-i g l =
    (p : Part) → Gives (goal.F-post g l.part) p → Summing l.self.file.now l.self.map.words.now p l.self.from l.self.count (l.self.from + 6 * l.i) (l.self.count - l.i) l.sum
