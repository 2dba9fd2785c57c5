-- `Sum::total` meets its contract. The invariant: the sum is that of the terms from the one last taken on, whatever numbers the calls give.
-- Assumes nothing.
use mathlib.Core.Bool.{Bool}
use Rattle.words.specs.Words.{word_at}
use Rattle.extremes.specs.Sums.{Parts}
use Rattle.extremes.proofs.Summing.{Summing}
use Rattle.extremes.proofs.sum.Sum.total.Given as goal

abbrev pub invariant-loop-i : goal.invariant-loop-i
invariant-loop-i g l = (b : Bool) → Parts (goal.F-post g l.part) b → Summing b (word_at l.self.terms.now) l.self.first l.self.count l.i l.sum
