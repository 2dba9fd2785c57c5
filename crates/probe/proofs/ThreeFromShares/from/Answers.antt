-- `Three::from` meets its contract: each of the three as it is given out.
-- Assumes nothing.
use mathlib.Core.List.{◌++◌}
use mathlib.Core.Path.{ap₂}
use Rattle.counting.specs.Count.{count_words}
use Rattle.probe.specs.Answers.{share_words}
use Rattle.probe.proofs.ThreeFromShares.from.Goals as goal

pub returns : goal.returns
unfolding share_words count_words
returns c = ap₂ ◌++◌ c.from.ensures (ap₂ ◌++◌ c.from-2.ensures c.from-3.ensures)
