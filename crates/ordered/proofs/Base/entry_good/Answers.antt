-- `entry_good` meets its contract: the word's rule, then its term.
-- Assumes nothing.
use native.Mathlib.Omega.{arith}
use mathlib.Core.Bool.{not}
use mathlib.Core.Path.{ap}
use Rattle.ordered.proofs.Words.{entry_refused, entry_told}
use Rattle.ordered.proofs.Base.entry_good.Goals as goal

pub returns-then-not-rule_stands : goal.returns-then-not-rule_stands
returns-then-not-rule_stands c = entry_refused _ _ _ _ (omega (arith, c.ranges.w.fits)) c.rule_stands.ensures (ap not c.if-not-rule_stands.true)

pub returns : goal.returns
returns c = entry_told _ _ _ _ (omega (arith, c.ranges.w.fits)) c.rule_stands.ensures (ap not c.if-not-rule_stands.false) c.term_stands.ensures
