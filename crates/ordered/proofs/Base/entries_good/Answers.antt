-- The goals that the search leaves.
use mathlib.Core.Bool.{not}
use mathlib.Core.Path.{ap}
use native.Mathlib.Omega.{arith}
use mathlib.Core.Path.{sym, ◌∙◌}
use Rattle.ordered.proofs.Words.{entry_low, entry_high}
use Rattle.ordered.proofs.Runs.{entries_turn, entries_refused, entries_below, entries_end}
use Rattle.ordered.proofs.Base.entries_good.Goals as goal

pub returns-then-r-least : goal.returns-then-r-least
returns-then-r-least c = entries_below _ _ _ _ _ _ c.loop-k-test.true c.word-w.ensures (entry_low _ _ _ _ c.rule_in-r.ensures c.if-r-least.true) ∙ c.loop-k.invariant.1

pub returns-then-not-entry_good : goal.returns-then-not-entry_good
returns-then-not-entry_good c =
    entries_refused _ _ _ _ _ _ c.loop-k-test.true c.word-w.ensures (entry_high _ _ _ _ c.rule_in-r.ensures (omega (arith, c.if-r-least.false)) c.entry_good.ensures) (ap not c.if-not-entry_good.true)
    ∙ c.loop-k.invariant.1

pub loop-k-preserved : goal.loop-k-preserved
loop-k-preserved c = (
  omega (arith, c.loop-k-test.true),
  sym (entries_turn _ _ _ _ _ _ c.loop-k-test.true c.word-w.ensures (entry_high _ _ _ _ c.rule_in-r.ensures (omega (arith, c.if-r-least.false)) c.entry_good.ensures) (ap not c.if-not-entry_good.false) c.rule_in-r.ensures)
      ∙ c.loop-k.invariant.1,
)

pub returns : goal.returns
returns c = sym (entries_end _ _ _ _ _ _ c.loop-k-test.false) ∙ c.loop-k.invariant.1
