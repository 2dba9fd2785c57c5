-- `locks::entry_fault` meets its contract: 5, then 10.
-- Assumes nothing.
use mathlib.Core.Path.{sym, ◌∙◌}
use borrow.Author.Tests.{lt-ltb, le-ltb}
use Rattle.format.specs.File.{refuse}
use Rattle.bodies.specs.Locks.{entry_fault}
use Rattle.bodies.proofs.locks.entry_fault.Goals as goal

pub returns-then-not-takes : goal.returns-then-not-takes
unfolding entry_fault refuse
returns-then-not-takes c = rw (sym c.takes.ensures ∙ c.if-not-takes.true)

pub returns-then-value-gt1 : goal.returns-then-value-gt1
unfolding entry_fault refuse
returns-then-value-gt1 c = rw (sym c.takes.ensures ∙ c.if-not-takes.false, lt-ltb 1 _ c.if-value-gt1.true)

pub returns : goal.returns
unfolding entry_fault refuse
returns c = rw (sym c.takes.ensures ∙ c.if-not-takes.false, le-ltb 1 _ c.if-value-gt1.false)
