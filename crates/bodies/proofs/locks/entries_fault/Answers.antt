-- The goals that the search leaves.
use mathlib.Core.Path.{sym, ◌∙◌}
use Rattle.bodies.proofs.Found.{not_none, found_err}
use Rattle.bodies.proofs.LockLaws.{entries_end, entries_go, entries_stop}
use Rattle.bodies.proofs.locks.entries_fault.Goals as goal

pub returns-in_err-entry_fault : goal.returns-in_err-entry_fault
returns-in_err-entry_fault c =
    found_err _ _ c.from_residual.ensures.1
    ∙ sym (entries_stop _ _ _ _ _ _ _ c.loop-i-test.true c.read_u16-variable.ensures c.in_err-entry_fault.ensures (not_none _))
    ∙ c.loop-i.invariant.1

pub loop-i-preserved : goal.loop-i-preserved
loop-i-preserved c =
    (c.loop-i.invariant.0, sym (entries_go _ _ _ _ _ _ c.loop-i-test.true c.read_u16-variable.ensures c.in_ok-entry_fault.ensures) ∙ c.loop-i.invariant.1)

pub returns : goal.returns
returns c = sym (entries_end _ _ _ _ _ c.loop-i-test.false) ∙ c.loop-i.invariant.1
