-- `locks_fault` meets its contract: only a field 06 has locks.
-- Assumes nothing.
use mathlib.Core.Path.{refl}
use Rattle.format.specs.File.{length_at}
use Rattle.faults.specs.Faults.{state_of}
use Rattle.faults.proofs.Faults.{told, entries_body, locks_none, locks_some}
use Rattle.faults.proofs.Field.locks_fault.Goals as goal

pub returns-in-Locks : goal.returns-in-Locks
unfolding state_of length_at
returns-in-Locks c =
    locks_some _ _ _ _ (told c.args.self.tagged c.in-Locks.is)
    (entries_body _ _ c.args.self.headed c.end.ensures _ _ c.entries_fault.ensures) refl

pub returns-in_default : goal.returns-in_default
unfolding state_of
returns-in_default c = locks_none _ _ _ c.args.self.tagged c.in_default.not-Locks
