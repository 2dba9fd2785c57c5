-- `tables::sections::term_section` meets its contract. The invariant: the terms of the rules passed stand at the front, and with those of
-- the rules left they are all terms. The measure is the bytes left of the file.
-- Assumes nothing.
use Prim.Native.Nat.{◌-◌}
use lib.ListN.{length}
use Rattle.tables.specs.Places.{plan_of_file}
use Rattle.tables.proofs.Filled.{TermFill}
use Rattle.tables.proofs.Lawful.term_section.Given as goal

abbrev pub invariant-loop-at : goal.invariant-loop-at
invariant-loop-at l = TermFill l.self.file.now (plan_of_file l.self.file.now) l.initial.terms l.at l.end l.terms

abbrev pub decreases-loop-at : goal.decreases-loop-at
decreases-loop-at l = length l.self.file.now - l.at
