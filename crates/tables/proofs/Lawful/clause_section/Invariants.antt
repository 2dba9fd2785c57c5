-- `tables::sections::clause_section` meets its contract. The invariant: the entries of the clauses passed stand at the front, and with those
-- of the clauses left they are all entries. The measure is the bytes left of the file.
-- Assumes nothing.
use Prim.Native.Nat.{◌-◌}
use lib.ListN.{length}
use Rattle.tables.specs.Places.{plan_of_file}
use Rattle.tables.proofs.Filled.{ClauseFill}
use Rattle.tables.proofs.Lawful.clause_section.Given as goal

abbrev pub invariant-loop-at : goal.invariant-loop-at
invariant-loop-at l = ClauseFill l.self.file.now (plan_of_file l.self.file.now) l.initial.out l.at l.clauses l.first l.out

abbrev pub decreases-loop-at : goal.decreases-loop-at
decreases-loop-at l = length l.self.file.now - l.at
