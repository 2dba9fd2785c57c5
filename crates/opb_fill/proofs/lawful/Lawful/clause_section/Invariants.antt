-- `Lawful::clause_section` meets its contract. The invariant: the entries of the clauses passed stand at the front. The measure is how many are left.
-- Assumes nothing.
use Rattle.opb_fill.proofs.Filled.{ClauseFill}
use Rattle.opb_fill.proofs.lawful.Lawful.clause_section.Given as goal

abbrev pub invariant-loop-c : goal.invariant-loop-c
invariant-loop-c l = ClauseFill l.clauses l.initial.out l.c l.out
