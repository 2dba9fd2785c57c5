-- `add_terms` meets its contract. The invariant: the terms to come, written where the next goes, leave what all of them leave.
-- Assumes nothing.
use Rattle.objective.proofs.AddedTerms.{Adding}
use Rattle.objective.proofs.added.add_terms.Given as goal

abbrev pub invariant-loop-v : goal.invariant-loop-v
invariant-loop-v l = Adding l.tables l.first l.n l.initial.terms l.terms l.at l.v
