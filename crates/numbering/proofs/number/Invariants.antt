-- `number` meets its contract. The invariant: the variables passed have their codes, the others their words.
-- Assumes nothing.
use Rattle.numbering.proofs.Coding.{Numbering}
use Rattle.numbering.proofs.number.Given as goal

abbrev pub invariant-loop-x : goal.invariant-loop-x
invariant-loop-x l = Numbering l.initial.map l.n l.map l.x l.free
