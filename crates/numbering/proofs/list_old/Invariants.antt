-- `list_old` meets its contract. The invariant: the variables passed that have a new number stand at the front.
-- Assumes nothing.
use Rattle.numbering.proofs.Listing.{Listing}
use Rattle.numbering.proofs.list_old.Given as goal

abbrev pub invariant-loop-x : goal.invariant-loop-x
invariant-loop-x l = Listing l.map.words.now l.n l.initial.list l.list l.x l.i
