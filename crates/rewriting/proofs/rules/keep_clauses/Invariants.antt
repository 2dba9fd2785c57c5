-- `rules::keep_clauses` meets its contract. The invariant: what is written and what the clauses left still give is the whole, and they stand as they
-- stood. The measure is the bytes left.
-- Assumes nothing.
use Prim.Native.Nat.{◌-◌}
use lib.ListN.{length}
use Rattle.fates.specs.Codes.{decoded}
use Rattle.rewriting.proofs.Clausewise.{Passing}
use Rattle.rewriting.proofs.rules.keep_clauses.Given as goal

abbrev pub invariant-loop-file : goal.invariant-loop-file
invariant-loop-file l = Passing (decoded l.map.words.now) l.initial.file l.from l.to l.file l.at l.end

abbrev pub decreases-loop-file : goal.decreases-loop-file
decreases-loop-file l = length l.initial.file - l.at
