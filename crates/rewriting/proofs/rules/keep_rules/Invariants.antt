-- `rules::keep_rules` meets its contract. The invariant: what is written and what the rules left still give is the whole, and they stand as they
-- stood. The measure is the bytes left.
-- Assumes nothing.
use Prim.Native.Nat.{◌-◌}
use lib.ListN.{length}
use Rattle.fates.specs.Codes.{decoded}
use Rattle.rewriting.proofs.Rulewise.{Moving}
use Rattle.rewriting.proofs.rules.keep_rules.Given as goal

abbrev pub invariant-loop-file : goal.invariant-loop-file
invariant-loop-file l = Moving (decoded l.map.words.now) l.initial.file l.from l.to l.file l.at l.end

abbrev pub decreases-loop-file : goal.decreases-loop-file
decreases-loop-file l = length l.initial.file - l.at
