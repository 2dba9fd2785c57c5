-- `terms::keep_terms` meets its contract. The invariant: what is written and what the terms left still give is the whole.
-- Assumes nothing.
use Prim.Native.Nat.{◌+◌, ◌*◌, ◌-◌}
use Rattle.rewriting.proofs.Termwise.{Keeping}
use Rattle.rewriting.proofs.terms.keep_terms.Given as goal

abbrev pub invariant-loop-i : goal.invariant-loop-i
invariant-loop-i l = Keeping l.initial.file l.map.words.now l.from l.count l.to l.file (l.from + 6 * l.i) (l.count - l.i) l.end
