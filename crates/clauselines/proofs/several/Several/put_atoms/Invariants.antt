-- `Several::put_atoms` meets its contract: the new variables, one after another. The invariant: what is left makes the whole.
-- Assumes nothing.
use Rattle.clauselines.proofs.Looping.{Looping}
use Rattle.constraints.specs.Bytes.{sum_bytes}
use Rattle.clauselines.specs.Clauses.{atom_terms}
use Rattle.clauselines.proofs.Rules.{atom_rest}
use Rattle.clauselines.proofs.several.Several.put_atoms.Given as goal

abbrev pub invariant-loop-i : goal.invariant-loop-i
invariant-loop-i l =
    let s = l.self in
    Looping (sum_bytes (atom_terms s.before s.count)) (atom_rest s.before s.count) s.count l.at l.initial.out l.i l.next l.out
