-- `loaded::clauses_good` meets its contract: the two parts of its definition.
-- Assumes nothing.
use Prim.Native.Nat.{◌*◌, ◌-◌}
use mathlib.Core.Path.{◌≡◌}
use native.Mathlib.Omega.{arith}
use Rattle.format.specs.Good.{clauses_good}
use Rattle.format.proofs.Bools.{both}
use Rattle.format.proofs.Good.{zeros_are}
use Rattle.format.specs.Layout.{clause_first_at, clause_word_count, rules_at}
use Rattle.loaded.proofs.Counted.clauses_good.Goals as goal

pub returns : goal.returns
unfolding clauses_good
returns c =
    let n : rules_at - (clause_first_at c.args.self.clauses) ≡ clause_word_count - 2 * c.args.self.clauses = omega arith in
    rw (both, c.chain.ensures, zeros_are _ _ _ _ c.zeros.ensures, n, c.args.self.counts.1, c.args.self.counts.2)
