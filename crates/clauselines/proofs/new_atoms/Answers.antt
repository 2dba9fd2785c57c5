-- `clauselines::new_atoms` meets its contract: by whether the clause has one rule.
-- Assumes nothing.
use mathlib.Core.Path.{refl, sym}
use borrow.Author.Tests.{eq-eqb, ne_eqb}
use Rattle.clauselines.specs.Clauses.{atom_count}
use Rattle.clauselines.proofs.new_atoms.Goals as goal

pub returns-then-count-eq1 : goal.returns-then-count-eq1
unfolding atom_count
returns-then-count-eq1 c = rw (sym c.index-count.ensures, eq-eqb c.index-count.result 1 c.if-count-eq1.true) refl

pub returns-else-count-eq1 : goal.returns-else-count-eq1
unfolding atom_count
returns-else-count-eq1 c = rw (sym c.index-count.ensures, ne_eqb c.index-count.result 1 c.if-count-eq1.false) refl
