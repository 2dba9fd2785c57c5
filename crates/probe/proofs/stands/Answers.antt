-- `stands` meets its contract, number by number.
-- Assumes nothing.
use native.Mathlib.Omega.{arith}
use mathlib.Core.Path.{refl}
use borrow.Author.Tests.{ne_eqb}
use Rattle.probe.specs.Answers.{standing_for}
use Rattle.probe.proofs.stands.Goals as goal

pub returns-in-0 : goal.returns-in-0
unfolding standing_for
returns-in-0 c = rw c.in-0.is refl

pub returns-in-1 : goal.returns-in-1
unfolding standing_for
returns-in-1 c = rw c.in-1.is refl

pub returns-in_default : goal.returns-in_default
unfolding standing_for
returns-in_default c = rw (ne_eqb c.args.case 0 (λ e. omega (arith, e)), ne_eqb c.args.case 1 (λ e. omega (arith, e))) refl
