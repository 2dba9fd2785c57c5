-- `statements::kind_at` meets its contract.
-- Assumes nothing.
use borrow.Author.Tests.{eq-eqb, ne_eqb}
use native.Mathlib.Omega.{arith}
use mathlib.Core.Path.{sym, ◌∙◌}
use Rattle.statements.specs.Grammar.{is_comment, is_objective}
use Rattle.statements.proofs.kind_at.Goals as goal

pub returns-in-42 : goal.returns-in-42
unfolding is_comment
returns-in-42 c = eq-eqb _ 42 (sym c.byte.ensures ∙ c.in-42.is)

pub returns-in-109 : goal.returns-in-109
unfolding is_comment is_objective
returns-in-109 c =
    let is = sym c.byte.ensures ∙ c.in-109.is in
    (ne_eqb _ 42 (λ e. omega (arith, e, is)), eq-eqb _ 109 is)

pub returns-in_default : goal.returns-in_default
unfolding is_comment is_objective
returns-in_default c = (ne_eqb _ 42 (λ e. omega (arith, e, c.byte.ensures)), ne_eqb _ 109 (λ e. omega (arith, e, c.byte.ensures)))
