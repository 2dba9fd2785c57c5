-- `begins_at` meets its contract: the place is the run's first, or the one before it is of another clause.
-- Assumes nothing.
use native.Mathlib.Omega.{arith}
use mathlib.Core.Path.{sym, ◌∙◌}
use borrow.Author.Tests.{eq-eqb, not-true}
use Rattle.plpb.proofs.Lists.{false_T}
use Rattle.freely.proofs.Begins.{begins_behind}
use Rattle.freely.proofs.begins_at.Goals as goal

pub returns-then-k-run : goal.returns-then-k-run
returns-then-k-run c = λ e.
    let r = c.args.run.now in
    begins_behind r.going (omega (arith, c.requires.1, r.ends)) (omega (arith, c.requires.0, r.begins)) (λ l. absurd (omega (arith, c.if-k-run.true, l, r.begins)))

pub returns : goal.returns
returns c = λ e.
    let r = c.args.run.now in
    begins_behind r.going (omega (arith, c.requires.1, r.ends)) (omega (arith, c.requires.0, r.begins))
    (λ l same. absurd (false_T (sym (eq-eqb c.clause_at.result c.clause_at-2.result (c.clause_at.ensures ∙ same ∙ sym c.clause_at-2.ensures)) ∙ not-true _ e) tt))
