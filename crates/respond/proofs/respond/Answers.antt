-- `respond::respond` meets its contract: the sizes, then the plan, then all else. Assumes nothing.
use native.Mathlib.Omega.{arith}
use mathlib.Core.Path.{◌∙◌}
use Rattle.report.proofs.Reporting.{written}
use Rattle.respond.proofs.Responding.{output_long, output_read, plan_refused, plan_loaded, plan_accepted}
use Rattle.respond.proofs.respond.Goals as goal

pub returns-then-any_too_long : goal.returns-then-any_too_long
returns-then-any_too_long c =
    let a = c.args in
    written a.out.now c.refusal_line.ensures (output_long a.more a.plan.now a.walk.now a.numbers.now c.any_too_long.ensures c.if-any_too_long.true)

pub respond_loaded-requires : goal.respond_loaded-requires
respond_loaded-requires c =
    let e = c.load.ensures in (
      plan_loaded c.args.plan.now c.args.tables.now c.args.terms.now c.requires.0 c.requires.1 e.value c.in-Ok.is e.tables_after e.terms_after,
      omega (arith, c.requires.0, c.load.auto.tables),
      omega (arith, c.requires.1, c.load.auto.terms),
      c.requires.2,
    )

pub returns-in-Err : goal.returns-in-Err
returns-in-Err c =
    let a = c.args in
    written a.out.now c.refusal_line-in-Err.ensures
    (plan_refused a.plan.now a.tables.now a.terms.now c.requires.0 c.requires.1 c.load.ensures.value a.walk.now a.numbers.now c.in-Err.is
    ∙ output_read a.more a.plan.now a.walk.now a.numbers.now c.any_too_long.ensures c.if-any_too_long.false)

pub returns-in-Ok : goal.returns-in-Ok
returns-in-Ok c =
    let a = c.args in
    let e = c.load.ensures in
    written a.out.now c.respond_loaded.ensures
    (plan_accepted a.plan.now a.tables.now a.terms.now c.requires.0 c.requires.1 e.value c.in-Ok.is e.tables_after e.terms_after a.walk.now a.numbers.now
    ∙ output_read a.more a.plan.now a.walk.now a.numbers.now c.any_too_long.ensures c.if-any_too_long.false)
