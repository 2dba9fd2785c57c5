-- `report::respond_loaded` meets its contract: walk.bin and then numbers.bin decide, or the search answers.
-- Assumes nothing.
use Rattle.format.specs.Tables.{plan_of_tables}
use Rattle.report.proofs.Reporting.{written, settings_lawful, numbers_accepted}
use Rattle.report.proofs.respond_loaded.Goals as goal

pub search_plan-requires : goal.search_plan-requires
search_plan-requires c =
    let a = c.args in (
      c.requires.0,
      c.requires.1,
      c.requires.2,
      settings_lawful a.walk.now (plan_of_tables a.tables.now a.terms.now) a.numbers.now c.in-Ok.settings c.in-Ok.ensures.0,
      c.requires.3,
    )

pub returns-in-Ok : goal.returns-in-Ok
returns-in-Ok c =
    let a = c.args in
    written a.out.now c.search_plan.ensures
    (numbers_accepted a.walk.now (plan_of_tables a.tables.now a.terms.now) a.numbers.now c.in-Ok.settings c.in-Ok.ensures.0 c.in-Ok.ensures.1)
