-- `report::search_plan` meets its contract: nothing is refused, and what is written is the answer's text.
-- Assumes nothing.
use native.Mathlib.Omega.{arith}
use Rattle.report.proofs.Answering.{few_variables, search_written}
use Rattle.report.proofs.Reporting.{written}
use Rattle.report.proofs.search_plan.Goals as goal

pub write_answer-requires : goal.write_answer-requires
write_answer-requires c =
    let few = few_variables c.args.tables.now c.args.terms.now c.requires.0 in
    (omega (arith, c.requires.1), few, omega (arith, few, c.assignment-2-1.given), c.requires.4)

pub returns : goal.returns
returns c =
    let s = c.search-r in
    let k = s.auto in
    written c.args.out.now c.write_answer.ensures
    (search_written _ _ _ _ s.ensures.searches c.requires.0 c.requires.1 c.requires.2 c.requires.3
    k.assignment
    (omega (arith, k.assignment, c.assignment-2-1.given))
    (omega (arith, k.work_tables, c.work_tables-2-1.given))
    (omega (arith, k.work_terms, c.work_terms-2-1.given))
    (omega (arith, k.work_assignment, c.work_assignment-2-1.given))
    (omega (arith, k.work_tallies, c.work_tallies-2-1.given))
    (omega (arith, k.work_marks, c.work_marks-2-1.given)))
