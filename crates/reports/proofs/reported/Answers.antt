-- `reported` meets its contract: all that the runs need has been tested, and each buffer is cleared to its limit.
-- Assumes nothing.
use native.Mathlib.Omega.{arith}
use Rattle.reports.proofs.Refusing.{passed}
use Rattle.reports.proofs.Reporting.{reporting}
use Rattle.reports.proofs.reported.Goals as goal

pub repeat_runs-sums-requires : goal.repeat_runs-sums-requires
repeat_runs-sums-requires c =
    let p = passed _ _ c.requires in
    (p.ready, omega (arith, p.few), omega (arith, p.short))

pub clear_first-requires : goal.clear_first-requires
clear_first-requires c =
    let p = passed _ _ c.requires in
    omega (arith, p.ready.numbers, c.numbers-1.given)

pub clear_first-requires-2 : goal.clear_first-requires-2
clear_first-requires-2 c =
    let p = passed _ _ c.requires in
    omega (arith, p.ready.searchable.room, c.assignment-1.given)

pub clear_work-requires : goal.clear_work-requires
clear_work-requires c =
    let s = (passed _ _ c.requires).ready.searchable in (
      omega (arith, s.work_long, c.work_tables-1.given),
      omega (arith, s.work_long_terms, c.work_terms-1.given),
      omega (arith, s.work.assignment, c.work_assignment-1.given),
      omega (arith, s.work.tallies, c.work_tallies-1.given),
      omega (arith, s.work.marks, c.work_marks-1.given),
    )

pub figures-requires : goal.figures-requires
figures-requires c =
    let p = passed _ _ c.requires in
    (omega (arith, p.some, c.from.ensures), c.repeat_runs-sums.ensures.most)

pub returns : goal.returns
returns c =
    let q = c.clear_work.ensures in
    reporting _ _ c.requires c.from.ensures
    c.repeat_runs-sums.ensures
    c.figures.ensures
    c.clear_first.ensures
    c.clear_first-2.ensures
    q.tables_after
    q.terms_after
    q.tried_after
    q.tallies_after
    q.marks_after
