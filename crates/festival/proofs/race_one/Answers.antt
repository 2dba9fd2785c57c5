-- `festival::race_one` meets its contract: what the search promises, at the race's places.
-- Assumes nothing.
use Rattle.festival.specs.Own.{works}
use Rattle.festival.proofs.Racing.{race_made}
use Rattle.festival.proofs.race_one.Goals as goal

-- src/lib.rt:88:1
pub returns : goal.returns
returns c =
    let a = c.args in
    let s = c.search-r in
    race_made a.i a.tables.now a.terms.now a.numbers.now a.s a.assignments.now a.answers.now
    (works a.work_tables.now a.work_terms.now a.work_assignment.now a.work_tallies.now a.work_marks.now)
    c.requires.0 c.requires.1 s.ensures.searches s.auto.assignment c.put_answer.ensures
