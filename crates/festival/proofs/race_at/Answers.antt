-- `festival::race_at` meets its contract: the race's plan, settings and part are picked out, and it is made.
-- Assumes nothing.
use Rattle.festival.specs.Own.{works}
use Rattle.festival.specs.Festival.{given_in, buffers}
use Rattle.festival.proofs.Racing.{part_is, race_is}
use Rattle.festival.proofs.race_at.Goals as goal

pub returns : goal.returns
returns c =
    let a = c.args in
    race_is
    (given_in a.g.now) a.i
    a.part
    (buffers a.assignments.now a.answers.now
    (works a.work_tables.now a.work_terms.now a.work_assignment.now a.work_tallies.now a.work_marks.now))
    c.one_of-tables.ensures c.one_of-terms.ensures (part_is a.g.now.numbers.now a.part) c.settings_at-s.ensures
    c.race_one.ensures
