-- `run_once` meets its contract: the search reads the numbers just written, and its answer is added.
-- Assumes nothing.
use Rattle.runs.proofs.Once.{numbers_read, numbers_past, flips_few, cost_small, run_added, assignment_past, tried_past, marks_past}
use Rattle.runs.proofs.run_once.Goals as goal

pub with-sums-requires : goal.with-sums-requires
with-sums-requires c =
    let fill = c.fill-state.ensures in
    let core = c.search_core-r.ensures.0 in
    let loaded = c.requires.0.searchable.loaded in
    let read = numbers_read c.args.count c.args.from.state c.args.numbers.now fill.1 in (
      c.requires.2,
      flips_few _ _ _ c.args.s c.args.count c.args.from.state loaded c.requires.1 read core,
      cost_small _ _ _ c.args.s c.args.count c.args.from.state loaded c.requires.1 read core,
    )

pub returns : goal.returns
returns c =
    let fill = c.fill-state.ensures in
    let core = c.search_core-r.ensures in
    let loaded = c.requires.0.searchable.loaded in
    let few = c.requires.1 in
    let count = c.args.count in
    let g = c.args.from.state in
    let read = numbers_read count g c.args.numbers.now fill.1 in
    record {
      state = fill.0;
      sums = run_added _ _ _ c.args.s count g loaded few read core.0 c.args.from.sums c.with-sums.ensures;
      within =
          record {
            numbers = record { size = c.numbers-1.given; beyond = numbers_past count g c.args.numbers.now fill.1 few c.requires.0.numbers };
            assignment = assignment_past _ _ _ c.args.s count g loaded few read core.0 c.requires.0.searchable.room c.assignment-1.given;
            work_tables = record { size = c.work_tables-1.given; beyond = core.1 };
            work_terms = record { size = c.work_terms-1.given; beyond = core.2 };
            work_assignment = tried_past _ _ _ c.args.s count g loaded few read core.0 c.work_assignment-1.given;
            work_tallies = record { size = c.work_tallies-1.given; beyond = core.0.beyond.tallies };
            work_marks = marks_past _ _ _ c.args.s count g loaded few read core.0 c.work_marks-1.given;
          };
    }
