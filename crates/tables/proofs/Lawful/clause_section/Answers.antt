-- The goals that the search leaves.
use native.Mathlib.Omega.{arith}
use Rattle.tables.proofs.Found.{begun_file, begun_front, begun_room}
use Rattle.tables.proofs.Filled.{lawful_file, clause_start, clause_few, clause_space, clause_room_lem, clause_reads, clause_rules, clause_part, clause_more, clause_on, clause_count_lem, clause_end}
use Rattle.tables.proofs.Lawful.clause_section.Goals as goal

pub loop-at-init : goal.loop-at-init
loop-at-init c =
    clause_start _ _ _ _ (lawful_file _ _ c.args.self.accepts) c.requires.out_len (begun_file _ _ c.args.self.accepts) c.first_clause-at.ensures

pub bounds-file-at : goal.bounds-file-at
bounds-file-at c = omega (arith, clause_room_lem c.loop-at.invariant)

pub clause_run-run-requires : goal.clause_run-run-requires
clause_run-run-requires c = clause_reads c.loop-at.invariant c.loop-at-test.true

pub overflow_mul-place : goal.overflow_mul-place
overflow_mul-place c = omega (arith, clause_few c.loop-at.invariant)

pub slice_bounds-put_clause-count : goal.slice_bounds-put_clause-count
slice_bounds-put_clause-count c = clause_space c.loop-at.invariant

pub slice_bounds-put_clause-start : goal.slice_bounds-put_clause-start
slice_bounds-put_clause-start c = clause_space c.loop-at.invariant

pub put_clause-requires : goal.put_clause-requires
put_clause-requires c =
    let h = clause_rules c.loop-at.invariant c.loop-at-test.true _ _ c.clause_run-run.ensures in
    (clause_part c.loop-at.invariant c.loop-at-test.true, omega arith, omega arith)

pub overflow_add-first : goal.overflow_add-first
overflow_add-first c =
    omega (arith, clause_rules c.loop-at.invariant c.loop-at-test.true _ _ c.clause_run-run.ensures)

pub overflow_add-clauses : goal.overflow_add-clauses
overflow_add-clauses c = omega (arith, clause_few c.loop-at.invariant)

pub loop-at-smaller : goal.loop-at-smaller
loop-at-smaller c =
    omega (arith, clause_on c.loop-at.invariant _ _ c.clause_run-run.ensures, clause_room_lem c.loop-at.invariant)

pub loop-at-preserved : goal.loop-at-preserved
loop-at-preserved c =
    clause_more c.loop-at.invariant c.loop-at-test.true _ _ _ c.clause_run-run.ensures c.put_clause.ensures

pub overflow_mul-end : goal.overflow_mul-end
overflow_mul-end c = omega (arith, clause_few c.loop-at.invariant)

pub slice_bounds-clear-count : goal.slice_bounds-clear-count
slice_bounds-clear-count c =
    omega (arith, clause_space c.loop-at.invariant, c.loop-at.invariant.same, c.requires.out_len)

pub slice_bounds-clear-start : goal.slice_bounds-clear-start
slice_bounds-clear-start c =
    omega (arith, clause_space c.loop-at.invariant, c.loop-at.invariant.same, c.requires.out_len)

pub returns : goal.returns
returns c =
    (clause_count_lem c.loop-at.invariant c.loop-at-test.false, clause_end c.loop-at.invariant c.loop-at-test.false _ c.clear.ensures)

pub first_clause-at-requires : goal.first_clause-at-requires
first_clause-at-requires c = (begun_front _ _ c.args.self.accepts, omega (arith, begun_room _ _ c.args.self.accepts))
