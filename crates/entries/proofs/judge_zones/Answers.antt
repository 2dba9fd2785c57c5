-- The goals that the search leaves.
use native.Mathlib.Omega.{arith}
use mathlib.Core.Path.{sym, ap, ◌∙◌}
use Rattle.rows.proofs.Rows.{no_bytes_lem}
use Rattle.lists.specs.Refusals.{Judged}
use Rattle.entries.specs.Judging.{fault_number}
use Rattle.entries.proofs.Rows.{bytes_left, none_left, judge_end, some_fault, at_fault, well_read, row_read, row_here, row_fits, row_next, stop_missing, go_listed}
use Rattle.entries.proofs.judge_zones.Goals as goal

pub unwrap-row-requires : goal.unwrap-row-requires
unwrap-row-requires c = well_read _ _ _ _ c.loop-rest.invariant.0 (bytes_left _ c.is_empty.ensures c.loop-rest-test.true) c.requires.0 _ c.read_row.ensures

pub at_row-requires : goal.at_row-requires
at_row-requires c = omega (arith, row_fits _ _ _ _ c.loop-rest.invariant.0 c.unwrap-row.result (bytes_left _ c.is_empty.ensures c.loop-rest-test.true) (row_read c.unwrap-row.ensures c.read_row.ensures))

pub returns-then-not-among : goal.returns-then-not-among
returns-then-not-among c =
    let at = c.loop-rest in
    let e =
    stop_missing _ _ _ _ at.invariant.0 c.unwrap-row.result (bytes_left _ c.is_empty.ensures c.loop-rest-test.true) (row_read c.unwrap-row.ensures c.read_row.ensures) _ _ _ _ (fault_number c.args.fault) _ c.requires.0 c.requires.1 (some_fault c.args.fault)
    c.zone_column-own.ensures (rw c.beside-other_list.ensures at c.zone_column-theirs.ensures) c.field_in.ensures _ (rw c.beside-other_list.ensures at c.among.ensures) c.if-not-among.true
    in
    rw c.at_row.ensures (at_fault c.args.fault _ (sym at.invariant.1 ∙ e))

pub overflow_add-k : goal.overflow_add-k
overflow_add-k c = omega (arith, row_fits _ _ _ _ c.loop-rest.invariant.0 c.unwrap-row.result (bytes_left _ c.is_empty.ensures c.loop-rest-test.true) (row_read c.unwrap-row.ensures c.read_row.ensures))

pub loop-rest-smaller : goal.loop-rest-smaller
loop-rest-smaller c = omega (arith, row_here _ _ _ _ c.loop-rest.invariant.0 c.unwrap-row.result (bytes_left _ c.is_empty.ensures c.loop-rest-test.true) (row_read c.unwrap-row.ensures c.read_row.ensures))

pub loop-rest-preserved : goal.loop-rest-preserved
loop-rest-preserved c =
    let at = c.loop-rest in
    let read = row_read c.unwrap-row.ensures c.read_row.ensures in
    let e =
    go_listed _ _ _ _ at.invariant.0 c.unwrap-row.result (bytes_left _ c.is_empty.ensures c.loop-rest-test.true) read _ _ _ _ (fault_number c.args.fault) _ c.requires.0 c.requires.1 (some_fault c.args.fault)
    c.zone_column-own.ensures (rw c.beside-other_list.ensures at c.zone_column-theirs.ensures) c.field_in.ensures _ (rw c.beside-other_list.ensures at c.among.ensures) c.if-not-among.false
    in
    (row_next _ _ _ _ at.invariant.0 c.unwrap-row.result (bytes_left _ c.is_empty.ensures c.loop-rest-test.true) read, sym e ∙ at.invariant.1)

pub returns : goal.returns
returns c = ap (λ (j : Judged). j.fault) (sym c.loop-rest.invariant.1 ∙ judge_end _ _ _ (no_bytes_lem _ _ _ _ c.loop-rest.invariant.0 (none_left _ c.is_empty.ensures c.loop-rest-test.false)))
