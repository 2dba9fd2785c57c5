-- The goals that the search leaves.
use Rattle.std.proofs.Common.{rules, None}
use Rattle.std.proofs.lemmas.Result.{err_from_is_err_and}
use native.Mathlib.Omega.{arith}
use Prim.Native.Nat.{◌+◌}
use mathlib.Core.Path.{◌≡◌, refl, sym, ap, ◌∙◌}
use Rattle.entries.specs.Judging.{found, fault_number}
use Rattle.entries.specs.declared.Fault.TheVariants.{Malformed, Repeated}
use Rattle.rows.proofs.Rows.{no_bytes_lem}
use Rattle.entries.proofs.Rows.{bytes_left, none_left, judge_end, some_fault, at_fault, left_fits, unread, err_is, stop_malformed, row_read, row_here, row_next, stop_own, stop_53, go_on}
use Rattle.entries.proofs.Verdicts.{went, none_found}
use Rattle.entries.proofs.judge_list.Goals as goal

pub at_row-requires : goal.at_row-requires
at_row-requires c = omega (arith, left_fits _ _ _ _ c.loop-rest.invariant.0 (bytes_left _ c.is_empty.ensures c.loop-rest-test.true) _ c.read_row.ensures)

pub returns-in_err-row : goal.returns-in_err-row
returns-in_err-row c =
    let at = c.loop-rest in
    let p = err_from_is_err_and c.from_residual.result c.from_residual.ensures.1 in
    let none : c.read_row.result ≡ None = c.in_err-row.ensures.ok_part in
    let e = stop_malformed _ _ _ _ at.invariant.0 (bytes_left _ c.is_empty.ensures c.loop-rest-test.true) (unread none c.read_row.ensures) in
    let q : p.0 ≡ c.at_row.result = p.2 ∙ err_is (c.in_err-row.ensures.value ∙ rw none refl) in
    rw (p.1, q, c.at_row.ensures) (at_fault Malformed _ (sym at.invariant.1 ∙ e))

pub returns-in_err-map_err : goal.returns-in_err-map_err
returns-in_err-map_err c =
    let at = c.loop-rest in
    let row = c.in_ok-row.row in
    let read = row_read c.in_ok-row.ensures.ok_part c.read_row.ensures in
    let t = went c.own_fault.result _ _ (λ e. c.in_err-map_err.field-0.0 ≡ record { fault = e; row = at.k + 1 }) (λ e h. search rules) c.in_err-map_err.ensures.variant c.in_err-map_err.ensures.cases in
    let p = err_from_is_err_and c.from_residual-in_err-map_err.result c.from_residual-in_err-map_err.ensures.1 in
    let own = ap found t.1 in
    let e = stop_own _ _ _ _ at.invariant.0 row (bytes_left _ c.is_empty.ensures c.loop-rest-test.true) read (fault_number t.0) (λ x h g. sym own ∙ c.own_fault.ensures x h g) (some_fault t.0) in
    let q : p.0 ≡ record { fault = t.0; row = at.k + 1 } = p.2 ∙ t.2 in
    rw (p.1, q) (at_fault t.0 _ (sym at.invariant.1 ∙ e))

pub among-requires : goal.among-requires
among-requires c = omega (arith, row_here _ _ _ _ c.loop-rest.invariant.0 c.in_ok-row.row (bytes_left _ c.is_empty.ensures c.loop-rest-test.true) (row_read c.in_ok-row.ensures.ok_part c.read_row.ensures))

pub returns-then-among : goal.returns-then-among
returns-then-among c =
    let at = c.loop-rest in
    let none = none_found _ c.in_ok-map_err.ensures.variant in
    let e = stop_53 _ _ _ _ at.invariant.0 c.in_ok-row.row (bytes_left _ c.is_empty.ensures c.loop-rest-test.true) (row_read c.in_ok-row.ensures.ok_part c.read_row.ensures) _ c.own_fault.ensures none _ c.among.ensures c.if-among.true in
    rw c.at_row-then-among.ensures (at_fault Repeated _ (sym at.invariant.1 ∙ e))

pub loop-rest-smaller : goal.loop-rest-smaller
loop-rest-smaller c = omega (arith, row_here _ _ _ _ c.loop-rest.invariant.0 c.in_ok-row.row (bytes_left _ c.is_empty.ensures c.loop-rest-test.true) (row_read c.in_ok-row.ensures.ok_part c.read_row.ensures))

pub loop-rest-preserved : goal.loop-rest-preserved
loop-rest-preserved c =
    let at = c.loop-rest in
    let read = row_read c.in_ok-row.ensures.ok_part c.read_row.ensures in
    let none = none_found _ c.in_ok-map_err.ensures.variant in
    let e = go_on _ _ _ _ at.invariant.0 c.in_ok-row.row (bytes_left _ c.is_empty.ensures c.loop-rest-test.true) read _ c.own_fault.ensures none _ c.among.ensures c.if-among.false in
    (row_next _ _ _ _ at.invariant.0 c.in_ok-row.row (bytes_left _ c.is_empty.ensures c.loop-rest-test.true) read, sym e ∙ at.invariant.1)

pub returns : goal.returns
returns c = sym c.loop-rest.invariant.1 ∙ judge_end _ _ _ (no_bytes_lem _ _ _ _ c.loop-rest.invariant.0 (none_left _ c.is_empty.ensures c.loop-rest-test.false))
