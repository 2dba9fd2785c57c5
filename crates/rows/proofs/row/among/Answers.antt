-- The goals that the search leaves.
use Prim.Native.Nat.{◌+◌}
use mathlib.Core.Option.{Option}
use native.Mathlib.Omega.{arith}
use mathlib.Core.Path.{◌≡◌, refl, sym, ap, ◌∙◌}
use Rattle.cells.specs.declared.value.Value.{Value}
use Rattle.cells.specs.Grammar.{Record, rows_of, column_of}
use Rattle.cells.specs.Values.{gather_from, gather, same_value}
use Rattle.rows.specs.Reading.{columns, is_zones, place}
use Rattle.rows.proofs.Rows.{more_bytes, is_row, row_held, place_next, malformed_last, any_none, any_last, any_more, any_found}
use Rattle.rows.proofs.row.among.Goals as goal

pub loop-row-init : goal.loop-row-init
loop-row-init c = (refl, any_none _ (rows_of (columns (is_zones c.args.listed)) c.args.s.now))

pub returns-then-same : goal.returns-then-same
returns-then-same c =
    let at = c.loop-row in
    let l = c.loop-row-test.true in
    let m = more_bytes _ _ _ _ at.invariant.0 (omega (arith, c.requires, l)) in
    let held = row_held _ _ _ _ at.invariant.0 c.in-Some.row m c.in-Some.ensures in
    let e = ap (λ (v : Value). same_value v c.args.value) (sym (c.field_in.ensures _ held)) ∙ sym c.same-in-loop-row.ensures ∙ c.if-same.true in
    sym (any_found _ _ _ _ l (omega (arith, c.requires, l)) e)

pub loop-row-preserved : goal.loop-row-preserved
loop-row-preserved c =
    let at = c.loop-row in
    let l = c.loop-row-test.true in
    let m = more_bytes _ _ _ _ at.invariant.0 (omega (arith, c.requires, l)) in
    let held = row_held _ _ _ _ at.invariant.0 c.in-Some.row m c.in-Some.ensures in
    let e = ap (λ (v : Value). same_value v c.args.value) (sym (c.field_in.ensures _ held)) ∙ sym c.same-in-loop-row.ensures ∙ c.if-same.false in
    (place_next _ _ _ _ at.invariant.0 c.in-Some.row m c.in-Some.ensures, any_more _ _ _ (is_row _ _ _ _ at.invariant.0 c.in-Some.row m c.in-Some.ensures) at.invariant.1 e)

pub returns-in_default : goal.returns-in_default
unfolding column_of gather_from
returns-in_default c =
    let a = c.args in
    let at = c.loop-row in
    let l = c.loop-row-test.true in
    let d = malformed_last _ _ _ _ at.invariant.0 (more_bytes _ _ _ _ at.invariant.0 (omega (arith, c.requires, l))) c.in_default.ensures in
    let n : a.rows ≡ at._row + 1 = omega (arith, c.requires, l, d.2) in
    let whole = any_last _ (rows_of (columns (is_zones a.listed)) a.s.now) _ d.0 at.invariant.1 ∙ ap (λ (x : Option Record). same_value (gather (column_of (place a.which) x)) a.value) d.1 in
    c.same.ensures ∙ ap (λ (v : Value). same_value v a.value) c.empty.ensures ∙ sym (rw n whole)
