-- The goals that the search leaves.
use Prim.Native.Nat.{◌<◌}
use native.Mathlib.Omega.{arith}
use mathlib.Core.Path.{refl, sym, ap, ◌∙◌}
use mathlib.Core.Bool.{true}
use mathlib.Core.List.{map}
use lib.ListN.{length}
use Rattle.format.specs.Writer.{clause_fields}
use Rattle.rows.proofs.Rows.{more_bytes, row_held, place_next}
use Rattle.lists.specs.Lists.{Zone, zone_clause}
use Rattle.lists.specs.Refusals.{site_of, site_rows, zone_rows, entry_at}
use Rattle.lists.proofs.RowBytes.{rows_bytes}
use Rattle.entries.specs.Judging.{OfBytes}
use Rattle.entries.proofs.Rows.{well_own, well_read, row_read}
use Rattle.draft.proofs.Writing.{wrote_none, wrote_more, wrote_as}
use Rattle.draft.proofs.Terms.{zone_same, zone_named}
use Rattle.draft.proofs.Rules.{clauses_none, clauses_next, clauses_fewer}
use Rattle.draft.proofs.put_clauses.Goals as goal

pub loop-row-init : goal.loop-row-init
loop-row-init c =
    let a = c.args in
    (refl, omega arith, refl, wrote_as (sym (clauses_none (site_rows a.sites.list.now) (zone_rows a.zones.now))) (wrote_none _ _))

pub put_clause-to-requires : goal.put_clause-to-requires
put_clause-to-requires c =
    let at = c.loop-row in
    let few = clauses_fewer (site_rows c.args.sites.list.now) (zone_rows c.args.zones.now) at._row in
    omega (arith, at.invariant.2, at.invariant.3.behind, few, c.requires.2)

pub loop-row-preserved : goal.loop-row-preserved
loop-row-preserved c =
    let at = c.loop-row in
    let s = c.args.zones.now in
    let S = site_rows c.args.sites.list.now in
    let l = c.loop-row-test.true in
    let m : at._row < length (zone_rows s) = omega (arith, l, c.requires.1) in
    let x = entry_at (zone_rows s) at._row in
    let p = more_bytes true s at._row at.rest.now at.invariant.0 m in
    let read = row_read c.unwrap-row.ensures c.read_row.ensures in
    let held = row_held true s at._row at.rest.now at.invariant.0 _ p read in
    let bytes : OfBytes x = λ which. rows_bytes 4 s at._row which in
    let well = well_own true s c.requires.0 at._row m in
    let zone = zone_same x _ _ _ _ _ _ held.second_is held.third_is held.fourth_is bytes well c.number_of.ensures c.number_of-in-loop-row.ensures c.is_yes.ensures in
    let wrote = c.put_clause-to.ensures _ (zone_named x _ held.first_is bytes well) in
    let few = clauses_fewer S (zone_rows s) at._row in (
      place_next true s at._row at.rest.now at.invariant.0 _ p read,
      omega arith,
      c.put_clause-to.auto.out ∙ at.invariant.2,
      wrote_as (sym (clauses_next S (zone_rows s) at._row m))
          (wrote_more _ _ _ _ at.invariant.3 (omega (arith, few, c.requires.2)) (wrote_as (ap (λ (z : Zone). clause_fields (zone_clause (map site_of S) z)) zone) wrote)),
    )

pub unwrap-row-requires : goal.unwrap-row-requires
unwrap-row-requires c =
    let at = c.loop-row in
    let m = more_bytes true c.args.zones.now at._row at.rest.now at.invariant.0 (omega (arith, c.loop-row-test.true, c.requires.1)) in
    well_read _ _ _ _ at.invariant.0 m c.requires.0 _ c.read_row.ensures
