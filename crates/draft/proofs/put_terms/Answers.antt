-- The goals that the search leaves.
use Prim.Native.Nat.{◌≤◌, ◌<◌}
use native.Mathlib.Omega.{arith}
use mathlib.Core.Path.{refl, sym, ◌∙◌}
use mathlib.Core.Bool.{false}
use lib.ListN.{length}
use Rattle.rows.proofs.Rows.{more_bytes, row_held, place_next}
use Rattle.lists.specs.Refusals.{site_rows}
use Rattle.lists.proofs.RowBytes.{rows_bytes}
use Rattle.entries.proofs.Rows.{well_own, well_read, row_read}
use Rattle.draft.proofs.Writing.{wrote_none, wrote_more, wrote_as}
use Rattle.draft.proofs.Terms.{terms_next, terms_none}
use Rattle.draft.proofs.put_terms.Goals as goal

pub loop-k-init : goal.loop-k-init
loop-k-init c = (refl, omega arith, omega arith, omega arith, refl, λ name h. wrote_as (sym (terms_none _ name (site_rows c.args.sites.list.now))) (wrote_none _ _))

pub loop-k-preserved : goal.loop-k-preserved
loop-k-preserved c =
    let at = c.loop-k in
    let s = c.args.sites.list.now in
    let l = c.loop-k-test.true in
    let m : at.k < length (site_rows s) = omega (arith, l, c.args.sites.counted) in
    let p = more_bytes false s at.k at.rest.now at.invariant.0 m in
    let read = row_read c.unwrap-row.ensures c.read_row.ensures in
    let held = row_held false s at.k at.rest.now at.invariant.0 _ p read in
    let wrote = c.put_term-to.ensures in
    let room : (at.to ≤ length c.args.out.now) = omega (arith, at.invariant.2, l, c.requires) in (
      place_next false s at.k at.rest.now at.invariant.0 _ p read,
      omega arith,
      omega (arith, wrote.1, at.invariant.2),
      omega (arith, wrote.0.behind, at.invariant.3),
      c.put_term-to.auto.out ∙ at.invariant.4,
      λ name h.
          wrote_as
          (sym (terms_next _ name (site_rows s) at.k _ m
          (c.weight-w.ensures _ name held.second_is held.third_is (λ which. rows_bytes 3 s at.k which) (well_own false s c.args.sites.well at.k m) h)))
          (wrote_more _ _ _ _ (at.invariant.5 name h) (omega (arith, (at.invariant.5 name h).behind, room)) wrote.0),
    )

pub unwrap-row-requires : goal.unwrap-row-requires
unwrap-row-requires c =
    let at = c.loop-k in
    let m = more_bytes false c.args.sites.list.now at.k at.rest.now at.invariant.0 (omega (arith, c.loop-k-test.true, c.args.sites.counted)) in
    well_read _ _ _ _ at.invariant.0 m c.args.sites.well _ c.read_row.ensures
