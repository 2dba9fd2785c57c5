-- `from_find` meets its contract: a find that costs l(O) ends the search, and else the tightening goes on in tables with the added clause.
-- Assumes nothing.
use native.Mathlib.Omega.{arith}
use mathlib.Core.Path.{refl}
use lib.IntN.{pos}
use Rattle.settings.specs.Settings.{settings_of}
use Rattle.finds.proofs.Whole.{find_summable, find_keepable, from_floor, boundable, tighten_ready, from_tightened}
use Rattle.onward.proofs.from_find.Goals as goal

pub keep_find-v-requires : goal.keep_find-v-requires
keep_find-v-requires c = find_keepable c.requires

pub floor_cost-floor-requires : goal.floor_cost-floor-requires
floor_cost-floor-requires c = find_summable c.requires

pub returns-then-v-floor : goal.returns-then-v-floor
returns-then-v-floor c =
    let k = c.keep_find-v in
    let f = c.floor_cost-floor in
    (from_floor c.requires k.ensures f.ensures (record { sfits = k.type_inv }) (record { sfits = f.type_inv }) (settings_of c.args.s) c.if-v-floor.true, refl, refl)

pub add_bound-requires : goal.add_bound-requires
add_bound-requires c =
    (boundable c.requires c.keep_find-v.ensures c.floor_cost-floor.ensures (record { sfits = c.keep_find-v.type_inv }) (record { sfits = c.floor_cost-floor.type_inv }) c.if-v-floor.false, omega arith)

pub tighten-requires : goal.tighten-requires
tighten-requires c =
    tighten_ready c.requires c.keep_find-v.ensures c.floor_cost-floor.ensures (record { sfits = c.keep_find-v.type_inv }) (record { sfits = c.floor_cost-floor.type_inv }) c.if-v-floor.false (pos 0) (omega arith) c.add_bound.ensures.tables_after c.add_bound.ensures.terms_after

pub returns : goal.returns
returns c =
    from_tightened c.requires c.keep_find-v.ensures c.floor_cost-floor.ensures (record { sfits = c.keep_find-v.type_inv }) (record { sfits = c.floor_cost-floor.type_inv }) c.if-v-floor.false (pos 0) (omega arith) c.add_bound.ensures.tables_after c.add_bound.ensures.terms_after (settings_of c.args.s) c.tighten.ensures
