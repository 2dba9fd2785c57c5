-- `add_bound` meets its contract: the objective's terms go behind the plan's own, and the entries and counts say so.
-- Assumes nothing.
use Prim.Native.Nat.{◌-◌}
use native.Mathlib.Omega.{arith}
use mathlib.Core.Path.{◌≡◌, ◌∙◌, ap}
use lib.ListN.{length}
use mir.Facts.{to_z-of_z}
use Rattle.words.specs.Words.{word_at, unsigned}
use Rattle.format.specs.Tables.{objective_of}
use Rattle.objective.proofs.TightenedTables.{ready, bounded_terms, order_ready, order_left}
use Rattle.objective.proofs.added.add_bound.Goals as goal

pub index-first-requires : goal.index-first-requires
index-first-requires c = omega (arith, (ready _ _ c.requires.0).room)

pub add_terms-end-requires : goal.add_terms-end-requires
add_terms-end-requires c =
    let r = ready _ _ c.requires.0 in
    let n = c.index-first.ensures in
    (r.variables, omega (arith, r.room), omega (arith, r.count, r.variables, r.space))

pub add_entries-requires : goal.add_entries-requires
add_entries-requires c =
    let r = ready _ _ c.requires.0 in
    (r.room, r.clauses, r.rules, r.count, omega (arith, r.few, c.add_terms-end.ensures.1))

-- The places behind each call, the last one first.
pub derive-requires : goal.derive-requires
derive-requires c =
    let e : c.add_terms-end.result - c.index-first.result ≡ length (objective_of (word_at c.args.tables.now)) =
    omega (arith, c.add_terms-end.ensures.1) in
    let u = c.bound_word.ensures ∙ ap unsigned (to_z-of_z c.ranges.m) in
    order_ready _ _ c.requires.0 c.args.m _ _ e u c.requires.1 c.index-first.result c.index-first.ensures c.add_entries.ensures c.add_terms-end.ensures.0

pub returns : goal.returns
returns c =
    let e : c.add_terms-end.result - c.index-first.result ≡ length (objective_of (word_at c.args.tables.now)) =
    omega (arith, c.add_terms-end.ensures.1) in
    let u = c.bound_word.ensures ∙ ap unsigned (to_z-of_z c.ranges.m) in record { tables_after = order_left _ _ c.requires.0 c.args.m _ _ e u c.requires.1 c.index-first.result c.index-first.ensures c.add_entries.ensures c.add_terms-end.ensures.0 c.derive.ensures; terms_after = c.add_terms-end.ensures.0 ∙ bounded_terms _ _ c.requires.0 c.args.m _ _ e u c.index-first.result c.index-first.ensures }
