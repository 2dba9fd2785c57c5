-- `free_of` meets its contract.
-- Assumes nothing.
use Prim.Native.Nat.{ℕ, suc, ◌+◌, ◌-◌, ◌≤◌, ◌<◌}
use native.Mathlib.Omega.{arith}
use mathlib.Core.Path.{◌≡◌, refl, sym, ◌∙◌}
use mathlib.Core.List.{List, []}
use lib.Dec.{eqb}
use lib.ListN.{length, get_or, take, length-take}
use Rattle.plpb.specs.Lists.{keep}
use Rattle.plpb.specs.Count.{capped_break}
use Rattle.plpb.specs.Choice.{choosable, with_break}
use Rattle.words.specs.Words.{word_at}
use Rattle.format.specs.Tables.{plan_of_tables}
use Rattle.columns.specs.Layout.{list_at}
use Rattle.columns.specs.Columns.{terms_ahead}
use Rattle.effects.specs.Kept.{lent_bits}
use Rattle.effects.specs.declared.footing.Footing.{Footing}
use Rattle.picks.specs.Picks.{Picked, Pickable, Tried}
use Rattle.picks.proofs.Noting.{listed, noted_self, noted_more, picks_none, picks_tried, with_more_lem, with_fewer, list_few, list_here, list_triable, has_list, pickable}
use Rattle.picks.proofs.free_of.Goals as goal

module _ {q : Footing} {s : List ℕ} {c : ℕ} (k : Pickable q s c) {first end : ℕ} (e : first ≡ list_at (terms_ahead (plan_of_tables q.tables.now q.terms.now) c)) (f : end ≡ first + length (choosable (plan_of_tables q.tables.now q.terms.now) (get_or (plan_of_tables q.tables.now q.terms.now).clauses c []))) where
  abbrev xs : List ℕ
  xs = choosable (plan_of_tables q.tables.now q.terms.now) (get_or (plan_of_tables q.tables.now q.terms.now).clauses c [])

  abbrev picked : ℕ → List ℕ
  picked d = with_break (plan_of_tables q.tables.now q.terms.now) (lent_bits q.tables.now q.terms.now q.assignment.now) 0 (take d xs)

  start : Picked (plan_of_tables q.tables.now q.terms.now) (picked (first - first)) s s 0
  unfolding with_break keep
  start =
      let z : first - first ≡ 0 = omega arith in
      rw z (record { counted = refl; picks = picks_none s; noted = noted_self _ s })

  module _ {t : List ℕ} {i count : ℕ} (low : first ≤ i) (high : i < end) (d : Picked (plan_of_tables q.tables.now q.terms.now) (picked (i - first)) s t count) where
    few : count ≤ i - first
    few = omega (arith, d.counted, with_fewer (plan_of_tables q.tables.now q.terms.now) (lent_bits q.tables.now q.terms.now q.assignment.now) 0 (take (i - first) xs), length-take (i - first) xs)

    again : {u : List ℕ} {r : ℕ} → Tried (plan_of_tables q.tables.now q.terms.now) (eqb (capped_break (plan_of_tables q.tables.now q.terms.now) (lent_bits q.tables.now q.terms.now q.assignment.now) (word_at t i)) 0) (word_at t i) count t u r → Picked (plan_of_tables q.tables.now q.terms.now) (picked (i + 1 - first)) s u r
    again {u} {r} o =
        let j = i - first in
        let here = list_here (has_list k) d.noted e f low high in
        let next : i + 1 - first ≡ suc j = omega arith in
        let inside : j < length xs = omega (arith, f) in
        let more = picks_tried _ d.picks d.counted (omega (arith, few, inside, list_few (has_list k))) o in
        rw (next, with_more_lem (plan_of_tables q.tables.now q.terms.now) (lent_bits q.tables.now q.terms.now q.assignment.now) 0 j xs inside, ← here)
        (record { counted = more.0; picks = more.1; noted = noted_more d.noted o.noted })

pub loop-i-init : goal.loop-i-init
loop-i-init c =
    let l = listed c.args.choice.now.footing c.args.choice.now.clause c.plan.ensures (rw (sym c.into_iter-i-iterator.ensures.into_iter_gives) at c.list_of-i-items.ensures) in
    (omega arith, omega (arith, l.1), refl, start (pickable c.args.choice.now c.requires) l.0 l.1)

pub free_one-count-requires : goal.free_one-count-requires
free_one-count-requires c =
    let i = c.loop-i.invariant in
    let n = c.in-Some.ensures.steps.1 in
    let l = listed c.args.choice.now.footing c.args.choice.now.clause c.plan.ensures (rw (sym c.into_iter-i-iterator.ensures.into_iter_gives) at c.list_of-i-items.ensures) in
    let high : c.loop-i.i-iterator.start < c.into_iter-i-iterator.result.end = omega (arith, n.0, i.2) in
    rw n.1 (list_triable (pickable c.args.choice.now c.requires) i.3.noted l.0 l.1 i.0 high (few (pickable c.args.choice.now c.requires) l.0 l.1 i.0 high i.3))

pub loop-i-preserved : goal.loop-i-preserved
loop-i-preserved c =
    let i = c.loop-i.invariant in
    let n = c.in-Some.ensures.steps.1 in
    let l = listed c.args.choice.now.footing c.args.choice.now.clause c.plan.ensures (rw (sym c.into_iter-i-iterator.ensures.into_iter_gives) at c.list_of-i-items.ensures) in
    let high : c.loop-i.i-iterator.start < c.into_iter-i-iterator.result.end = omega (arith, n.0, i.2) in
    (omega (arith, i.0, n.2), omega (arith, c.in-Some.ensures.steps.0, n.0, n.2), c.in-Some.ensures.steps.0 ∙ i.2, rw n.2 (again (pickable c.args.choice.now c.requires) l.0 l.1 i.0 high i.3 (rw n.1 at c.free_one-count.ensures)))
