-- `least_of` meets its contract.
-- Assumes nothing.
use Prim.Native.Nat.{ℕ, suc, ◌+◌, ◌-◌, ◌≤◌, ◌<◌}
use native.Mathlib.Omega.{arith}
use mathlib.Core.Path.{◌≡◌, refl, sym, ◌∙◌}
use mathlib.Core.List.{List, []}
use lib.ListN.{length, get_or, take, length-take}
use Rattle.plpb.specs.Count.{cap, capped_break}
use Rattle.plpb.specs.Choice.{choosable}
use Rattle.words.specs.Words.{word_at}
use Rattle.format.specs.Tables.{plan_of_tables}
use Rattle.columns.specs.Layout.{list_at}
use Rattle.columns.specs.Columns.{terms_ahead}
use Rattle.effects.specs.Kept.{lent_bits}
use Rattle.effects.specs.declared.footing.Footing.{Footing}
use Rattle.picks.specs.Picks.{Pickable, Triable}
use Rattle.picks.proofs.Noting.{listed, with_fewer, list_few, list_here, list_triable, has_list, pickable}
use Rattle.least.specs.declared.Best.{Best}
use Rattle.least.specs.Best.{Offered}
use Rattle.least.proofs.Leading.{Leading, leading_none, leading_next}
use Rattle.least.proofs.least_of.Goals as goal

module _ {q : Footing} {s : List ℕ} {c : ℕ} (k : Pickable q s c) {first end : ℕ} (e : first ≡ list_at (terms_ahead (plan_of_tables q.tables.now q.terms.now) c)) (f : end ≡ first + length (choosable (plan_of_tables q.tables.now q.terms.now) (get_or (plan_of_tables q.tables.now q.terms.now).clauses c []))) where
  abbrev xs : List ℕ
  xs = choosable (plan_of_tables q.tables.now q.terms.now) (get_or (plan_of_tables q.tables.now q.terms.now).clauses c [])

  start : {b : Best} → b.least ≡ suc cap → b.count ≡ 0 → Leading (plan_of_tables q.tables.now q.terms.now) (lent_bits q.tables.now q.terms.now q.assignment.now) (take (first - first) xs) s s b
  start l z =
      let none : first - first ≡ 0 = omega arith in
      rw none (leading_none (plan_of_tables q.tables.now q.terms.now) (lent_bits q.tables.now q.terms.now q.assignment.now) s l z)

  module _ {t : List ℕ} {i : ℕ} {b : Best} (low : first ≤ i) (high : i < end) (d : Leading (plan_of_tables q.tables.now q.terms.now) (lent_bits q.tables.now q.terms.now q.assignment.now) (take (i - first) xs) s t b) where
    few : b.count ≤ i - first
    few = omega (arith, d.picked.counted, with_fewer (plan_of_tables q.tables.now q.terms.now) (lent_bits q.tables.now q.terms.now q.assignment.now) b.least (take (i - first) xs), length-take (i - first) xs)

    ready : Triable q t i b.count
    ready = list_triable k d.picked.noted e f low high few

    again : {u : List ℕ} {r : Best} → Offered (plan_of_tables q.tables.now q.terms.now) (capped_break (plan_of_tables q.tables.now q.terms.now) (lent_bits q.tables.now q.terms.now q.assignment.now) (word_at t i)) (word_at t i) b t u r → Leading (plan_of_tables q.tables.now q.terms.now) (lent_bits q.tables.now q.terms.now q.assignment.now) (take (i + 1 - first) xs) s u r
    again {u} {r} o =
        let j = i - first in
        let here = list_here (has_list k) d.picked.noted e f low high in
        let next : i + 1 - first ≡ suc j = omega arith in
        let inside : j < length xs = omega (arith, f) in
        rw next (leading_next (plan_of_tables q.tables.now q.terms.now) (lent_bits q.tables.now q.terms.now q.assignment.now) xs j inside d (omega (arith, few, inside, list_few (has_list k))) (rw here at o))

pub loop-i-init : goal.loop-i-init
loop-i-init c =
    let l = listed c.args.choice.now.footing c.args.choice.now.clause c.plan.ensures (rw (sym c.into_iter-i-iterator.ensures.into_iter_gives) at c.list_of-i-items.ensures) in
    (omega arith, omega (arith, l.1), refl, start (pickable c.args.choice.now c.requires) l.0 l.1 c.rank.ensures.0 refl)

pub offer-best-requires : goal.offer-best-requires
offer-best-requires c =
    let i = c.loop-i.invariant in
    let n = c.in-Some.ensures.steps.1 in
    let l = listed c.args.choice.now.footing c.args.choice.now.clause c.plan.ensures (rw (sym c.into_iter-i-iterator.ensures.into_iter_gives) at c.list_of-i-items.ensures) in
    let high : c.loop-i.i-iterator.start < c.into_iter-i-iterator.result.end = omega (arith, n.0, i.2) in
    rw n.1 (ready (pickable c.args.choice.now c.requires) l.0 l.1 i.0 high i.3)

pub loop-i-preserved : goal.loop-i-preserved
loop-i-preserved c =
    let i = c.loop-i.invariant in
    let n = c.in-Some.ensures.steps.1 in
    let l = listed c.args.choice.now.footing c.args.choice.now.clause c.plan.ensures (rw (sym c.into_iter-i-iterator.ensures.into_iter_gives) at c.list_of-i-items.ensures) in
    let high : c.loop-i.i-iterator.start < c.into_iter-i-iterator.result.end = omega (arith, n.0, i.2) in
    (omega (arith, i.0, n.2), omega (arith, c.in-Some.ensures.steps.0, n.0, n.2), c.in-Some.ensures.steps.0 ∙ i.2, rw n.2 (again (pickable c.args.choice.now c.requires) l.0 l.1 i.0 high i.3 (rw n.1 at c.offer-best.ensures)))
