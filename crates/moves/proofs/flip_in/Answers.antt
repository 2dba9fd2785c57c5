-- `flip_in` meets its contract, by whether there is a variable to choose and whether one is chosen.
-- Assumes nothing.
use native.Mathlib.Omega.{arith}
use mathlib.Core.Path.{refl}
use Rattle.recount.proofs.Laid.{parts, clauses_few}
use Rattle.moves.proofs.Moving.{chosen_among, keepable, some_listed, to_choose, stuck_in, turned_in, gone_in, told_on}
use Rattle.moves.proofs.flip_in.Goals as goal

pub overflow_add-c : goal.overflow_add-c
overflow_add-c c = omega (arith, c.requires.1, clauses_few _ _ c.requires.0.ready.laid)

pub index-some-requires : goal.index-some-requires
index-some-requires c = omega (arith, c.requires.1, clauses_few _ _ c.requires.0.ready.laid, c.requires.0.prepared.listed.room)

pub returns-then-some-eq0 : goal.returns-then-some-eq0
returns-then-some-eq0 c =
    stuck_in _ _ _ c.requires.0 (some_listed c.requires.0 c.requires.1 c.index-some.ensures) _ c.requires.2 c.if-some-eq0.true

pub choose_in-requires : goal.choose_in-requires
choose_in-requires c =
    let k = c.requires.0.prepared in
    to_choose k.weighed k.hinted k.listed c.requires.1 c.index-some.ensures c.if-some-eq0.false c.requires.2

pub flip_kept-requires : goal.flip_kept-requires
flip_kept-requires c =
    keepable c.requires.0 (chosen_among c.choose_in.ensures.0 c.in_ok-chosen.was) c.choose_in.ensures.1

pub stamp-requires : goal.stamp-requires
stamp-requires c =
    let k = c.requires.0 in
    let among = chosen_among c.choose_in.ensures.0 c.in_ok-chosen.was in
    (omega (arith, among.1, (parts _ _ k.ready.laid).high), omega (arith, k.prepared.weighed.room, c.choose_in.ensures.1.size))

pub returns : goal.returns
returns c =
    let f = c.flip_kept.ensures in
    turned_in _ _ _ c.requires.0 (some_listed c.requires.0 c.requires.1 c.index-some.ensures) _ c.if-some-eq0.false c.choose_in.ensures.0 c.choose_in.ensures.1
    c.in_ok-chosen.was f.0 f.1 c.stamp.ensures

pub returns-in_err-chosen : goal.returns-in_err-chosen
returns-in_err-chosen c =
    rw (told_on c.from_residual.result c.from_residual.ensures.1)
    (gone_in _ _ _ c.requires.0 (some_listed c.requires.0 c.requires.1 c.index-some.ensures) _ c.if-some-eq0.false c.choose_in.ensures.0 c.choose_in.ensures.1
    c.in_err-chosen.was refl refl refl)
