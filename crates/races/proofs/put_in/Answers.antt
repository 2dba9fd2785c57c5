-- The goals that the search leaves.
use mathlib.Core.Path.{refl, ◌∙◌}
use lib.ListN.{length}
use Rattle.division.specs.Eight.{laid}
use Rattle.races.proofs.Turns.{putting_first, putting_next, putting_last, in_list}
use Rattle.races.proofs.put_in.Goals as goal

pub loop-i-init : goal.loop-i-init
loop-i-init c = (putting_first (laid c.args.p) c.args.races.now, refl)

pub loop-i-preserved : goal.loop-i-preserved
loop-i-preserved c =
    let s = c.args in
    let l = c.loop-i in
    let h = in_list (length s.races.now) l.i c.loop-i-test.true in
    (putting_next (laid s.p) s.races.now l.i h l.invariant.0 c.put_part.ensures, c.put_part.auto.races ∙ l.invariant.1)

pub returns : goal.returns
returns c =
    let s = c.args in
    let l = c.loop-i in putting_last (laid s.p) s.races.now l.i c.loop-i-test.false l.invariant.0
