-- `list_old` meets its contract. Assumes nothing.
use Prim.Native.Nat.{suc}
use native.Mathlib.Omega.{arith}
use mathlib.Core.Path.{refl}
use Rattle.numbering.proofs.Listing.{Listing, listing_past, listing_last, listing_start, listing_few, listing_room, listing_same, listing_more, listing_end}
use Rattle.numbering.proofs.list_old.Goals.{Left-loop-x, else-loop-x-test, then-loop-x-test+else-x-n}
use Rattle.numbering.proofs.list_old.Goals as goal

-- Behind the loop all variables are listed, whichever way it ended.
ended : (c : Left-loop-x) → Listing c.args.map.words.now c.args.n c.args.list.now c.loop-x-test.list (suc c.args.n) c.loop-x-test.i
ended c =
    elim c.loop-x-test.branch [
      | else-loop-x-test w ↦ listing_past _ _ _ _ _ _ c.loop-x.invariant c.requires.0 c.requires.1 (omega (arith, w.loop-x-test.false)) w.list-is w.i-is
      | then-loop-x-test+else-x-n w ↦
          listing_last _ _ _ _ _ _ c.loop-x.invariant c.requires.0 c.requires.1 w.list_one-i.ensures.0 w.list_one-i.ensures.1 (omega (arith, w.loop-x-test.true)) (omega arith) w.list-is w.i-is
    ]

pub list_one-i-requires : goal.list_one-i-requires
list_one-i-requires c =
    let pre = c.requires in
    let i = c.loop-x.invariant in (
      omega (arith, c.loop-x-test.true, pre.0),
      omega (arith, listing_same _ _ _ _ _ _ i pre.0 pre.1, listing_few _ _ _ _ _ _ i pre.0 pre.1, c.loop-x-test.true, i.low, pre.0, pre.1),
    )

pub loop-x-init : goal.loop-x-init
loop-x-init c = listing_start _ _ _

pub loop-x-preserved : goal.loop-x-preserved
loop-x-preserved c = listing_more _ _ _ _ _ _ c.loop-x.invariant c.requires.0 c.requires.1 c.list_one-i.ensures.0 c.list_one-i.ensures.1 (omega (arith, c.loop-x-test.true))

pub overflow_mul-end : goal.overflow_mul-end
overflow_mul-end c =
    let all = ended (goal.at.overflow_mul-end c).Left-loop-x in
    omega (arith, listing_room _ _ _ _ _ _ all c.requires.0 c.requires.1, listing_same _ _ _ _ _ _ all c.requires.0 c.requires.1, c.requires.1)

pub slice_bounds-clear-count : goal.slice_bounds-clear-count
slice_bounds-clear-count c =
    let all = ended (goal.at.slice_bounds-clear-count c).Left-loop-x in
    listing_room _ _ _ _ _ _ all c.requires.0 c.requires.1

pub slice_bounds-clear-start : goal.slice_bounds-clear-start
slice_bounds-clear-start c =
    let all = ended (goal.at.slice_bounds-clear-start c).Left-loop-x in
    listing_room _ _ _ _ _ _ all c.requires.0 c.requires.1

pub returns : goal.returns
returns c =
    let all = ended (goal.at.returns c).Left-loop-x in
    listing_end _ _ _ _ _ _ all c.requires.0 c.requires.1 (omega arith) _ _ refl c.clear.ensures
