-- `choose_least` meets its contract: those with the least count are picked out, and there is one.
-- Assumes nothing.
use Rattle.skc.proofs.Choosing.{list_ones, with_ones, picks_pickable, picks_chosen, least_some}
use Rattle.skc.proofs.choose_least.Goals as goal

pub pick_listed-requires : goal.pick_listed-requires
pick_listed-requires c =
    let k = c.requires in
    picks_pickable k.marked.listed.room c.least_of-few.ensures (least_some _ _ _ k.some) k.listed

pub returns : goal.returns
returns c =
    let d = c.least_of-few.ensures in
    (picks_chosen d (with_ones _ _ _ _ _ (list_ones _ _)) c.pick_listed.ensures, d.noted)
