-- `choose` meets its contract: those that break nothing are picked out; with none of these the noise decides.
-- Assumes nothing.
use native.Mathlib.Omega.{arith}
use Rattle.picks.proofs.Noting.{noted_more}
use Rattle.skc.proofs.Choosing.{list_ones, with_ones, picks_chosen, still_to_choose, free_chosen, noisy_chosen}
use Rattle.skc.proofs.choose.Goals as goal

pub returns-then-free-gt0 : goal.returns-then-free-gt0
returns-then-free-gt0 c =
    let d = c.free_of-free.ensures in
    (free_chosen _ _ _ _ d.counted (omega (arith, c.if-free-gt0.true)) (picks_chosen d (with_ones _ _ _ _ _ (list_ones _ _)) c.pick_listed.ensures), d.noted)

pub choose_noisy-requires : goal.choose_noisy-requires
choose_noisy-requires c =
    let k = c.requires in
    still_to_choose c.free_of-free.ensures.noted k.listed k

pub returns : goal.returns
returns c =
    let n = c.choose_noisy.ensures in
    let d = c.free_of-free.ensures in
    (noisy_chosen _ _ _ _ d.counted (omega (arith, c.if-free-gt0.false)) n.0, noted_more d.noted n.1)
