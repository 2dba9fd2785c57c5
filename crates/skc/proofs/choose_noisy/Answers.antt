-- `choose_noisy` meets its contract, by the number drawn for the noise.
-- Assumes nothing.
use Rattle.picks.proofs.Noting.{noted_self}
use Rattle.numbers.proofs.Taking.{handed_on}
use Rattle.skc.proofs.Choosing.{still_to_choose, still_to_draw, drawable, listed_after, by_least, by_any, noisy_gone}
use Rattle.skc.proofs.choose_noisy.Goals as goal

pub choose_least-requires : goal.choose_least-requires
choose_least-requires c =
    still_to_choose (noted_self _ _) (listed_after c.args.numbers.now c.args.used c.pick.ensures c.in_ok-drawn.was) c.requires

pub choose_any-requires : goal.choose_any-requires
choose_any-requires c =
    still_to_draw (noted_self _ _) (listed_after c.args.numbers.now c.args.used c.pick.ensures c.in_ok-drawn.was) (drawable c.requires)

pub returns-then-is_below : goal.returns-then-is_below
returns-then-is_below c =
    let d = c.choose_least.ensures in
    (by_least _ c.pick.ensures _ _ _ _ c.in_ok-drawn.was c.is_below.ensures c.if-is_below.true d.0, d.1)

pub returns-else-is_below : goal.returns-else-is_below
returns-else-is_below c =
    (by_any _ c.pick.ensures _ _ _ _ c.in_ok-drawn.was c.is_below.ensures c.if-is_below.false c.choose_any.ensures, noted_self _ _)

pub returns-in_err-drawn : goal.returns-in_err-drawn
returns-in_err-drawn c =
    (rw (handed_on c.from_residual.result c.from_residual.ensures.1) (noisy_gone _ c.pick.ensures _ _ _ _ c.in_err-drawn.was c.requires.listed), noted_self _ _)
