-- `choose_novelty` meets its contract, by the number drawn for the walk chance.
-- Assumes nothing.
use mathlib.Core.Path.{refl}
use Rattle.picks.proofs.Noting.{noted_self}
use Rattle.numbers.proofs.Taking.{handed_on}
use Rattle.skc.proofs.Choosing.{still_to_draw, listed_after}
use Rattle.novelty.proofs.Choosing.{by_walk, by_rank, chance_gone, first_there, list_within}
use Rattle.novelty.proofs.choose_novelty.Goals as goal

pub choose_any-requires : goal.choose_any-requires
choose_any-requires c =
    still_to_draw (noted_self _ _) (listed_after c.args.numbers.now c.args.used c.pick.ensures c.in_ok-drawn.was) c.requires

pub choose_ranked-requires : goal.choose_ranked-requires
choose_ranked-requires c =
    (listed_after c.args.numbers.now c.args.used c.pick.ensures c.in_ok-drawn.was, first_there c.rank_clause.ensures c.requires.some)

pub returns-then-is_below : goal.returns-then-is_below
returns-then-is_below c =
    by_walk _ _ _ _ _ c.args.numbers.now _ _ c.pick.ensures c.in_ok-drawn.was c.is_below.ensures c.if-is_below.true c.choose_any.ensures

pub returns : goal.returns
returns c =
    by_rank _ _ _ _ _ c.args.numbers.now _ _ c.pick.ensures c.in_ok-drawn.was c.is_below.ensures c.if-is_below.false
    (c.choose_ranked.ensures _ _ _ _ _ refl c.rank_clause.ensures (list_within _ _))

pub returns-in_err-drawn : goal.returns-in_err-drawn
returns-in_err-drawn c =
    rw (handed_on c.from_residual.result c.from_residual.ensures.1) (chance_gone _ _ _ _ _ c.args.numbers.now _ _ c.pick.ensures c.in_err-drawn.was c.requires.listed)
