-- `score_of` meets its contract: the make count leaves the score below the least, the break count does, or both are told.
-- Assumes nothing.
use native.Mathlib.Omega.{arith}
use Prim.Native.Nat.{min}
use mathlib.Core.Path.{ap₂, ◌∙◌}
use Rattle.plpb.specs.Count.{cap}
use Rattle.ranking.proofs.Ranking.{score_is, score_below, score_falls, none_above}
use Rattle.ranking.proofs.score_of.Goals.{then-room-cap, else-room-cap}
use Rattle.ranking.proofs.score_of.Goals as goal

pub returns : goal.returns
unfolding cap
returns c =
    let m = c.min.ensures ∙ ap₂ min (c.rank.ensures.0 ∙ c.make_of.ensures) c.rank-cap.ensures.0 in
    let b = c.min-2.ensures ∙ ap₂ min c.in_ok-breaks.ensures.0 c.rank-cap.ensures.0 in
    rw c.rank-cap.ensures.0 (score_is _ _ _ m b)

pub returns-in_err-room : goal.returns-in_err-room
unfolding cap
returns-in_err-room c =
    let m = c.min.ensures ∙ ap₂ min (c.rank.ensures.0 ∙ c.make_of.ensures) c.rank-cap.ensures.0 in
    rw c.from_residual.ensures (score_below _ _ _ m (rw c.rank-cap.ensures.0 at c.in_err-room.ensures))

pub returns-in_err-breaks : goal.returns-in_err-breaks
unfolding cap
returns-in_err-breaks c =
    let m = c.min.ensures ∙ ap₂ min (c.rank.ensures.0 ∙ c.make_of.ensures) c.rank-cap.ensures.0 in
    rw c.from_residual-in_err-breaks.ensures (elim c.if-room-cap.branch [
      | then-room-cap w ↦ score_falls _ _ _ m (omega (arith, c.in_ok-room.ensures, c.rank-cap.ensures.0)) c.in_err-breaks.ensures (omega (arith, w.if-room-cap.true, c.rank-cap.ensures.0)) w.limit-is
      | else-room-cap w ↦ absurd (none_above _ _ _ c.in_err-breaks.ensures (w.limit-is ∙ w.rank-limit.ensures.0))
    ])
