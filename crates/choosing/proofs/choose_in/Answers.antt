-- `choose_in` meets its contract, by the heuristic that is set.
-- Assumes nothing.
use Rattle.picks.proofs.Noting.{noted_self}
use Rattle.choosing.proofs.Choosing.{set_skc, set_novelty}
use Rattle.choosing.proofs.choose_in.Goals as goal

pub returns-then-s-eq0 : goal.returns-then-s-eq0
returns-then-s-eq0 c =
    let d = c.choose.ensures in
    (set_skc _ _ _ _ _ _ c.if-s-eq0.true d.0, d.1)

pub returns : goal.returns
returns c = (set_novelty _ _ _ _ _ _ c.if-s-eq0.false c.choose_novelty.ensures, noted_self _ _)
