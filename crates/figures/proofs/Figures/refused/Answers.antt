-- `refused` meets its contract.
-- Assumes nothing.
use mathlib.Core.Path.{refl}
use Rattle.figures.specs.Figures.{given_out, refused_with}
use Rattle.figures.proofs.Figures.refused.Goals as goal

pub returns : goal.returns
unfolding refused_with given_out
returns c = refl
