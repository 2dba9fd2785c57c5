-- `loaded::Counted::bounds_at` meets its contract: the same tests of the words that were read.
-- Assumes nothing.
use Rattle.loaded.specs.Falls.{bounds_of}
use Rattle.loaded.proofs.Counted.bounds_at.Goals as goal

pub returns : goal.returns
unfolding bounds_of
returns c = cc
