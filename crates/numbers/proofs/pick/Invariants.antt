-- `numbers::pick` meets its contract. The invariant: the pick comes to what it comes to from the place that is reached, the numbers before it being
-- discarded.
-- Assumes nothing.
use mathlib.Core.Path.{◌≡◌}
use lib.ListN.{drop}
use Rattle.plpb.specs.Numbers.{pick_among, take_pick}
use Rattle.numbers.specs.Numbers.{numbers_of}
use Rattle.numbers.proofs.pick.Given as goal

abbrev pub invariant-loop-at : goal.invariant-loop-at
invariant-loop-at l =
    take_pick l.m (numbers_of l.numbers) l.used ≡ pick_among l.m (drop l.at (numbers_of l.numbers)) l.at
