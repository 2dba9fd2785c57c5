-- Whether the first of a ranking is the one most recently flipped, as the code decides it: where there is a second, Novelty+ then draws a number.
-- Assumes nothing.
use Rattle.std.specs.Prelude.{ℕ, Bool, ltb, eqb}
use Rattle.plpb.specs.Lists.{◌and◌}
use Rattle.ranking.specs.declared.Standing.{Standing}

-- The first is the one most recently flipped among all, whose last flip has this number.
unfoldable pub asks_noise : Standing → ℕ → Bool
asks_noise first latest = ltb 0 latest and eqb first.last latest
