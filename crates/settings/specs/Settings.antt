-- The settings as numbers: which are refused, and what the walk is set to by the others (document 01, "Who can cause which refusal"; document 02, T-09).
-- Assumes nothing.
use Rattle.std.specs.Prelude.{ℕ, zero, suc, not, leb, ltb}
use Rattle.plpb.specs.Lists.{◌and◌}
use Rattle.plpb.specs.Settings.{Mode, linear, lbs, Heuristic, skc, novelty, Settings}
use Rattle.format.specs.File.{refuse}
use Rattle.settings.specs.declared.Settings.{Settings as Asked}
use Rattle.settings.specs.declared.Tightening.{Tightening}
use Rattle.settings.specs.declared.Tightening.TheVariants as tightening

-- "Turned away: 15 for another heuristic, 16 for a chance above 1,000, after 14."
unfoldable pub choice_refusal : Asked → ℕ
choice_refusal k = refuse (ltb 1 k.heuristic) 15 (refuse (ltb 1_000 k.chance) 16 0)

-- "11: noise outside 0 to 1,000. 12: tries outside 1 to 1,000. 13: flips outside 1 to 1,000,000. 14: mode other than 0 (linear) or 1 (LBS)."
unfoldable pub settings_refusal : Asked → ℕ
settings_refusal k =
    refuse (ltb 1_000 k.noise) 11
    (refuse (not (leb 1 k.tries and leb k.tries 1_000)) 12
    (refuse (not (leb 1 k.flips and leb k.flips 1_000_000)) 13 (refuse (ltb 1 k.mode) 14 (choice_refusal k))))

unfoldable pub mode_of : ℕ → Mode
mode_of zero = linear
mode_of (suc m) = lbs

-- The mode that a tightening of the code is.
unfoldable pub mode_in : Tightening → Mode
mode_in tightening.Linear = linear
mode_in tightening.Lbs = lbs

-- "a heuristic byte (0 SKC, 1 this)"
unfoldable pub heuristic_of : ℕ → Heuristic
heuristic_of zero = skc
heuristic_of (suc h) = novelty

abbrev pub settings_of : Asked → Settings
settings_of k =
    record { noise = k.noise; tries = k.tries; flips = k.flips; mode = mode_of k.mode; heuristic = heuristic_of k.heuristic; chance = k.chance }
