-- What many runs are asked for, and what is refused of it and of what is lent (document 02, T-11).
-- Assumes nothing.
use Rattle.std.specs.Prelude.{ℕ, Bool, not, eqb, leb, ltb, length}
use Rattle.plpb.specs.Lists.{◌and◌}
use Rattle.format.specs.File.{refuse}
use Rattle.settings.specs.declared.Settings.{Settings as Asked}
use Rattle.lending.specs.Lent.{Lent, search_refusal}
use Rattle.xorwow.specs.declared.Xorwow.{Xorwow}
use Rattle.figures.specs.Runs.{numbers_size}
use Rattle.trials.specs.declared.Trial.{Trial}

-- "The caller gives x, y, z, w, v and the counter", the settings, how many runs, and how many numbers each takes.
abbrev pub trial : Asked → Xorwow → ℕ → ℕ → Trial
trial settings state runs count = record { settings = settings; state = state; runs = runs; count = count }

-- "five zero state words"; the counter may be anything.
unfoldable pub all_zero : Xorwow → Bool
all_zero g = eqb g.x 0 and eqb g.y 0 and eqb g.z 0 and eqb g.w 0 and eqb g.v 0

-- Outside 1 to the most.
unfoldable pub outside : ℕ → ℕ → Bool
outside most n = not (leb 1 n and leb n most)

-- "Turned away: 41 for five zero state words, 42 for run count, 43 for numbers per run, in that order, before the search's own." Of these, 21 is for the
-- room for numbers too.
unfoldable pub runs_refusal : Lent → Trial → ℕ
runs_refusal l t =
    refuse (all_zero t.state) 41
    (refuse (outside 1_000 t.runs) 42
    (refuse (outside 16_384 t.count) 43 (refuse (ltb (length l.numbers) numbers_size) 21 (search_refusal l t.settings))))
