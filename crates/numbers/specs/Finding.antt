-- Words that are 0, in ascending order.
-- Assumes nothing.
use Rattle.std.specs.Prelude.{ℕ, ◌+◌, List, length, eqb}
use Rattle.plpb.specs.Lists.{keep, row}
use Rattle.words.specs.Words.{word_at}
use Rattle.numbers.specs.declared.Place.{Place}

-- The i below a count whose word, behind base others, is 0.
unfoldable pub zero_words : List ℕ → ℕ → ℕ → List ℕ
zero_words table base count = keep (λ i. eqb (word_at table (base + i)) 0) (row 0 count)

-- How many of the words below a place are 0.
unfoldable pub zeros_below : List ℕ → ℕ → ℕ → ℕ
zeros_below table base at = length (zero_words table base at)

-- Which of all that are 0, from 0, is sought from a place.
unfoldable pub rank : List ℕ → ℕ → Place → ℕ
rank table base place = zeros_below table base place.at + place.left
