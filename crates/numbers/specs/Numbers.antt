-- The list of numbers in bytes: "32-bit numbers laid out as in a plan" (document 01, "The program and its two lines").
-- Assumes nothing.
use Rattle.std.specs.Prelude.{ℕ, ◌/◌, List, map, length}
use Rattle.plpb.specs.Lists.{row}
use Rattle.words.specs.Words.{word_at}

-- "A file and a list of numbers may have any length, 0 too." What stands behind the last whole number is not read.
unfoldable pub numbers_of : List ℕ → List ℕ
numbers_of s = map (word_at s) (row 0 (length s / 4))
