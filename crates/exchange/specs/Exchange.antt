-- What stands for each race in a buffer that has a place for each of them: its settings, and what its search answers. Both are laid out as C lays out a
-- record of them, word by word; a number of 64 bits is two words, the lower one first.
-- Assumes nothing.
use Rattle.std.specs.Prelude.{ℕ, ◌+◌, ◌-◌, ◌*◌, ◌/◌, ◌%◌, List, [], ◌∷◌, ◌++◌, ℤ, pos, negsuc}
use Rattle.words.specs.Words.{word_at, word_bytes}
use Rattle.settings.specs.declared.Settings.{Settings as Asked}
use Rattle.answers.specs.declared.Answer.{Answer as Answered}

-- The bytes of a race's settings, and of its answer.
abbrev pub settings_size : ℕ
settings_size = 24

abbrev pub answer_size : ℕ
answer_size = 40

-- The settings of race i, from 0.
unfoldable pub settings_at : List ℕ → ℕ → Asked
settings_at s i =
    record {
      noise = word_at s (6 * i);
      tries = word_at s (6 * i + 1);
      flips = word_at s (6 * i + 2);
      mode = word_at s (6 * i + 3);
      heuristic = word_at s (6 * i + 4);
      chance = word_at s (6 * i + 5);
    }

-- The number whose 64 bits stand for a signed one.
unfoldable pub bits_of64 : ℤ → ℕ
bits_of64 (pos n) = n
bits_of64 (negsuc n) = 18_446_744_073_709_551_615 - n

unfoldable pub halves : ℕ → List ℕ
halves v = v % 4_294_967_296 ∷ v / 4_294_967_296 ∷ []

unfoldable pub answer_words : Answered → List ℕ
answer_words r =
    r.refusal ∷ r.ending ∷ (halves (bits_of64 r.cost) ++ (halves r.finds ++ (halves r.flips ++ halves r.used)))

unfoldable pub answer_bytes : Answered → List ℕ
answer_bytes r = word_bytes (answer_words r)
