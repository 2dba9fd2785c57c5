-- The refusals of writing as a caller in C sees them: each by its number, and with the length that it tells.
-- Assumes nothing.
use Rattle.std.specs.Prelude.{ℕ}
use Rattle.writer.specs.declared.Refusal.{Refusal}
use Rattle.writer.specs.declared.Refusal.TheVariants.{TooSmall, NotLoaded, Outgrown}

abbrev pub number_of : Refusal → ℕ
number_of TooSmall = 21
number_of NotLoaded = 22
number_of (Outgrown n) = 33

-- "the answer gives its length" where the text outgrows the buffer.
abbrev pub length_of : Refusal → ℕ
length_of TooSmall = 0
length_of NotLoaded = 0
length_of (Outgrown n) = n
