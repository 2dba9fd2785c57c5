-- Numbers in lists of bytes: "All numbers are little-endian; coefficients and bounds are signed 32-bit, the rest unsigned." (document 01, "The plan file")
-- Assumes nothing.
use Rattle.std.specs.Prelude.{ℕ, zero, suc, ◌+◌, ◌*◌, ◌-◌, ◌/◌, ◌%◌, ◌<◌, cond, List, [], ◌∷◌, ◌++◌, ltb, ℤ, pos, negsuc, get_or}

-- The number whose k bytes begin at a place, the lowest byte first.
unfoldable pub num_at : ℕ → List ℕ → ℕ → ℕ
num_at zero s at = 0
num_at (suc k) s at = get_or s at 0 + 256 * num_at k s (suc at)

-- The k bytes of a number.
unfoldable pub bytes_of : ℕ → ℕ → List ℕ
bytes_of zero v = []
bytes_of (suc k) v = v % 256 ∷ bytes_of k (v / 256)

-- The bytes of a list of 4-byte words.
unfoldable pub word_bytes : List ℕ → List ℕ
word_bytes [] = []
word_bytes (w ∷ ws) = bytes_of 4 w ++ word_bytes ws

-- The word at an index of a list of bytes.
unfoldable pub word_at : List ℕ → ℕ → ℕ
word_at s i = num_at 4 s (4 * i)

-- A signed 32-bit number and the word that stands for it.
unfoldable pub signed : ℕ → ℤ
signed w = cond (ltb w 2_147_483_648) (pos w) (negsuc (4_294_967_295 - w))

unfoldable pub unsigned : ℤ → ℕ
unsigned (pos n) = n
unsigned (negsuc n) = 4_294_967_295 - n

-- Every element is below b: what stands past the end counts as 0.
abbrev pub Below : ℕ → List ℕ → Type 0
Below b s = (i : ℕ) → get_or s i 0 < b
