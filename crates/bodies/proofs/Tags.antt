-- Tags are bytes.
-- Assumes nothing.
use Prim.Native.Nat.{ℕ}
use native.Mathlib.Omega.{arith}
use mathlib.Core.Path.{◌≡◌}
use mathlib.Core.List.{List}
use lib.ListN.{get_or}
use Rattle.words.specs.Words.{num_at}
use Rattle.format.specs.File.{tag_at}

-- The byte at a place is its number of one byte.
pub tag_byte : (s : List ℕ) (at : ℕ) → get_or s at 0 ≡ tag_at s at
unfolding tag_at num_at
tag_byte s at = omega arith
