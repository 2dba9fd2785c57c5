-- The product of two numbers of 32 bits is one of 64.
-- Assumes nothing.
use Prim.Native.Nat.{ℕ, ◌*◌, ◌<◌, ◌^◌}
use native.Mathlib.Nat.{lt_of_le_of_lt, le-pred_of_lt, mul-le-mul}
use lib.Dec.{lit<}

pub word_product : {a b : ℕ} → a < 2 ^ 32 → b < 2 ^ 32 → a * b < 2 ^ 64
word_product p q = lt_of_le_of_lt (mul-le-mul (le-pred_of_lt p) (le-pred_of_lt q)) (lit< tt)
