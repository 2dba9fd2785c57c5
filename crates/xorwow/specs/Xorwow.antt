-- Marsaglia's xorwow ("Xorshift RNGs", Journal of Statistical Software 8, 2003): a shift register of five words and a counter, each of 32 bits.
-- Assumes nothing.
use Rattle.std.specs.Prelude.{ℕ, zero, suc, ◌+◌, ◌*◌, ◌/◌, ◌%◌, ◌^◌, List, [], ◌∷◌, bit_xor}
use Rattle.xorwow.specs.declared.Xorwow.{Xorwow}

-- "t = (x ^ (x >> 2))"
abbrev pub mixed : ℕ → ℕ
mixed x = bit_xor x (x / 2 ^ 2)

-- "v = (v ^ (v << 4)) ^ (t ^ (t << 1))"
abbrev pub newest : ℕ → ℕ → ℕ
newest v t = bit_xor (bit_xor v (v * 2 ^ 4 % 2 ^ 32)) (bit_xor t (t * 2 ^ 1 % 2 ^ 32))

-- "x = y; y = z; z = w; w = v", and "counter rises by 362,437 and begins again past 4,294,967,295".
unfoldable pub step : Xorwow → Xorwow
step g =
    record {
      x = g.y;
      y = g.z;
      z = g.w;
      w = g.v;
      v = newest g.v (mixed g.x);
      counter = (g.counter + 362_437) % 2 ^ 32;
    }

-- "return (d += 362437) + v": the counter and the newest word, both as the step leaves them.
abbrev pub output : Xorwow → ℕ
output g = (g.counter + g.v) % 2 ^ 32

-- The next numbers, and what stands after them.
unfoldable pub stream : ℕ → Xorwow → List ℕ
stream zero g = []
stream (suc k) g = output (step g) ∷ stream k (step g)

unfoldable pub after : ℕ → Xorwow → Xorwow
after zero g = g
after (suc k) g = after k (step g)
