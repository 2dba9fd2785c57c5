-- Which words of a buffer may have changed.
-- Assumes nothing.
use Rattle.std.specs.Prelude.{ℕ, ◌*◌, ◌≤◌, ◌<◌, ◌≡◌, List, length, take, drop}
use Rattle.words.specs.Words.{word_at}

-- Nothing but words from one on and before another.
pub record Only (from end : ℕ) (s t : List ℕ) : Type 0 where
  pub size : length t ≡ length s
  pub low : (i : ℕ) → i < from → word_at t i ≡ word_at s i
  pub high : (i : ℕ) → end ≤ i → word_at t i ≡ word_at s i
  pub ahead : (n : ℕ) → n ≤ 4 * from → take n t ≡ take n s
  pub beyond : (n : ℕ) → 4 * end ≤ n → n ≤ length s → drop n t ≡ drop n s
