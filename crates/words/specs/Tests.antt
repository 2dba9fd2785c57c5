-- What the answer of a test says, and the words of a table that are 0.
-- Assumes nothing.
use Rattle.std.specs.Prelude.{ℕ, ◌≤◌, ◌<◌, ◌≡◌, Bool, true, false, List}
use Rattle.words.specs.Words.{word_at}

-- A test decides whether something is so.
pub record Decides (b : Bool) (A : Type 0) : Type 0 where
  pub so : b ≡ true → A
  pub not_so : b ≡ false → A → ⊥

-- The words from an index on and before another are 0.
abbrev pub ZeroWords : List ℕ → ℕ → ℕ → Type 0
ZeroWords s from end = (i : ℕ) → from ≤ i → i < end → word_at s i ≡ 0
