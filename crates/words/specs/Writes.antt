-- Bytes and words written over a list of bytes.
-- Assumes nothing.
use Rattle.std.specs.Prelude.{ℕ, ◌+◌, ◌*◌, ◌≤◌, ◌≡◌, ◌≢◌, List, ◌++◌, length, take, drop}
use Rattle.words.specs.Words.{word_bytes, word_at}

-- Bytes written over the first bytes of a list.
unfoldable pub front : List ℕ → List ℕ → List ℕ
front bs s = bs ++ drop (length bs) s

-- Bytes written over those of a list from a place on.
unfoldable pub put : ℕ → List ℕ → List ℕ → List ℕ
put at bs s = take at s ++ front bs (drop at s)

-- Words written over those of a table from an index on.
unfoldable pub put_words : ℕ → List ℕ → List ℕ → List ℕ
put_words i ws s = put (4 * i) (word_bytes ws) s

-- Two lists are the same in their first n bytes. What stands past them may differ.
abbrev pub SameWithin : ℕ → List ℕ → List ℕ → Type 0
SameWithin n s t = take n s ≡ take n t

-- One word of a table is written: its number stands there, and every other byte is as it was.
pub record Wrote (i v : ℕ) (s t : List ℕ) : Type 0 where
  pub here : word_at t i ≡ v
  pub others : (j : ℕ) → j ≢ i → word_at t j ≡ word_at s j
  pub size : length t ≡ length s
  pub before : (n : ℕ) → n ≤ 4 * i → take n t ≡ take n s
  pub beyond : (n : ℕ) → 4 * i + 4 ≤ n → n ≤ length s → drop n t ≡ drop n s
