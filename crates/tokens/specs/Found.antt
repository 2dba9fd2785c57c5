-- What the code answers of the items of a text that is still to be read, and of an item that may not be there.
-- Assumes nothing.
use Rattle.std.specs.Prelude.{ℕ, ◌≡◌, Bool, true, false, List, ltb, drop, Option, MatchOption}
use Rattle.tokens.specs.Tokens.{digits_end, number_at, seen}
use Rattle.tokens.specs.declared.text.Text.{Text}
use Rattle.tokens.specs.declared.Number.{Number}

-- The bytes still to be read.
abbrev pub left : Text → List ℕ
left t = drop t.at t.bytes.now

-- What is read of a text and a place, and an answer of which something is said of them, where these are the text's.
abbrev pub read : {A : Type 0} → (List ℕ → ℕ → A) → Text → A
read f t = f t.bytes.now t.at

abbrev pub Reads : {A : Type 0} → (List ℕ → ℕ → A → Type 0) → Text → A → Type 0
Reads says t r = says t.bytes.now t.at r

-- The same text from where an item ends, and whether the item takes a byte.
pub record Behind (end : List ℕ → ℕ → ℕ) (s : List ℕ) (from : ℕ) (r : Text) : Type 0 where
  pub bytes : r.bytes.now ≡ s
  pub at : r.at ≡ end s from

abbrev pub takes : (List ℕ → ℕ → ℕ) → Text → Bool
takes end t = ltb t.at (read end t)

-- None where it is not there, and something of which this is said where it is.
abbrev pub Found : {A : Type 0} → Bool → (A → Type 0) → Option A → Type 0
Found there says r = MatchOption r (there ≡ false) (λ x. (there ≡ true) × says x)

-- What is seen of the number at a place, and the text from where its digits end.
pub record NumberAt (s : List ℕ) (from : ℕ) (r : Number) : Type 0 where
  pub value : r.value ≡ seen (number_at s from)
  pub rest : Behind digits_end s from r.rest
