-- Words of locks turned into codes, and the variables with a new number.
-- Assumes nothing.
use Rattle.std.specs.Prelude.{ℕ, ◌≤◌, ◌<◌, ◌≡◌, Bool, not, cond, List, [], ◌∷◌, eqb, Option, None, Some}
use Rattle.plpb.specs.Lists.{◌and◌, count, row}
use Rattle.words.specs.Words.{word_at}
use Rattle.fates.specs.Codes.{off_code, on_code}

-- A variable's code, by the word of its lock: 0 for unlocked, 1 for locked at 0, 2 for locked at 1.
unfoldable pub code_by : ℕ → ℕ → ℕ
code_by lock number = cond (eqb lock 0) number (cond (eqb lock 1) off_code on_code)

-- The code by the lock that such a word tells.
abbrev pub code_in : Option Bool → ℕ → ℕ
code_in None number = number
code_in (Some value) number = cond value on_code off_code

-- How many of the first x variables are unlocked.
unfoldable pub free_to : List ℕ → ℕ → ℕ
free_to m x = count (λ y. eqb (word_at m y) 0) (row 1 x)

-- The words of n variables were turned into their codes, and k of them are unlocked.
pub record Numbered (m : List ℕ) (n : ℕ) (t : List ℕ) (k : ℕ) : Type 0 where
  pub codes : (x : ℕ) → 1 ≤ x → x ≤ n → word_at t x ≡ code_by (word_at m x) (free_to m x)
  pub first : word_at t 0 ≡ word_at m 0
  pub beyond : (x : ℕ) → n < x → word_at t x ≡ word_at m x
  pub counted : k ≡ free_to m n

-- A code that is a new number.
unfoldable pub is_number : ℕ → Bool
is_number w = not (eqb w off_code) and not (eqb w on_code)

unfoldable pub list_one : List ℕ → ℕ → List ℕ
list_one m x = cond (is_number (word_at m x)) (x ∷ []) []
