-- The items that an OPB text is made of ("the text form of the 2006 evaluation"; document 02, T-02): blanks, digits, words, numbers, each by the place where
-- it begins and the place where it ends.
-- Assumes nothing.
use Rattle.std.specs.Prelude.{ℕ, suc, ◌+◌, ◌*◌, ◌-◌, Bool, true, false, not, cond, List, [], ◌∷◌, leb, ltb, eqb, length, drop}
use Rattle.plpb.specs.Lists.{◌and◌}

-- How many bytes at the front of a list are such, and where they end from a place on.
unfoldable pub run : (ℕ → Bool) → List ℕ → ℕ
run such [] = 0
run such (b ∷ bs) = cond (such b) (suc (run such bs)) 0

unfoldable pub run_end : (ℕ → Bool) → List ℕ → ℕ → ℕ
run_end such s at = at + run such (drop at s)

unfoldable pub is_blank : ℕ → Bool
is_blank b = eqb b 32

unfoldable pub is_digit : ℕ → Bool
is_digit b = leb 48 b and leb b 57

unfoldable pub is_inside : ℕ → Bool
is_inside b = not (eqb b 10)

-- zeroOrMoreSpace, digits, and "one line that ends in a line feed": where they end; a line's end is its line feed, or the text's where there is none.
abbrev pub blanks_end : List ℕ → ℕ → ℕ
blanks_end s at = run_end is_blank s at

abbrev pub digits_end : List ℕ → ℕ → ℕ
digits_end s at = run_end is_digit s at

abbrev pub line_end : List ℕ → ℕ → ℕ
line_end s at = run_end is_inside s at

-- The number that digits stand for: any number of them, the first the highest.
unfoldable pub number : ℕ → List ℕ → ℕ
number v [] = v
number v (b ∷ bs) = cond (is_digit b) (number (10 * v + (b - 48)) bs) v

unfoldable pub number_at : List ℕ → ℕ → ℕ
number_at s at = number 0 (drop at s)

-- A word, and where it ends; where it does not stand, its end is its place.
unfoldable pub begins : List ℕ → List ℕ → Bool
begins [] s = true
begins (w ∷ ws) [] = false
begins (w ∷ ws) (b ∷ bs) = eqb b w and begins ws bs

unfoldable pub word_end : List ℕ → List ℕ → ℕ → ℕ
word_end word s at = cond (begins word (drop at s)) (at + length word) at

-- What the code sees of a number: all limits are below 4,000,000,000, and a number above it is as good as that one.
abbrev pub most : ℕ
most = 4_000_000_000

unfoldable pub seen : ℕ → ℕ
seen v = cond (ltb most v) most v
