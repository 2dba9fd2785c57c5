-- Texts as lists of bytes: numbers in decimal, and lines of items.
-- Assumes nothing.
use Rattle.std.specs.Prelude.{ℕ, zero, suc, ◌+◌, ◌/◌, ◌%◌, cond, List, [], ◌∷◌, ◌++◌, ltb, ℤ, pos, negsuc}
use Prim.Native.Char.{code}
use Prim.Native.String.{String, [] as empty, ◌∷◌ as ◌then◌}

-- The bytes of a text.
unfoldable pub text : String → List ℕ
text empty = []
text (c then rest) = code c ∷ text rest

-- The characters 0 to 9 stand one behind the other, from 48 on.
abbrev pub digit : ℕ → ℕ
digit d = 48 + d

-- A number in decimal: one below 10 is a digit; any other has its last digit behind the decimal of a tenth of it. A tenth is less than the
-- number, so that n steps are enough.
unfoldable pub decimal_in : ℕ → ℕ → List ℕ
decimal_in zero n = digit n ∷ []
decimal_in (suc left) n =
    let more = decimal_in left (n / 10) ++ (digit (n % 10) ∷ []) in
    cond (ltb n 10) (digit n ∷ []) more

unfoldable pub decimal : ℕ → List ℕ
decimal n = decimal_in n n

-- With '-' in front of a number below 0.
unfoldable pub signed_decimal : ℤ → List ℕ
signed_decimal (pos n) = decimal n
signed_decimal (negsuc n) = text "-" ++ decimal (suc n)

-- "One space stands between two items, and each line ends with a line feed." (document 01, "The program and its two lines")
unfoldable pub line : List (List ℕ) → List ℕ
line [] = text "\n"
line (item ∷ []) = item ++ text "\n"
line (item ∷ next ∷ rest) = item ++ (text " " ++ line (next ∷ rest))
