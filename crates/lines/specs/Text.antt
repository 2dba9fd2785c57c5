-- What the program prints, as lists of bytes (document 01, "The program and its two lines").
-- Assumes nothing.
use Rattle.std.specs.Prelude.{ℕ, Bool, cond, List, [], ◌∷◌, ◌++◌, map, eqb, ℤ, take, Option, Some, None}
pub use Rattle.texts.specs.Texts.{digit}
unfoldable pub use Rattle.texts.specs.Texts.{text, decimal_in, decimal, signed_decimal, line}
use Rattle.plpb.specs.Search.{Ending, floor, ended, none, short_found, short_none, Reached, failed, reached, Answer}

-- The ending of a number (`ending_number` of the search's contract); one that is not among them counts as the last.
unfoldable pub ending_of : ℕ → Ending
ending_of n = cond (eqb n 1) floor (cond (eqb n 2) ended (cond (eqb n 3) none (cond (eqb n 4) short_found short_none)))

unfoldable pub ending_word : Ending → List ℕ
ending_word floor = text "floor"
ending_word ended = text "ended"
ending_word none = text "none"
ending_word short_found = text "short-found"
ending_word short_none = text "short-none"

-- "It prints ending, cost, finds, flips, numbers used"
unfoldable pub result_line : Ending → ℤ → ℕ → ℕ → ℕ → List ℕ
result_line ending cost finds flips used =
    line (ending_word ending ∷ signed_decimal cost ∷ decimal finds ∷ decimal flips ∷ decimal used ∷ [])

-- "then the assignment, variable 1 first. With nothing found the second line is `-`."
unfoldable pub found_line : Reached → List ℕ
found_line failed = line (text "-" ∷ [])
found_line (reached a) = line (map (λ bit. cond bit (digit 1) (digit 0)) a ∷ [])

-- The same of the first n assignment bytes, by whether something was found.
unfoldable pub assignment_line : Bool → ℕ → List ℕ → List ℕ
assignment_line found n bytes = line (cond found (map (λ b. cond (eqb b 0) (digit 0) (digit 1)) (take n bytes)) (text "-") ∷ [])

-- The same of the bytes that the code was given, if any.
unfoldable pub bits_line : Option (List ℕ) → List ℕ
bits_line None = line (text "-" ∷ [])
bits_line (Some bits) = line (map (λ b. cond (eqb b 0) (digit 0) (digit 1)) bits ∷ [])

-- The bytes that are lent for what the program prints.
abbrev pub output_size : ℕ
output_size = 2_048

-- The two lines of an answer.
unfoldable pub answer_text : Answer → List ℕ
answer_text a = result_line a.ending a.cost a.finds a.flips a.used ++ found_line a.assignment

-- "A refusal prints one line: `refused`, number, offset."
unfoldable pub refusal_line : ℕ → ℕ → List ℕ
refusal_line number offset = line (text "refused" ∷ decimal number ∷ decimal offset ∷ [])
