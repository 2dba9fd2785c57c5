-- The second line of the bytes that a search leaves is that of its answer; and the example of document 01, byte for byte.
-- Assumes nothing.
use Prim.Native.Nat.{ℕ}
use mathlib.Core.Path.{◌≡◌, refl, ap, ◌∙◌}
use mathlib.Core.Bool.{true, false, cond}
use mathlib.Core.List.{List, [], ◌∷◌, ◌++◌, map}
use lib.Dec.{eqb}
use lib.ListN.{length, length-map}
use lib.Seq.{take_at}
use Rattle.plpb.specs.Plan.{Assignment}
use Rattle.plpb.specs.Search.{failed, reached, search}
use Rattle.plpb.proofs.Example.{settings, plan, numbers, answer, example}
use Rattle.format.specs.Assignment.{bit_bytes}
use Rattle.lines.specs.Text.{text, digit, decimal_in, decimal, signed_decimal, line, ending_word, result_line, found_line, assignment_line, answer_text}

pub nothing_found : (n : ℕ) (bytes : List ℕ) → assignment_line false n bytes ≡ found_line failed
unfolding assignment_line found_line
nothing_found n bytes = refl

-- A bit's byte and its character.
characters_of : (a : Assignment) → map (λ b. cond (eqb b 0) (digit 0) (digit 1)) (bit_bytes a) ≡ map (λ bit. cond bit (digit 1) (digit 0)) a
unfolding bit_bytes
characters_of [] = refl
characters_of (true ∷ a) = ap (λ (l : List ℕ). digit 1 ∷ l) (characters_of a)
characters_of (false ∷ a) = ap (λ (l : List ℕ). digit 0 ∷ l) (characters_of a)

length_bytes : (a : Assignment) → length (bit_bytes a) ≡ length a
unfolding bit_bytes
length_bytes a = length-map a (λ b. cond b 1 0)

pub something_found : (a : Assignment) (rest : List ℕ) → assignment_line true (length a) (bit_bytes a ++ rest) ≡ found_line (reached a)
unfolding assignment_line found_line
something_found a rest =
    ap (λ (l : List ℕ). line (map (λ b. cond (eqb b 0) (digit 0) (digit 1)) l ∷ [])) (take_at (bit_bytes a) rest (length a) (length_bytes a))
    ∙ ap (λ (l : List ℕ). line (l ∷ [])) (characters_of a)

whole : answer_text answer ≡ text "ended 1 2 2 10\n10\n"
unfolding answer answer_text result_line found_line line ending_word signed_decimal decimal decimal_in text
whole = refl

-- "Output, whole"
pub example_printed : answer_text (search settings plan numbers) ≡ text "ended 1 2 2 10\n10\n"
example_printed = ap answer_text example ∙ whole
