-- What the code answers of a first line that is formed, and how it goes from line to line.
-- Assumes nothing.
use Rattle.std.specs.Prelude.{ℕ, ◌+◌, ◌≡◌, cond, List, [], ◌∷◌, ltb, length, drop}
use Rattle.tokens.specs.Tokens.{line_end, number_at, seen}
use Rattle.tokens.specs.Found.{Behind}
use Rattle.tokens.specs.declared.Number.{Number}
use Rattle.opb_lines.specs.declared.First.{First}
use Rattle.opb_lines.specs.ReadText.{named_from, named_end, variables_in, constraints_in, starts}

pub record NamedAt (name s : List ℕ) (at : ℕ) (r : Number) : Type 0 where
  pub value : r.value ≡ seen (number_at s (named_from name s at))
  pub rest : Behind (named_end name) s at r.rest

pub record FirstOf (s : List ℕ) (r : First) : Type 0 where
  pub variables : r.variables ≡ seen (variables_in s)
  pub constraints : r.constraints ≡ seen (constraints_in s)

-- The place of the line behind one, the text's end where there is none; and the places of the lines from one on.
unfoldable pub next_line : List ℕ → ℕ → ℕ
next_line s at = cond (ltb (line_end s at) (length s)) (line_end s at + 1) (length s)

unfoldable pub lines_from : List ℕ → ℕ → List ℕ
lines_from s at = cond (ltb at (length s)) (at ∷ starts at (drop at s)) []
