-- Assignments in bytes and terms in tables, as the code of this crate reads them.
-- Assumes nothing.
use Rattle.std.specs.Prelude.{ℕ, ◌+◌, ◌*◌, ◌≤◌, ◌<◌, ◌≡◌, List, map, T, length}
use Rattle.plpb.specs.Lists.{row}
use Rattle.plpb.specs.Plan.{Assignment}
use Rattle.plpb.specs.Plan.{Term as TermOf}
use Rattle.plpb.specs.Normal.{literal, literal_true, size}
use Rattle.words.specs.Words.{word_at}
unfoldable pub use Rattle.format.specs.Assignment.{bits_in}
use Rattle.format.specs.Limits.{terms_lawful}
use Rattle.format.specs.Tables.{term_of}
use Rattle.rules.specs.declared.term.Term.{Term}
use Rattle.rules.specs.declared.term.Literal.{Literal}

-- The term that a Term of the code is.
abbrev pub term_in : Term → TermOf
term_in t = record { variable = t.variable; weight = t.weight }

-- The literal of a term under an assignment.
pub record LiteralOf (a : Assignment) (t : TermOf) (l : Literal) : Type 0 where
  pub sized : l.size ≡ size t
  pub truth : l.truth ≡ literal_true a (literal t)

-- k terms of a table of words, the first of them term i.
unfoldable pub terms_at : (ℕ → ℕ) → ℕ → ℕ → List TermOf
terms_at g i k = map (term_of g) (row i k)

-- What reading one term needs: it stands there, and its variable has a byte.
pub record TermReadable (terms assignment : List ℕ) (i : ℕ) : Type 0 where
  pub inside : 8 * i + 8 ≤ length terms
  pub low : 0 < word_at terms (2 * i)
  pub high : word_at terms (2 * i) ≤ length assignment

-- What reading the terms of a rule needs: they stand there, they are lawful, and so few that their weights sum up to a word.
pub record Readable (terms assignment : List ℕ) (first count : ℕ) : Type 0 where
  pub inside : 8 * (first + count) ≤ length terms
  pub few : count ≤ 512
  pub lawful : T (terms_lawful (length assignment) (terms_at (word_at terms) first count))
