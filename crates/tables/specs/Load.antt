-- What loading answers and what it leaves in the two tables, for every file and every length of the tables
-- (document 01, "The plan file" and "Who can cause which refusal").
-- Assumes nothing.
use Rattle.std.specs.Prelude.{ℕ, ◌≡◌, Bool, cond, List, ◌++◌, ltb, length, drop}
use Rattle.plpb.specs.Lists.{◌or◌}
use Rattle.plpb.specs.Plan.{Plan}
use Rattle.words.specs.Words.{word_bytes}
use Rattle.words.specs.Writes.{SameWithin}
use Rattle.format.specs.File.{Reading, refused, accepted, read}
use Rattle.format.specs.Tables.{table_words, term_words, table_size, term_size, Holds}
use Rattle.verdict.specs.Answers.{Answer, Accepted, Refused}
unfoldable pub use Rattle.verdict.specs.Answers.{refusal_of, offset_of, outcome}

-- "21: a buffer or table smaller than the full limits need"
unfoldable pub too_small : List ℕ → List ℕ → Bool
too_small tables terms = ltb (length tables) table_size or ltb (length terms) term_size

-- "Loading: 21, then the file."
unfoldable pub loading : List ℕ → List ℕ → List ℕ → Answer
loading file tables terms = cond (too_small tables terms) (Refused 21 0) (outcome (read file))

-- "A refusal [..] changes no lent byte." "Places past the full limits are neither read nor written."
unfoldable pub tables_of : Reading Plan → List ℕ → List ℕ
tables_of (refused number offset) t = t
tables_of (accepted p) t = word_bytes (table_words p) ++ drop table_size t

unfoldable pub terms_of : Reading Plan → List ℕ → List ℕ
terms_of (refused number offset) t = t
terms_of (accepted p) t = word_bytes (term_words p) ++ drop term_size t

unfoldable pub tables_after : List ℕ → List ℕ → List ℕ → List ℕ
tables_after file tables terms = cond (too_small tables terms) tables (tables_of (read file) tables)

unfoldable pub terms_after : List ℕ → List ℕ → List ℕ → List ℕ
terms_after file tables terms = cond (too_small tables terms) terms (terms_of (read file) terms)

-- "any file whose accepted loading leaves the tables": they hold the plan of that file, as demand 3 asks of the tables opened.
abbrev pub LoadingHolds : Type 0
LoadingHolds = (file tables terms : List ℕ)
    → loading file tables terms ≡ Accepted
    → (p : Plan) × (read file ≡ accepted p) × Holds p (tables_after file tables terms) (terms_after file tables terms)

-- "Places past the full limits are neither read [..]": tables that differ only there get the same answer, and are left the same within the limits.
abbrev pub LoadsWithin : Type 0
LoadsWithin = (file t u t' u' : List ℕ)
    → SameWithin table_size t t'
    → SameWithin term_size u u'
    → (loading file t u ≡ loading file t' u')
    × SameWithin table_size (tables_after file t u) (tables_after file t' u')
    × SameWithin term_size (terms_after file t u) (terms_after file t' u')
