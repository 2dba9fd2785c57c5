-- The tables of a plan whose text is written, and the parts of that text.
-- Assumes nothing.
use Rattle.std.specs.Prelude.{ℕ, suc, ◌≤◌, ◌<◌, List, map, length}
use Rattle.plpb.specs.Lists.{row}
use Rattle.plpb.specs.Plan.{Term}
use Rattle.words.specs.Words.{word_at, signed}
use Rattle.format.specs.Layout.{table_size, objective_at, lock_at}
use Rattle.format.specs.Tables.{named, sparse, term_lock}
use Rattle.opb.specs.Opb.{Line}
use Rattle.opb.specs.Tau.{lock_line}
use Rattle.clauselines.specs.Clauses.{ClausesFit}
use Rattle.linecount.specs.Counts.{CountsFit}

-- A term of each variable above i, n in number, with its coefficient, which may be 0.
unfoldable pub dense_terms : List ℕ → ℕ → ℕ → List Term
dense_terms tables i n = map (named (λ x. signed (word_at tables (objective_at x)))) (row (suc i) n)

-- The lines of the locks of the variables above i, n in number.
unfoldable pub lock_lines : List ℕ → ℕ → ℕ → List Line
lock_lines tables i n = map lock_line (map term_lock (sparse (λ x. signed (word_at tables (lock_at x))) i n))

-- The locks stand in the tables: 0 where a variable is free, else 1 or 2.
pub record LocksFit (tables : List ℕ) : Type 0 where
  pub size : table_size ≤ length tables
  pub few : word_at tables 0 ≤ 512
  pub locks : (x : ℕ) → x < word_at tables 0 → word_at tables (lock_at (suc x)) ≤ 2

-- The tables are those of a plan within the limits.
pub record WholeFits (tables terms : List ℕ) : Type 0 where
  pub locks : LocksFit tables
  pub counts : CountsFit tables
  pub clauses : ClausesFit tables terms
