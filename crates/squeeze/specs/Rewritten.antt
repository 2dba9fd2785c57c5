-- The bytes of a file by what becomes of its variables, of which v are left.
-- Assumes nothing.
use Rattle.std.specs.Prelude.{ℕ, List, [], ◌++◌}
use Rattle.plpb.specs.Plan.{Plan}
use Rattle.words.specs.Words.{bytes_of}
use Rattle.format.specs.Writer.{field}
use Rattle.squeezed.specs.Squeezed.{Becomes}
use Rattle.rewriting.specs.Written.{terms_written, clauses_written}

-- The fields 01 and 02.
unfoldable pub front_bytes : (ℕ → Becomes) → ℕ → Plan → List ℕ
front_bytes f v p = field 1 (bytes_of 2 v) ++ field 2 (terms_written f p.objective)

unfoldable pub file_bytes : (ℕ → Becomes) → ℕ → Plan → List ℕ
file_bytes f v p = front_bytes f v p ++ clauses_written f p.clauses ++ field 5 []
