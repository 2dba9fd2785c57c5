-- What reading an OPB text answers and what it leaves in the two tables, for every text and every length of the tables (document 02, T-02).
-- Assumes nothing.
use Rattle.std.specs.Prelude.{ℕ, ◌≡◌, cond, List}
use Rattle.plpb.specs.Plan.{Plan}
use Rattle.format.specs.File.{accepted}
use Rattle.format.specs.Tables.{Holds, Loaded}
use Rattle.verdict.specs.Answers.{Answer, Accepted, Refused}
use Rattle.verdict.specs.Answers.{outcome}
use Rattle.tables.specs.Load.{too_small, tables_of, terms_of}
use Rattle.opb_lines.specs.ReadText.{read_text}

-- 21 as for loading, then the text's own.
unfoldable pub reading : List ℕ → List ℕ → List ℕ → Answer
reading text tables terms = cond (too_small tables terms) (Refused 21 0) (outcome (read_text text))

-- "We want a reader to our tables": what loading the plan would leave; a refused reading changes no byte.
unfoldable pub tables_read : List ℕ → List ℕ → List ℕ → List ℕ
tables_read text tables terms = cond (too_small tables terms) tables (tables_of (read_text text) tables)

unfoldable pub terms_read : List ℕ → List ℕ → List ℕ → List ℕ
terms_read text tables terms = cond (too_small tables terms) terms (terms_of (read_text text) terms)

-- An accepted reading leaves tables that hold the text's plan, and that some accepted loading leaves: no call refuses them with 22.
abbrev pub ReadingHolds : Type 0
ReadingHolds = (text tables terms : List ℕ)
    → reading text tables terms ≡ Accepted
    → (p : Plan) × (read_text text ≡ accepted p) × Holds p (tables_read text tables terms) (terms_read text tables terms)
    × Loaded (tables_read text tables terms) (terms_read text tables terms)
