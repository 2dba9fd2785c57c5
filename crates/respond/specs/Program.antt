-- The program as a definition: from the contents of its three files to what it prints (document 01, "The program and its two lines").
-- Assumes nothing.
use Rattle.std.specs.Prelude.{ℕ, Bool, cond, List}
use Rattle.plpb.specs.Lists.{◌or◌}
use Rattle.plpb.specs.Plan.{Plan}
use Rattle.format.specs.File.{Reading, refused, accepted, read}
use Rattle.folder.specs.Files.{read_walk}
use Rattle.lines.specs.Text.{refusal_line}
use Rattle.folder.specs.Files.{too_long}
use Rattle.report.specs.Report.{with_settings}

-- "each judged before the next"
unfoldable pub with_plan : List ℕ → List ℕ → Reading Plan → List ℕ
with_plan walk numbers (refused number offset) = refusal_line number offset
with_plan walk numbers (accepted p) = with_settings p numbers (read_walk walk)

-- "Any of them above 65,536 bytes gives 9, before all else": `more` says that one of them has bytes behind those given here.
unfoldable pub output : Bool → List ℕ → List ℕ → List ℕ → List ℕ
output more plan walk numbers =
    cond (more or too_long plan or too_long walk or too_long numbers) (refusal_line 9 0) (with_plan walk numbers (read plan))
