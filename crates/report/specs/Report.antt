-- What is printed once a plan is read: from the contents of walk.bin and numbers.bin (document 01, "The program and its two lines").
-- Assumes nothing.
use Rattle.std.specs.Prelude.{ℕ, ◌≡◌, cond, List, eqb}
use Rattle.plpb.specs.Plan.{Plan}
use Rattle.plpb.specs.Search.{search}
use Rattle.format.specs.File.{Reading, refused, accepted}
use Rattle.numbers.specs.Numbers.{numbers_of}
use Rattle.settings.specs.declared.Settings.{Settings as Asked}
use Rattle.settings.specs.Settings.{settings_of}
use Rattle.folder.specs.Files.{numbers_refusal, read_walk, refusal_number, refusal_offset}
use Rattle.folder.specs.declared.files.Refusal.{Refusal}
use Rattle.lines.specs.Text.{answer_text, refusal_line}

-- The list of numbers is judged last.
unfoldable pub searched : Plan → Asked → List ℕ → List ℕ
searched p k numbers =
    cond (eqb (numbers_refusal numbers) 0)
    (answer_text (search (settings_of k) p (numbers_of numbers)))
    (refusal_line (numbers_refusal numbers) 0)

unfoldable pub with_settings : Plan → List ℕ → Reading Asked → List ℕ
with_settings p numbers (refused number offset) = refusal_line number offset
with_settings p numbers (accepted k) = searched p k numbers

-- The code turns the files away as it is printed of every plan.
abbrev pub Turns : List ℕ → List ℕ → Refusal → Type 0
Turns walk numbers r = (p : Plan) → refusal_line (refusal_number r) (refusal_offset r) ≡ with_settings p numbers (read_walk walk)
