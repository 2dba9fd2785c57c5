-- `folder::files::choice_in` meets its contract, by the field's length.
-- Assumes nothing.
use native.Mathlib.Omega.{arith}
use mathlib.Core.Path.{◌∙◌}
use Rattle.folder.proofs.Judging.{one_byte, long, not_long}
use Rattle.folder.proofs.files.choice_in.Goals as goal

pub returns-then-file-eq15 : goal.returns-then-file-eq15
returns-then-file-eq15 c =
    let twelve = long _ (omega (arith, c.if-file-eq15.true)) in
    record { heuristic = twelve _ _ (c.from.ensures ∙ one_byte _ 12); chance = twelve _ _ c.read_u16.ensures }

pub returns-else-file-eq15 : goal.returns-else-file-eq15
returns-else-file-eq15 c =
    let nine = not_long _ (λ e. c.if-file-eq15.false (omega (arith, e))) in
    record { heuristic = nine _; chance = nine _ }
