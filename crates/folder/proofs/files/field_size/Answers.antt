-- `folder::files::field_size` meets its contract: at each return the tests that led there say which case of the definition holds.
-- Assumes nothing.
use mathlib.Core.Path.{refl, sym, ◌∙◌}
use native.Mathlib.Omega.{arith}
use Rattle.folder.proofs.Judging.{short_head, wrong_tag, wrong_length, short_body, whole, sizes}
use Rattle.folder.proofs.files.field_size.Goals as goal

pub returns-then-file-ne16 : goal.returns-then-file-ne16
returns-then-file-ne16 c = (sym (wrong_tag _ c.if-file-lt3.false c.if-file-ne16.true), refl, omega arith)

pub returns-then-not-may_measure : goal.returns-then-not-may_measure
returns-then-not-may_measure c = (sym (wrong_length _ c.if-file-lt3.false c.if-file-ne16.false _ c.read_size-size.ensures (sym c.may_measure.ensures ∙ c.if-not-may_measure.true)), refl, omega arith)

pub overflow_add-size : goal.overflow_add-size
overflow_add-size c = omega (arith, (sizes _ (sym c.may_measure.ensures ∙ c.if-not-may_measure.false)).1)

pub returns-then-file-size : goal.returns-then-file-size
returns-then-file-size c = (sym (short_body _ c.if-file-lt3.false c.if-file-ne16.false _ c.read_size-size.ensures (sym c.may_measure.ensures ∙ c.if-not-may_measure.false) c.if-file-size.true), refl, omega arith)

pub returns : goal.returns
returns c = (sym (whole _ c.if-file-lt3.false c.if-file-ne16.false _ c.read_size-size.ensures (sym c.may_measure.ensures ∙ c.if-not-may_measure.false) c.if-file-size.false), c.read_size-size.ensures)

pub returns-then-file-lt3 : goal.returns-then-file-lt3
returns-then-file-lt3 c = (sym (short_head _ c.if-file-lt3.true), refl, omega arith)
