-- `spelling::put_byte` meets its contract: past the end nothing is stored.
-- Assumes nothing.
use mathlib.Core.Path.{sym, refl, ◌∙◌}
use Rattle.spelling.proofs.Overlay.{overlay_past, overlay_byte}
use Rattle.spelling.proofs.put_byte.Goals.{then-at-out, else-at-out}
use Rattle.spelling.proofs.put_byte.Goals as goal

pub returns : goal.returns
returns c = elim c.if-at-out.branch [
  | then-at-out w ↦ record { bytes = w.out-is ∙ overlay_byte _ _ _; place = refl }
  | else-at-out w ↦ record { bytes = w.out-is ∙ sym (overlay_past _ _ _ w.if-at-out.false); place = refl }
]
