-- `Marked::from` meets its contract: the value stops at the cap, and the mark tells what is above it.
-- Assumes nothing.
use native.Mathlib.Omega.{arith}
use mathlib.Core.Bool.{Bool, true, false, cond}
use mathlib.Core.List.{[], ◌∷◌}
use mathlib.Core.Path.{◌≡◌, refl, ◌∙◌, ap₂}
use mir.Val.{bool_byte}
use Rattle.plpb.specs.Count.{cap, given, capped}
use Rattle.counting.specs.Count.{count_words}
use Rattle.counting.proofs.Marks.{number_capped}
use Rattle.counting.proofs.count.MarkedFromCount.from.Goals as goal

-- A mark as a word.
as_word : {s t : Bool} → s ≡ t → bool_byte s ≡ cond t 1 0
as_word {t = true} e = rw e refl
as_word {t = false} e = rw e refl

pub returns : goal.returns
unfolding cap capped given count_words
returns c =
    ap₂ (λ v m. v ∷ m ∷ []) (omega (arith, c.min.ensures, number_capped c.args.count)) (c.from.ensures ∙ as_word c.is_cut.ensures)
