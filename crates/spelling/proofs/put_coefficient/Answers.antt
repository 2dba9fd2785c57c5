-- `spelling::put_coefficient` meets its contract: the sign, and the digits behind it.
-- Assumes nothing.
use Prim.Native.Nat.{ℕ}
use mathlib.Core.Path.{◌≡◌, sym, ap, ◌∙◌}
use mathlib.Core.List.{List, ◌∷◌}
use lib.IntN.{nat_abs}
use mir.Facts.{to_z-of_z}
use Rattle.texts.specs.Texts.{decimal}
use Rattle.opb.specs.Spell.{coefficient}
use Rattle.spelling.proofs.Puts.{puts_then, puts_same}
use Rattle.spelling.proofs.put_coefficient.Goals.{After-from, After-sign}
use Rattle.spelling.proofs.put_coefficient.Goals as goal

-- The two parts.
module _ (c : After-sign) where
  parts : c.sign.result ∷ decimal (nat_abs c.args.v) ≡ coefficient c.args.v
  parts = rw (to_z-of_z c.ranges.v) at c.sign.ensures

module _ (c : After-from) where
  size_is : decimal (nat_abs c.args.v) ≡ decimal c.from.result
  size_is = ap decimal (sym (c.from.ensures ∙ c.magnitude.ensures ∙ ap nat_abs (to_z-of_z c.ranges.v)))

pub returns : goal.returns
returns c =
    puts_same (ap (λ (l : List ℕ). c.sign.result ∷ l) (sym (size_is c.before.before.before.before)) ∙ parts c.before.before.before.before.before.before.before.before.before.before)
    (puts_then c.put_byte-next.ensures c.put_decimal.ensures)
