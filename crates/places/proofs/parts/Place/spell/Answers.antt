-- `Place::spell` meets its contract: each part stands above those below it.
-- Assumes nothing.
use Prim.Native.Nat.{ℕ, ◌*◌}
use native.Mathlib.Omega.{arith}
use mathlib.Core.Path.{◌≡◌}
use mathlib.Core.Bool.{Bool, true, false, cond}
use mir.Val.{bool_byte}
use Rattle.order.specs.Order.{spelled}
use Rattle.places.proofs.parts.Place.spell.Goals as goal

-- The two marks.
several : (b : Bool) {n : ℕ} → n ≡ bool_byte b → 2_147_483_648 * n ≡ cond b 2_147_483_648 0
several true e = omega (arith, e)
several false e = omega (arith, e)

negated : (b : Bool) {n : ℕ} → n ≡ bool_byte b → n ≡ cond b 1 0
negated true e = e
negated false e = e

pub returns : goal.returns
unfolding spelled
returns c = omega (arith, several _ c.from.ensures, negated _ c.from-2.ensures)
