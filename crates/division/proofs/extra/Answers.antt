-- `division::extra` meets its contract, by whether a number remains for the race.
-- Assumes nothing.
use Prim.Native.Nat.{ℕ, ◌≤◌}
use native.Mathlib.Omega.{arith}
use mathlib.Core.Bool.{Bool, true, false, cond}
use mathlib.Core.Path.{◌≡◌, refl}
use mir.Val.{bool_byte}
use lib.Dec.{ltb}
use borrow.Author.Tests.{ltb-true}
use Rattle.division.specs.Eight.{extra_at}
use Rattle.division.proofs.extra.Goals as goal

given : (i r x : ℕ) (b : Bool) → ltb i r ≡ b → x ≡ bool_byte b → (x ≡ cond b 1 0) × (x ≤ r)
given i r x true h e = (e, omega (arith, e, ltb-true i r h))
given i r x false h e = (e, omega (arith, e))

pub returns : goal.returns
unfolding extra_at
returns c = given _ _ _ _ refl c.from.ensures
