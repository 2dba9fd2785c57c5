-- `terms::terms_lawful` meets its contract. The invariant: the terms left, above the last one's number, are lawful just where all are.
-- Assumes nothing.
use Prim.Native.Nat.{◌*◌, ◌-◌, ◌/◌}
use lib.ListN.{length}
use mathlib.Core.Path.{◌≡◌}
use Rattle.format.specs.Limits.{terms_lawful}
use Rattle.format.specs.File.{terms_at}
use Rattle.bodies.specs.Terms.{lawful_above}
use Rattle.bodies.proofs.terms.terms_lawful.Given as goal

abbrev pub invariant-loop-i : goal.invariant-loop-i
invariant-loop-i l =
    (l.numbers.variables ≡ l.variables)
    × (lawful_above l.numbers.variables l.numbers.before (terms_at l.terms (6 * l.i) (length l.terms / 6 - l.i)) ≡ terms_lawful l.variables (terms_at l.terms 0 (length l.terms / 6)))
