-- `cells::value::more_digits` meets its contract.
-- Assumes nothing.
use Prim.Native.Nat.{ℕ}
use mathlib.Core.Path.{◌≡◌, refl, ap₂, ◌∙◌}
use mathlib.Core.Bool.{Bool, true, false, cond}
use Rattle.std.proofs.Common.{arith, Some, None}
use Rattle.std.proofs.lemmas.Bool.Decides.{nat_tests}
use Rattle.std.specs.Bool.{then_some}
use Rattle.plpb.specs.Lists.{◌and◌}
use Rattle.cells.specs.Values.{more_digits, is_digit}
use Rattle.cells.proofs.value.more_digits.Goals as goal

by_test : (t : Bool) (n : ℕ) → then_some t n ≡ cond t (Some n) None
by_test true n = refl
by_test false n = refl

pub returns-in_err-number : goal.returns-in_err-number
unfolding more_digits
returns-in_err-number c = rw (c.in_err-number.was) c.from_residual.ensures

pub returns : goal.returns
unfolding more_digits is_digit ◌and◌
returns c =
    let t : c.is_ascii_digit.result ≡ is_digit c.args.b = grind (arith, nat_tests) in
    rw (c.in_ok-number.was) (c.then_some.ensures ∙ ap₂ then_some t c.with_digit.ensures ∙ by_test _ _)
