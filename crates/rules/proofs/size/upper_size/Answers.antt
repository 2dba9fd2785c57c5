-- `upper_size` meets its contract: absent without the bound, else the library's sum cut at 0.
-- Assumes nothing.
use native.Mathlib.Omega.{arith}
use Rattle.std.proofs.Common.{rules}
use Prim.Native.Nat.{◌+◌}
use mathlib.Core.Path.{◌∙◌, ap, ap₂}
use Rattle.std.specs.Int.{saturate_unsigned}
use lib.IntN.{pos, ◌+ℤ◌}
use mir.Facts.{to_z-of_z}
use mir.Syntax.{w32, w64}
use mir.Val.{SFits}
use Rattle.std.proofs.Math.Facts.{Fits-nat_abs}
use Rattle.counting.specs.Bound.{bound_of}
use Rattle.rules.proofs.Sizes.{upper_absent, upper_present, upper_reached}
use Rattle.rules.proofs.size.upper_size.Goals as goal

pub returns-in_err-u : goal.returns-in_err-u
returns-in_err-u c = ap bound_of c.from_residual.ensures ∙ upper_absent _ c.in_err-u.was

pub returns : goal.returns
returns c =
    let fits : SFits w32 c.in_ok-u.u = search rules in
    upper_present _ _ c.in_ok-u.was
    (c.saturating_add_signed.ensures
    ∙ ap₂ (λ m z. saturate_unsigned w64 (pos (m + 1) +ℤ z)) c.from.ensures
    (to_z-of_z {w = w64} (record { sfits = c.from-2.type_inv }) ∙ c.from-2.ensures ∙ to_z-of_z fits)
    ∙ upper_reached c.args.rise c.in_ok-u.u (omega arith) (omega (arith, (Fits-nat_abs {w' = w32} tt fits).fits)))
