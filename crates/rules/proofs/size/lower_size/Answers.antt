-- `lower_size` meets its contract: absent without the bound, else the library's sum cut at 0.
-- Assumes nothing.
use native.Mathlib.Omega.{arith}
use Rattle.std.proofs.Common.{rules}
use Prim.Native.Nat.{◌+◌}
use mathlib.Core.Path.{◌∙◌, ap, ap₂}
use Rattle.std.specs.Int.{saturate_unsigned}
use lib.IntN.{pos, ◌-ℤ◌}
use mir.Facts.{to_z-of_z}
use mir.Syntax.{w32, w64}
use mir.Val.{SFits}
use Rattle.std.proofs.Math.Facts.{Fits-nat_abs}
use Rattle.counting.specs.Bound.{bound_of}
use Rattle.rules.proofs.Sizes.{lower_absent, lower_present, lower_reached}
use Rattle.rules.proofs.size.lower_size.Goals as goal

pub returns-in_err-l : goal.returns-in_err-l
returns-in_err-l c = ap bound_of c.from_residual.ensures ∙ lower_absent _ c.in_err-l.was

pub returns : goal.returns
returns c =
    let fits : SFits w32 c.in_ok-l.l = search rules in
    lower_present _ _ c.in_ok-l.was
    (c.saturating_sub_signed.ensures
    ∙ ap₂ (λ m z. saturate_unsigned w64 (pos (m + 1) -ℤ z)) c.from.ensures
    (to_z-of_z {w = w64} (record { sfits = c.from-2.type_inv }) ∙ c.from-2.ensures ∙ to_z-of_z fits)
    ∙ lower_reached c.args.positive c.in_ok-l.l (omega arith) (omega (arith, (Fits-nat_abs {w' = w32} tt fits).fits)))
