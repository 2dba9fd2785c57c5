-- `lines::put_signed` meets its contract: by its sign; a '-' and the digits behind it are one write.
-- Assumes nothing.
use native.Mathlib.Omega.{arith}
use mathlib.Core.Path.{ap, ◌∙◌}
use lib.IntN.{nat_abs}
use mir.Facts.{to_z-of_z}
use Rattle.lines.proofs.Signs.{negative, natural}
use Rattle.lines.proofs.Items.{signed_negative, signed_natural}
use Rattle.lines.proofs.put_signed.Goals as goal

pub returns-then-v-lt0 : goal.returns-then-v-lt0
returns-then-v-lt0 c =
    let a = c.args in
    let put = c.put_number in
    let both =
    signed_negative a.out.now a.at a.v _ a.end (c.unsigned_abs-n.ensures.value ∙ ap nat_abs (to_z-of_z c.ranges.v)) (negative c.ranges.v c.if-v-lt0.true) (omega (arith, c.requires)) put.ensures.0 put.ensures.1
    in
    (both.0, both.1, omega (arith, put.ensures.2))

pub returns : goal.returns
returns c =
    let a = c.args in
    let put = c.put_number-2 in
    let both = signed_natural a.out.now a.at a.v _ a.end (c.unsigned_abs-n.ensures.value ∙ ap nat_abs (to_z-of_z c.ranges.v)) (natural c.ranges.v c.if-v-lt0.false) put.ensures.0 put.ensures.1 in
    (both.0, both.1, omega (arith, put.ensures.2))
