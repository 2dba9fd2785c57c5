-- `constraints::put_term` meets its contract: nothing where the coefficient is 0, else the coefficient, `x`, the number and a space.
-- Assumes nothing.
use mathlib.Core.Path.{◌≡◌, refl, sym, ap, ◌∙◌}
use mathlib.Core.List.{[], ◌∷◌}
use lib.IntN.{ℤ}
use mir.Facts.{to_z-of_z}
use Rattle.texts.specs.Texts.{text}
use Rattle.opb.specs.Tau.{weighted}
use Rattle.spelling.proofs.Puts.{puts_nothing, puts_then, puts_same, room_same, room_first, room_after}
use Rattle.constraints.specs.Bytes.{sum_bytes}
use Rattle.constraints.proofs.Bytes.{zero_term, some_term}
use Rattle.constraints.proofs.Stored.{weight_zero, weight_some}
use Rattle.constraints.proofs.put_term.Goals as goal

pub returns-then-weight-eq0 : goal.returns-then-weight-eq0
returns-then-weight-eq0 c =
    puts_same (sym (ap (λ (w : ℤ). sum_bytes (weighted w c.args.variable ∷ [])) (weight_zero c.args.weight c.ranges.weight c.if-weight-eq0.true) ∙ zero_term c.args.variable))
    (puts_nothing c.args.at c.args.out.now)

letter : 32 ∷ 120 ∷ [] ≡ text " x"
unfolding text
letter = refl

space : 32 ∷ [] ≡ text " "
unfolding text
space = refl

pub put_coefficient-a-requires : goal.put_coefficient-a-requires
put_coefficient-a-requires c =
    rw (to_z-of_z c.ranges.weight) (room_first _ _ _ (room_same _ (some_term _ _ (weight_some c.args.weight c.if-weight-eq0.false)) c.requires))

pub put_bytes-b-requires : goal.put_bytes-b-requires
put_bytes-b-requires c =
    room_same _ (sym letter)
    (room_first _ _ _
    (room_after (rw (to_z-of_z c.ranges.weight) at c.put_coefficient-a.ensures) _ (room_same _ (some_term _ _ (weight_some c.args.weight c.if-weight-eq0.false)) c.requires)))

pub put_decimal-c-requires : goal.put_decimal-c-requires
put_decimal-c-requires c =
    room_first _ _ _
    (room_after (puts_same letter c.put_bytes-b.ensures) _
    (room_after (rw (to_z-of_z c.ranges.weight) at c.put_coefficient-a.ensures) _ (room_same _ (some_term _ _ (weight_some c.args.weight c.if-weight-eq0.false)) c.requires)))

pub put_byte-requires : goal.put_byte-requires
put_byte-requires c =
    room_same _ (sym space)
    (room_after c.put_decimal-c.ensures _
    (room_after (puts_same letter c.put_bytes-b.ensures) _
    (room_after (rw (to_z-of_z c.ranges.weight) at c.put_coefficient-a.ensures) _ (room_same _ (some_term _ _ (weight_some c.args.weight c.if-weight-eq0.false)) c.requires))))

pub returns : goal.returns
returns c =
    puts_same (sym (some_term _ _ (weight_some c.args.weight c.if-weight-eq0.false)))
    (puts_then (rw (to_z-of_z c.ranges.weight) at c.put_coefficient-a.ensures)
    (puts_then (puts_same letter c.put_bytes-b.ensures) (puts_then c.put_decimal-c.ensures (puts_same space c.put_byte.ensures))))
