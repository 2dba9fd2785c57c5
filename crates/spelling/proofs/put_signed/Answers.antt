-- `spelling::put_signed` meets its contract, by the two signs.
-- Assumes nothing.
use mathlib.Core.Path.{◌≡◌, sym, ap, ◌∙◌}
use lib.IntN.{nat_abs}
use mir.Facts.{to_z-of_z}
use Rattle.texts.specs.Texts.{decimal, signed_decimal}
use Rattle.opb.specs.Spell.{coefficient}
use Rattle.spelling.proofs.Puts.{puts_same, room_same}
use Rattle.spelling.proofs.Digits.{negative_decimal, natural_decimal}
use Rattle.spelling.proofs.put_signed.Goals.{After-from, After-put_coefficient-arg-1}
use Rattle.spelling.proofs.put_signed.Goals as goal

module _ (c : After-put_coefficient-arg-1) where
  negative_is : coefficient c.args.v ≡ signed_decimal c.args.v
  negative_is = negative_decimal _ (rw (to_z-of_z c.ranges.v) at c.if-v-lt0.true)

pub put_coefficient-requires : goal.put_coefficient-requires
put_coefficient-requires c =
    rw (to_z-of_z c.ranges.v) (room_same c.args.at (sym (negative_is c)) c.requires)

pub returns-then-v-lt0 : goal.returns-then-v-lt0
returns-then-v-lt0 c =
    puts_same (ap coefficient (to_z-of_z c.ranges.v) ∙ negative_is c.before.before.before.before) c.put_coefficient.ensures

module _ (c : After-from) where
  natural_is : decimal c.from.result ≡ signed_decimal c.args.v
  natural_is =
      let e = to_z-of_z c.ranges.v in
      ap decimal (c.from.ensures ∙ c.magnitude.ensures ∙ ap nat_abs e) ∙ natural_decimal _ (rw e at c.if-v-lt0.false)

pub put_decimal-requires : goal.put_decimal-requires
put_decimal-requires c = room_same c.args.at (sym (natural_is c)) c.requires

pub returns : goal.returns
returns c = puts_same (natural_is c.before.before.before.before) c.put_decimal.ensures
