-- `spelling::sign` meets its contract, by the two signs.
-- Assumes nothing.
use mir.Facts.{to_z-of_z}
use Rattle.spelling.proofs.Digits.{negative_coefficient, natural_coefficient}
use Rattle.spelling.proofs.sign.Goals as goal

pub returns-then-v-lt0 : goal.returns-then-v-lt0
returns-then-v-lt0 c = negative_coefficient _ (rw (to_z-of_z c.ranges.v) at c.if-v-lt0.true)

pub returns-else-v-lt0 : goal.returns-else-v-lt0
returns-else-v-lt0 c = natural_coefficient _ (rw (to_z-of_z c.ranges.v) at c.if-v-lt0.false)
