-- The modes of a rule, as docs/FORMAT.md has them.
-- Assumes nothing.
use Rattle.std.specs.Prelude.{ℕ, ◌≡◌, Option, None, Some}
use Rattle.format.specs.declared.Mode.{Mode}
use Rattle.format.specs.declared.Mode.TheVariants.{Lower, Upper, Both}

abbrev pub mode_number : Mode → ℕ
mode_number Lower = 1
mode_number Upper = 2
mode_number Both = 3

-- A byte is a mode, or no mode has its number.
abbrev pub Moded : ℕ → Option Mode → Type 0
Moded byte None = (mode : Mode) → mode_number mode ≡ byte → ⊥
Moded byte (Some mode) = mode_number mode ≡ byte
