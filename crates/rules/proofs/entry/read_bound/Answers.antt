-- `read_bound` meets its contract: the word's number, unless the mode is the one without.
-- Assumes nothing.
use Prim.Native.Nat.{◌+◌}
use denote.Enum.Declared.{tag_of}
use mathlib.Core.Path.{◌≡◌, refl, ◌∙◌, ap}
use mathlib.Core.Bool.{not}
use lib.Dec.{eqb}
use mir.Facts.{to_z-of_z}
use mir.Syntax.{w32}
use Rattle.std.specs.Bool.{then_some}
use Rattle.format.specs.declared.Mode.{Mode}
use Rattle.format.specs.declared.Mode.TheVariants.{Lower, Upper, Both}
use Rattle.format.specs.contracts.Mode.{the_type}
use Rattle.format.specs.Modes.{mode_number}
use Rattle.words.specs.Words.{word_at, signed}
use Rattle.rules.proofs.Sizes.{bound_read}
use Rattle.rules.proofs.entry.read_bound.Goals as goal

-- The number that an enum's value is cast to is that of the mode.
cast_number : (m : Mode) → tag_of the_type m + 1 ≡ mode_number m
cast_number Lower = refl
cast_number Upper = refl
cast_number Both = refl

pub returns : goal.returns
returns c =
    bound_read _ _ _
    (rw (to_z-of_z {w = w32} (record { sfits = c.to_signed.type_inv }), c.to_signed.ensures, c.word.ensures) at c.then_some.ensures
    ∙ ap (λ n. then_some (not (eqb c.args.mode n)) (signed (word_at c.args.tables.now c.args.at))) (cast_number c.args.without))
