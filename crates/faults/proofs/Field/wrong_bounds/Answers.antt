-- `wrong_bounds` meets its contract: only a rule has bounds.
-- Assumes nothing.
use native.Mathlib.Omega.{arith}
use mathlib.Core.Path.{◌∙◌}
use mir.Syntax.{w32}
use mir.Facts.{to_z-of_z}
use Rattle.faults.proofs.Faults.{told, bounds_none, bounds_some, rule_size, body_room}
use Rattle.faults.proofs.Field.wrong_bounds.Goals as goal

pub bounds-file-at : goal.bounds-file-at
bounds-file-at c =
    omega (arith, body_room _ _ c.args.self.headed, rule_size _ _ c.args.self.headed (told c.args.self.tagged c.in-Rule.is))

pub read_i32-requires : goal.read_i32-requires
read_i32-requires c =
    omega (arith, body_room _ _ c.args.self.headed, rule_size _ _ c.args.self.headed (told c.args.self.tagged c.in-Rule.is))

pub read_i32-requires-in-Rule : goal.read_i32-requires-in-Rule
read_i32-requires-in-Rule c =
    omega (arith, body_room _ _ c.args.self.headed, rule_size _ _ c.args.self.headed (told c.args.self.tagged c.in-Rule.is))

pub returns-in-Rule : goal.returns-in-Rule
returns-in-Rule c =
    bounds_some _ _ _ _ _ (told c.args.self.tagged c.in-Rule.is) c.bounds_lawful.ensures
    (to_z-of_z {w = w32} (record { sfits = c.read_i32.type_inv }) ∙ c.read_i32.ensures)
    (to_z-of_z {w = w32} (record { sfits = c.read_i32-in-Rule.type_inv }) ∙ c.read_i32-in-Rule.ensures)

pub returns-in_default : goal.returns-in_default
returns-in_default c = bounds_none _ _ _ c.args.self.tagged c.in_default.not-Rule
