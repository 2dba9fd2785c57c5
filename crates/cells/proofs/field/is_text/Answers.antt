-- `cells::field::is_text` meets its contract, range by range.
-- Assumes nothing.
use Rattle.std.proofs.Common.{arith}
use Rattle.std.proofs.lemmas.Bool.Decides.{nat_tests}
use Rattle.plpb.specs.Lists.{◌and◌, ◌or◌}
use Rattle.cells.specs.Grammar.{is_text}
use Rattle.cells.proofs.field.is_text.Goals as goal

pub returns-in-32-to-33 : goal.returns-in-32-to-33
unfolding is_text ◌and◌ ◌or◌
returns-in-32-to-33 c = grind (arith, nat_tests)

pub returns-in-32-to-33-2 : goal.returns-in-32-to-33-2
unfolding is_text ◌and◌ ◌or◌
returns-in-32-to-33-2 c = grind (arith, nat_tests)

pub returns-in-32-to-33-3 : goal.returns-in-32-to-33-3
unfolding is_text ◌and◌ ◌or◌
returns-in-32-to-33-3 c = grind (arith, nat_tests)

pub returns-in_default : goal.returns-in_default
unfolding is_text ◌and◌ ◌or◌
returns-in_default c = grind (arith, nat_tests)

pub returns-in_default-2 : goal.returns-in_default-2
unfolding is_text ◌and◌ ◌or◌
returns-in_default-2 c = grind (arith, nat_tests)

pub returns-in_default-3 : goal.returns-in_default-3
unfolding is_text ◌and◌ ◌or◌
returns-in_default-3 c = grind (arith, nat_tests)

pub returns-in_default-4 : goal.returns-in_default-4
unfolding is_text ◌and◌ ◌or◌
returns-in_default-4 c = grind (arith, nat_tests)
