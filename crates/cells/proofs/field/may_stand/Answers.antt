-- `cells::field::may_stand` meets its contract.
-- Assumes nothing.
use Rattle.std.proofs.Common.{arith}
use Rattle.std.proofs.lemmas.Bool.Decides.{nat_tests}
use Rattle.plpb.specs.Lists.{◌and◌, ◌or◌}
use Rattle.cells.specs.Grammar.{may_stand, is_text}
use Rattle.cells.proofs.field.may_stand.Goals as goal
use Rattle.cells.proofs.field.may_stand.Goals.{in-44, in_default}

pub returns-then-matches : goal.returns-then-matches
unfolding may_stand is_text ◌and◌ ◌or◌
returns-then-matches c = grind (arith, nat_tests)

pub returns-else-matches : goal.returns-else-matches
unfolding may_stand ◌or◌
returns-else-matches c = grind (arith, nat_tests)
