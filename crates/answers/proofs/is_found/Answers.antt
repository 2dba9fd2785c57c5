-- `answers::is_found` meets its contract: number by number.
-- Assumes nothing.
use Rattle.std.proofs.Common.{arith}
use Rattle.std.proofs.lemmas.Bool.Decides.{nat_tests}
use Rattle.plpb.specs.Lists.{◌or◌}
use Rattle.answers.specs.Found.{has_plan}
use Rattle.answers.proofs.is_found.Goals as goal

pub returns-in_default : goal.returns-in_default
unfolding has_plan ◌or◌
returns-in_default c = grind (arith, nat_tests)

pub returns-in_default-2 : goal.returns-in_default-2
unfolding has_plan ◌or◌
returns-in_default-2 c = grind (arith, nat_tests)

pub returns-in-1 : goal.returns-in-1
unfolding has_plan ◌or◌
returns-in-1 c = grind (arith, nat_tests)

pub returns-in-1-2 : goal.returns-in-1-2
unfolding has_plan ◌or◌
returns-in-1-2 c = grind (arith, nat_tests)
