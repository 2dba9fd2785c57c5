-- `folder::files::may_measure` meets its contract, by its two tests.
-- Assumes nothing.
use Rattle.std.proofs.Common.{arith}
use Rattle.std.proofs.lemmas.Bool.Decides.{nat_tests}
use Rattle.plpb.specs.Lists.{◌or◌}
use Rattle.folder.specs.Files.{may_measure}
use Rattle.folder.proofs.files.may_measure.Goals as goal

pub returns-then-size-eq9 : goal.returns-then-size-eq9
unfolding may_measure ◌or◌
returns-then-size-eq9 c = grind (arith, nat_tests)

pub returns-else-size-eq9 : goal.returns-else-size-eq9
unfolding may_measure ◌or◌
returns-else-size-eq9 c = grind (arith, nat_tests)
