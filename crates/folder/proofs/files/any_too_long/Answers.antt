-- `folder::files::any_too_long` meets its contract: file by file.
-- Assumes nothing.
use Rattle.std.proofs.Common.{arith}
use Rattle.std.proofs.lemmas.Bool.Decides.{nat_tests}
use Rattle.plpb.specs.Lists.{◌or◌}
use Rattle.folder.specs.Files.{too_long}
use Rattle.folder.proofs.files.any_too_long.Goals as goal

pub returns-then-walk-gt-LONGEST : goal.returns-then-walk-gt-LONGEST
unfolding too_long ◌or◌
returns-then-walk-gt-LONGEST c = grind (arith, nat_tests)

pub returns-else-walk-gt-LONGEST : goal.returns-else-walk-gt-LONGEST
unfolding too_long ◌or◌
returns-else-walk-gt-LONGEST c = grind (arith, nat_tests)
