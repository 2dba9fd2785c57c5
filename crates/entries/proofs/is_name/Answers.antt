-- `entries::is_name` meets its contract.
-- Assumes nothing.
use Rattle.std.proofs.Common.{arith}
use Rattle.std.proofs.lemmas.Bool.Decides.{nat_tests}
use mathlib.Core.Path.{◌≡◌, ap, ◌∙◌}
use mathlib.Core.Bool.{true, false}
use Rattle.plpb.specs.Lists.{◌and◌}
use Rattle.lists.proofs.Values.{name_value, name_alike}
use Rattle.entries.proofs.is_name.Goals as goal

pub returns-in-1-to-16 : goal.returns-in-1-to-16
unfolding name_value ◌and◌
returns-in-1-to-16 c bytes e = let tells : true ≡ name_value c.args.v = grind (arith, nat_tests) in tells ∙ ap name_value e ∙ name_alike bytes

pub returns-in_default : goal.returns-in_default
unfolding name_value ◌and◌
returns-in_default c bytes e = let tells : false ≡ name_value c.args.v = grind (arith, nat_tests) in tells ∙ ap name_value e ∙ name_alike bytes

pub returns-in_default-2 : goal.returns-in_default-2
unfolding name_value ◌and◌
returns-in_default-2 c bytes e = let tells : false ≡ name_value c.args.v = grind (arith, nat_tests) in tells ∙ ap name_value e ∙ name_alike bytes
