-- `entries::is_number` meets its contract.
-- Assumes nothing.
use Rattle.std.proofs.Common.{arith}
use Rattle.std.proofs.lemmas.Bool.Decides.{nat_tests}
use mathlib.Core.Path.{◌≡◌, ap, ◌∙◌}
use mathlib.Core.Bool.{false}
use Rattle.std.specs.Option.{is_some}
use Rattle.plpb.specs.Lists.{◌and◌}
use Rattle.lists.proofs.Values.{number_value, number_alike}
use Rattle.entries.proofs.is_number.Goals as goal

pub returns-then-matches : goal.returns-then-matches
unfolding number_value ◌and◌
returns-then-matches c bytes e =
    let tells : is_some c.args.v.number ≡ number_value c.args.v = grind (arith, nat_tests) in c.is_some.ensures ∙ tells ∙ ap number_value e ∙ number_alike bytes

pub returns-else-matches : goal.returns-else-matches
unfolding number_value ◌and◌
returns-else-matches c bytes e =
    let tells : false ≡ number_value c.args.v = grind (arith, nat_tests) in c.if-matches.false ∙ tells ∙ ap number_value e ∙ number_alike bytes
