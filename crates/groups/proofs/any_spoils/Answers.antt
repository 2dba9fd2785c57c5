-- `any_spoils` meets its contract: what is asked of each place is asked of its rule.
-- Assumes nothing.
use native.Mathlib.Omega.{arith}
use mathlib.Core.Path.{refl, ◌∙◌}
use borrow.Author.Rules.{rules}
use borrow.Author.Tests.{tests}
use Rattle.std.proofs.lemmas.Iterator.{YieldsList-from_range}
use Rattle.std.proofs.lemmas.Iterator.Search.{any_from_yields_List}
use Rattle.order.specs.Breaks.{spoils_part}
use Rattle.effects.specs.Run.{rule, bits}
use Rattle.groups.proofs.Stretch.{Stretch, any_along}
use Rattle.groups.proofs.Runs.{stretch}
use Rattle.groups.proofs.any_spoils.Goals as goal

pub returns : goal.returns
returns c =
    let r = c.args.run.now in
    let f = spoils_part (bits r) r.x in
    any_from_yields_List (λ i. f (rule r i)) _ _ c.any.result c.any.ensures.ran (YieldsList-from_range c.args.k c.args.j _ refl refl) (λ i b q e. search (rules, tests)) ∙ any_along (stretch r c.requires) f
