-- `held` meets its contract: what is asked of each place is asked of its rule.
-- Assumes nothing.
use mathlib.Core.Path.{refl, ◌∙◌}
use borrow.Author.Rules.{rules}
use borrow.Author.Tests.{tests}
use Rattle.std.proofs.lemmas.Iterator.{YieldsList-from_range}
use Rattle.std.proofs.lemmas.Iterator.Consumers.{count_from_yields_List, YieldsList-from_filter}
use Rattle.plpb.specs.Plan.{rule_holds}
use Rattle.effects.specs.Run.{rule}
use Rattle.groups.specs.Group.{bits}
use Rattle.groups.proofs.Stretch.{count_along}
use Rattle.groups.proofs.Runs.{group_stretch}
use Rattle.groups.proofs.group.Group.held.Goals as goal

pub returns : goal.returns
returns c =
    let g = c.args.self.now in
    let f = rule_holds (bits g) in
    count_from_yields_List c.filter.result c.count.result c.count.ensures.ran (YieldsList-from_filter _ (λ i. f (rule g.run.now i)) (YieldsList-from_range g.first g.end _ (cc) refl) c.filter.ensures.closure (λ i b q e. search (rules, tests))) ∙ count_along (group_stretch g.run.now g.whole) f
