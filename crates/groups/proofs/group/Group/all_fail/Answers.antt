-- `all_fail` meets its contract: what is asked of each place is asked of its rule.
-- Assumes nothing.
use mathlib.Core.Path.{refl, ◌∙◌}
use borrow.Author.Rules.{rules}
use borrow.Author.Tests.{tests}
use Rattle.std.proofs.lemmas.Iterator.{YieldsList-from_range}
use Rattle.std.proofs.lemmas.Iterator.Search.{all_from_yields_List}
use Rattle.order.specs.Breaks.{false_after}
use Rattle.effects.specs.Run.{rule}
use Rattle.groups.specs.Group.{bits}
use Rattle.groups.proofs.Stretch.{all_along}
use Rattle.groups.proofs.Runs.{group_stretch}
use Rattle.groups.proofs.group.Group.all_fail.Goals as goal

pub returns : goal.returns
returns c =
    let g = c.args.self.now in
    let f = false_after (bits g) g.run.now.x in
    all_from_yields_List (λ i. f (rule g.run.now i)) _ _ c.all.result c.all.ensures.ran (YieldsList-from_range g.first g.end _ refl refl) (λ i b q e. search (rules, tests)) ∙ all_along (group_stretch g.run.now g.whole) f
