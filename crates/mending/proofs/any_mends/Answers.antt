-- `any_mends` meets its contract: what is asked of each place is asked of its rule.
-- Assumes nothing.
use mathlib.Core.Path.{refl, ◌∙◌}
use borrow.Author.Rules.{rules}
use borrow.Author.Tests.{tests}
use Rattle.std.proofs.lemmas.Iterator.{YieldsList-from_range}
use Rattle.std.proofs.lemmas.Iterator.Search.{any_from_yields_List}
use Rattle.effects.specs.Run.{rule}
use Rattle.groups.specs.Group.{bits}
use Rattle.groups.proofs.Stretch.{any_along}
use Rattle.groups.proofs.Runs.{group_stretch}
use Rattle.mending.specs.Mends.{mends_part}
use Rattle.mending.proofs.any_mends.Goals as goal

pub returns : goal.returns
returns c =
    let g = c.args.group.now in
    let f = mends_part (bits g) g.run.now.x in
    any_from_yields_List (λ i. f (rule g.run.now i)) _ _ c.any.result c.any.ensures.ran (YieldsList-from_range g.first g.end _ refl refl) (λ i b q e. search (rules, tests)) ∙ any_along (group_stretch g.run.now g.whole) f
