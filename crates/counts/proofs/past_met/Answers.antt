-- `past_met` meets its contract: the first place of a clause that is not met is found, or the run ends.
-- Assumes nothing.
use mathlib.Core.Path.{refl, sym, ap, ◌∙◌}
use lib.Dec.{eqb}
use borrow.Author.Rules.{rules}
use borrow.Author.Tests.{tests}
use Rattle.std.specs.Option.{unwrap_or}
use Rattle.std.proofs.lemmas.Iterator.{YieldsList-from_range}
use Rattle.std.proofs.lemmas.Iterator.Adapters.{option_map_id}
use Rattle.std.proofs.lemmas.Iterator.Search.{find_from_yields_List}
use Rattle.counts.specs.Met.{held}
use Rattle.counts.proofs.Passing.{unmet_found}
use Rattle.counts.proofs.past_met.Goals as goal

pub returns : goal.returns
returns c =
    let r = c.args.run.now in
    unmet_found r c.requires.1
    (c.unwrap_or.ensures
    ∙ ap (λ o. unwrap_or o r.end)
    (sym (option_map_id c.find.result)
    ∙ find_from_yields_List (λ j. eqb (held r j) 0) _ _ c.find.result c.find.ensures.ran (YieldsList-from_range c.args.k r.end _ refl refl) (λ i b q e. search (rules, tests))))
