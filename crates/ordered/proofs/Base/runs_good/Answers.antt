-- `runs_good` meets its contract: each run is asked.
-- Assumes nothing.
use Prim.Native.Nat.{◌+◌}
use mathlib.Core.Path.{refl, ◌∙◌}
use borrow.Author.Rules.{rules}
use borrow.Author.Tests.{tests}
use Rattle.std.proofs.lemmas.Iterator.{YieldsList-from_range}
use Rattle.std.proofs.lemmas.Iterator.Search.{all_from_yields_List}
use Rattle.words.specs.Words.{word_at}
use Rattle.format.specs.Good.{run_good}
use Rattle.ordered.proofs.Runs.{every_range}
use Rattle.ordered.proofs.Base.runs_good.Goals as goal

pub returns : goal.returns
returns c =
    let f = word_at c.args.self.tables.now in
    let g = word_at c.args.self.terms.now in
    all_from_yields_List (run_good f g) _ _ c.all.result c.all.ensures.ran (YieldsList-from_range 1 (c.args.variables + 1) _ refl refl) (λ i b q e. search (rules, tests))
    ∙ every_range (run_good f g) c.args.variables
