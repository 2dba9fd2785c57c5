-- `nth_zero` meets its contract: the word that is sought among those that the filter lets through behind the passed ones.
-- Assumes nothing.
use Prim.Native.Nat.{◌+◌, ◌-◌}
use mathlib.Core.Path.{refl, sym, ◌∙◌}
use lib.Dec.{eqb}
use borrow.Author.Rules.{rules}
use borrow.Author.Tests.{tests}
use Rattle.std.proofs.lemmas.Iterator.{YieldsList-from_range}
use Rattle.std.proofs.lemmas.Iterator.Adapters.{option_map_id}
use Rattle.std.proofs.lemmas.Iterator.Consumers.{nth_from_yields_List, YieldsList-from_filter}
use Rattle.words.specs.Words.{word_at}
use Rattle.numbers.proofs.Finding.{rank_first, found_onward}
use Rattle.numbers.proofs.nth_zero.Goals as goal

pub returns : goal.returns
returns c =
    let table = c.args.table.now in
    let base = c.args.base in
    let near = c.pass_blocks-near.result in
    sym (option_map_id c.nth.result)
    ∙ nth_from_yields_List c.nth.result _ near.left c.nth.ensures.ran
    (YieldsList-from_filter _ (λ i. eqb (word_at table (base + i)) 0) (YieldsList-from_range near.at c.args.count (c.args.count - near.at) (cc) refl)
    c.filter.ensures.closure (λ x b q e. search (rules, tests)))
    ∙ found_onward table base c.args.count c.args.k near c.pass_blocks-near.ensures.0
    (c.pass_blocks-near.ensures.1 ∙ c.pass_blocks-far.ensures.1 ∙ rank_first table base c.args.k)
