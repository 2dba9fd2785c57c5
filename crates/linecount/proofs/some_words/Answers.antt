-- The goals that the search leaves.
use Prim.Native.Nat.{◌+◌}
use mathlib.Core.Path.{refl}
use mathlib.Core.Bool.{not}
use lib.Dec.{eqb}
use borrow.Author.Rules.{rules}
use borrow.Author.Tests.{tests}
use Rattle.std.proofs.lemmas.Iterator.{YieldsList-from_range}
use Rattle.std.proofs.lemmas.Iterator.Consumers.{count_from_yields_List, YieldsList-from_filter}
use Rattle.words.specs.Words.{word_at}
use Rattle.linecount.proofs.Lines.{words_counted}
use Rattle.linecount.proofs.some_words.Goals as goal

pub returns : goal.returns
returns c =
    words_counted (word_at c.args.tables.now) c.args.base c.args.n
    (count_from_yields_List c.filter.result c.count.result c.count.ensures.ran
    (YieldsList-from_filter _ (λ x. not (eqb (word_at c.args.tables.now (c.args.base + x)) 0)) (YieldsList-from_range 1 (c.args.n + 1) _ (cc) refl)
    c.filter.ensures.closure (λ x b q e. search (rules, tests))))
