-- `bits` meets its contract: each byte is asked.
use mathlib.Core.Path.{◌∙◌}
use lib.Dec.{leb}
use borrow.Author.Rules.{rules}
use borrow.Author.Tests.{tests}
use Rattle.std.proofs.lemmas.Iterator.{YieldsList-from_slice}
use Rattle.std.proofs.lemmas.Iterator.Search.{all_from_yields_List}
use Rattle.calls.proofs.Bits.{bits_each}
use Rattle.calls.proofs.tests.bits.Goals as goal

pub returns : goal.returns
returns c =
    all_from_yields_List (λ b. leb b 1) _ _ c.all.result c.all.ensures.ran (YieldsList-from_slice c.args.bytes.now c.iter.ensures.rest) (λ i b q e. search (rules, tests))
    ∙ bits_each c.args.bytes.now
