-- `loaded::rules_good` meets its contract: the parts of its definition, in another order.
-- Assumes nothing.
use Prim.Native.Nat.{◌*◌, ◌-◌}
use mathlib.Core.Path.{◌≡◌, refl, sym, ap, ap₂, ◌∙◌}
use borrow.Author.Rules.{rules}
use borrow.Author.Tests.{tests}
use native.Mathlib.Omega.{arith}
use Rattle.std.proofs.lemmas.Iterator.{YieldsList-from_range, serves_from_Range}
use Rattle.std.proofs.lemmas.Iterator.Search.{all_from_yields_List}
use Rattle.plpb.specs.Lists.{◌and◌}
use Rattle.words.specs.Words.{word_at}
use Rattle.format.specs.Good.{every_from, rules_good}
use Rattle.format.proofs.Bools.{and_stop, both}
use Rattle.format.proofs.Good.{zeros_are}
use Rattle.ordered.proofs.Runs.{every_row}
use Rattle.loaded.specs.Falls.{bounds_of}
use Rattle.loaded.proofs.Falls.{terms_whole, rules_parts}
use Rattle.loaded.proofs.Parts.{rules_joined}
use Rattle.format.specs.Layout.{locks_at, rule_first_at, rule_word_count}
use Rattle.loaded.proofs.Counted.rules_good.Goals as goal

pub returns-then-not-chain : goal.returns-then-not-chain
unfolding rules_good
returns-then-not-chain c =
    rw (← c.args.self.counts.2, ← c.args.self.counts.3) (sym (and_stop _ _ (and_stop _ _ (sym c.chain.ensures ∙ c.if-not-chain.true))))

pub starts-requires : goal.starts-requires
starts-requires c = record { chained = sym c.chain.ensures ∙ c.if-not-chain.false }

pub all-requires-clause-callable : goal.all-requires-clause-callable
all-requires-clause-callable c =
    serves_from_Range (λ x q e. search (rules, tests)) (λ x a b. search (rules, tests))

pub returns : goal.returns
unfolding rules_good
returns c =
    let f = word_at c.args.self.tables.now in
    let g = word_at c.args.self.terms.now in
    let n : locks_at - (rule_first_at c.args.self.rules) ≡ rule_word_count - 5 * c.args.self.rules = omega arith in
    let left : c.args.self.rules - 0 ≡ c.args.self.rules = omega arith in
    let chained = sym c.chain.ensures ∙ c.if-not-chain.false in
    let every =
    all_from_yields_List (bounds_of f) _ _ c.all.result c.all.ensures.ran (YieldsList-from_range 0 c.args.self.rules _ refl refl) (λ i b q e. search (rules, tests))
    ∙ every_row (bounds_of f) 0 (c.args.self.rules - 0) ∙ ap (every_from (bounds_of f) 0) left in
    let terms = terms_whole g _ _ c.args.self.total _ _ chained c.terms_good.ensures c.falls.ensures c.starts.ensures in
    let parts = ap₂ ◌and◌ every (rw c.args.self.counts.0 at terms) ∙ sym (rules_parts f g c.args.self.rules) in
    rw (both, both, both, parts, zeros_are _ _ _ _ c.zeros.ensures, n, ← c.args.self.counts.2, ← c.args.self.counts.3)
    (rules_joined _ _ _ chained)
