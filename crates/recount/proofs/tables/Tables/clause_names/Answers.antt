-- `clause_names` meets its contract: what is asked of each number is asked of its rule.
-- Assumes nothing.
use Prim.Native.Nat.{◌<◌}
use native.Mathlib.Omega.{arith}
use mathlib.Core.Path.{refl, ap, ◌∙◌}
use mathlib.Core.List.{map}
use borrow.Author.Rules.{rules}
use borrow.Author.Tests.{tests}
use Rattle.std.proofs.lemmas.Iterator.{YieldsList-from_range, serves_from_Range}
use Rattle.std.proofs.lemmas.Iterator.Search.{any_from_yields_List}
use Rattle.plpb.specs.Lists.{any, row}
use Rattle.plpb.specs.Plan.{Rule, named_in, names}
use Rattle.words.specs.Words.{word_at}
use Rattle.format.specs.Tables.{rule_of, clause_of}
use Rattle.format.specs.Layout.{clause_count_at}
use Rattle.recount.proofs.Along.{any_along}
use Rattle.recount.proofs.Laid.{run_readable, rules_inside}
use Rattle.recount.proofs.tables.Tables.clause_names.Goals as goal

pub rules_of-rules-requires : goal.rules_of-rules-requires
rules_of-rules-requires c = run_readable _ _ c.args.self.now.laid _ c.requires

pub any-requires-clause-callable : goal.any-requires-clause-callable
any-requires-clause-callable c =
    let k = c.rules_of-rules.ensures in
    serves_from_Range (λ r q e. search (rules, tests)) (λ r l h. let inside : r < word_at c.args.self.now.tables.now 2 = omega (arith, h, k.1, rules_inside _ _ c.args.self.now.laid _ c.requires) in search rules)

pub returns : goal.returns
unfolding names clause_of
returns c =
    let t = c.args.self.now in
    let k = c.rules_of-rules.ensures in
    let f = rule_of (word_at t.tables.now) (word_at t.terms.now) in
    let q = λ (r : Rule). named_in c.args.x r.terms in
    any_from_yields_List (λ i. q (f i)) _ _ c.any.result c.any.ensures.ran (YieldsList-from_range c.rules_of-rules.result.start c.rules_of-rules.result.end (word_at t.tables.now (clause_count_at c.args.c)) refl (omega (arith, k.0, k.1))) (λ i b q e. search (rules, tests))
    ∙ any_along q f _ _ ∙ ap (λ i. any q (map f (row i (word_at t.tables.now (clause_count_at c.args.c))))) k.0
