-- The goals that the search leaves.
use Prim.Native.Nat.{ℕ, ◌+◌, ◌-◌}
use native.Mathlib.Omega.{arith}
use mathlib.Core.Path.{◌≡◌, ap, ◌∙◌}
use Rattle.words.specs.Words.{word_at}
use Rattle.linecount.proofs.Down.{down_start, down_more, down_done}
use Rattle.linecount.proofs.Lines.{RulesAre, rules_start, rules_next}
use Rattle.opb.specs.Tau.{rules_lines}
use Rattle.clauselines.specs.Clauses.{rules_in}
use lib.ListN.{length}
use native.Mathlib.Nat.{add-zero}
use Rattle.linecount.proofs.rules_lines.Goals as goal

pub loop-i-preserved : goal.loop-i-preserved
loop-i-preserved c =
    let d = c.loop-i.invariant in
    let test = c.loop-i-test.true in
    down_more (RulesAre (word_at c.args.tables.now) c.args.first c.args.count) 7 c.args.count d (c.bounds.result + 5) test (omega (arith, c.bounds.ensures.1))
    (rules_next (word_at c.args.tables.now) c.args.first c.args.count test d.within c.bounds.ensures.0 d.is)

pub returns : goal.returns
returns c =
    let d = down_done (RulesAre (word_at c.args.tables.now) c.args.first c.args.count) 7 c.args.count c.loop-i.invariant c.loop-i-test.false in
    let z : c.args.count - 0 ≡ c.args.count = omega arith in
    ((λ (g : ℕ → ℕ) (k : ℕ). d.0 g k ∙ ap (λ (n : ℕ). length (rules_lines k (rules_in (word_at c.args.tables.now) g n (c.args.count - 0)))) (add-zero c.args.first) ∙ ap (λ (n : ℕ). length (rules_lines k (rules_in (word_at c.args.tables.now) g c.args.first n))) z), d.1)

pub loop-i-init : goal.loop-i-init
loop-i-init c = down_start (RulesAre (word_at c.args.tables.now) c.args.first c.args.count) 7 c.args.count (rules_start (word_at c.args.tables.now) c.args.first c.args.count)
