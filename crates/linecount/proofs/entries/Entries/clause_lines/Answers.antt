-- `Entries::clause_lines` meets its contract: one rule's bounds, or (15) and the rules.
-- Assumes nothing.
use Prim.Native.Nat.{ℕ}
use native.Mathlib.Omega.{arith}
use mathlib.Core.Path.{◌≡◌, sym, ap, ◌∙◌}
use Rattle.words.specs.Words.{word_at}
use Rattle.format.specs.Layout.{clause_first_at, clause_count_at}
use Rattle.opb.specs.Tau.{straight, rules_lines}
use Rattle.format.specs.Tables.{rule_of}
use Rattle.clauselines.specs.Clauses.{rules_in}
use lib.ListN.{length}
use Rattle.linecount.proofs.Lines.{single_count, several_count}
use Rattle.linecount.proofs.entries.Entries.clause_lines.Goals as goal

pub returns-then-count-eq1 : goal.returns-then-count-eq1
returns-then-count-eq1 c =
    let f = word_at c.args.self.now.tables.now in
    let p = c.index-first.ensures in (
      single_count f c.args.c (sym c.index-count.ensures ∙ c.if-count-eq1.true)
          (λ (g : ℕ → ℕ). c.bounds.ensures.0 g ∙ ap (λ (n : ℕ). length (straight (rule_of f g n))) p),
      omega (arith, c.bounds.ensures.1),
    )

pub returns : goal.returns
returns c =
    let f = word_at c.args.self.now.tables.now in
    let p = c.index-first.ensures in
    let q = c.index-count.ensures in
    let fit = c.args.self.now.fit.rules c.args.c c.requires in (
      several_count f c.args.c (λ (e : f (clause_count_at c.args.c) ≡ 1). c.if-count-eq1.false (q ∙ e))
          (λ (g : ℕ → ℕ) (k : ℕ). c.rules_lines.ensures.0 g k ∙ ap (λ (n : ℕ). length (rules_lines k (rules_in f g n c.index-count.result))) p ∙ ap (λ (n : ℕ). length (rules_lines k (rules_in f g (f (clause_first_at c.args.c)) n))) q),
      omega (arith, c.rules_lines.ensures.1, q, fit),
    )
