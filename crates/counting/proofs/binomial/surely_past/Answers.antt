-- `surely_past` meets its contract: where it says yes, what the difference is at least is past the cap.
-- Assumes nothing.
use mathlib.Core.Path.{sym, ◌∙◌}
use borrow.Author.Rules.{rules}
use borrow.Author.Tests.{tests}
use Rattle.counting.proofs.Difference.{far_apart}
use Rattle.counting.proofs.binomial.surely_past.Goals.{then-w-gt0, else-w-gt0}
use Rattle.counting.proofs.binomial.surely_past.Goals as goal

pub returns-then-k-m : goal.returns-then-k-m
returns-then-k-m c = λ e.
    elim c.if-w-gt0.branch [
      | then-w-gt0 w ↦
          far_apart c.args.m c.args.w c.args.k w.if-w-gt0.true.0 w.if-w-gt0.true.1 (let a = sym w.value-is ∙ c.if-k-m.true in search (rules, tests)) (search (rules, tests))
      | else-w-gt0 w ↦ let a = sym w.value-is ∙ c.if-k-m.true in search (rules, tests)
    ]
