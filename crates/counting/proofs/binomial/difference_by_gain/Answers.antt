-- `difference_by_gain` meets its contract: it is at least the entry before it in the row above, and exact where that one is.
-- Assumes nothing.
use borrow.Author.Rules.{rules}
use native.Mathlib.Omega.{arith}
use mathlib.Core.Path.{sym, ◌∙◌}
use borrow.Author.Tests.{ltb-true, ltb-false}
use Prim.Native.Nat.{◌<◌}
use Rattle.plpb.specs.Count.{cap}
use Rattle.counting.proofs.Difference.{none_taken, none_added, all_taken, one_taken, gain_cut, gain_exact}
use Rattle.counting.proofs.binomial.difference_by_gain.Goals.{then-k-eq0-via-then-k-eq0, then-k-eq0-via-else-k-eq0+then-w-eq0}
use Rattle.counting.proofs.binomial.difference_by_gain.Goals as goal

pub returns-then-k-eq0 : goal.returns-then-k-eq0
returns-then-k-eq0 c =
    elim c.then-k-eq0.branch [
      | then-k-eq0-via-then-k-eq0 w ↦ none_taken _ _ _ w.if-k-eq0.true
      | then-k-eq0-via-else-k-eq0+then-w-eq0 w ↦ none_added _ _ _ w.if-w-eq0.true
    ]

pub returns-then-m-w : goal.returns-then-m-w
returns-then-m-w c = all_taken _ _ _ (search rules) c.if-m-w.true

pub returns-then-k-eq1 : goal.returns-then-k-eq1
returns-then-k-eq1 c = c.from.ensures ∙ one_taken _ _ _ c.if-k-eq1.true

pub returns-then-is_cut : goal.returns-then-is_cut
unfolding cap
returns-then-is_cut c =
    gain_cut _ _ _ _ (omega arith) (omega arith) c.binomial-gain.ensures (ltb-true _ _ (sym c.is_cut.ensures ∙ c.if-is_cut.true))

pub exact_difference-requires : goal.exact_difference-requires
unfolding cap
exact_difference-requires c =
    let small = ltb-false _ _ (sym c.is_cut.ensures ∙ c.if-is_cut.false) in
    let below : c.rank.result < 4294967296 = omega (arith, small, c.rank.ensures.0) in
    (search rules, search rules, search rules, below, gain_exact _ _ (c.rank.ensures.0 ∙ c.binomial-gain.ensures) below)
