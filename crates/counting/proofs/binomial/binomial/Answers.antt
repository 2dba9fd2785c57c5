-- `binomial` meets its contract: nothing can be chosen of fewer than k, small rows are in the table, larger ones are counted.
-- Assumes nothing.
use native.Mathlib.Omega.{arith}
use mathlib.Core.Path.{sym, ◌∙◌, ap}
use Rattle.plpb.specs.Count.{capped}
use Rattle.plpb.proofs.Binomial.{binom_vanishes}
use Rattle.plpb.proofs.Capped.{capped_zero}
use Rattle.plpb.proofs.Triangle.{row_small}
use Rattle.counting.proofs.Difference.{middle_cut}
use Rattle.counting.proofs.binomial.binomial.Goals as goal

pub returns-then-m-k : goal.returns-then-m-k
returns-then-m-k c = sym (ap capped (binom_vanishes _ _ c.if-m-k.true) ∙ capped_zero)

-- What stands in the table is no more than the cap.
pub returns-then-m-lt-ROWS : goal.returns-then-m-lt-ROWS
returns-then-m-lt-ROWS c =
    c.from.ensures ∙ c.tabled.ensures ∙ sym (row_small c.args.m c.args.k (omega (arith, c.if-m-lt-ROWS.true)) (omega (arith, c.if-m-k.false)))

-- In the middle of a row above the table everything is past the cap.
pub returns-then-k-m : goal.returns-then-k-m
returns-then-k-m c =
    middle_cut c.args.m c.args.k (omega (arith, c.if-m-lt-ROWS.false)) (omega (arith, c.if-k-ge17.true)) (omega (arith, c.if-k-m.true))

pub returns : goal.returns
returns c = c.by_factors.ensures.count_value
