-- The goals that the search leaves.
use native.Mathlib.Omega.{arith}
use Rattle.recount.proofs.Laid.{tables_long}
use Rattle.exact.proofs.Summing.{sum_start, sum_more, sum_end_lem, sum_breaks, sum_makes}
use Rattle.exact.proofs.Asked.counts.Goals as goal

pub index-clauses-requires : goal.index-clauses-requires
index-clauses-requires c = omega (arith, tables_long _ _ c.args.self.now.lent.plan.laid)

pub loop-c-init : goal.loop-c-init
loop-c-init c = (sum_start _ _ _, sum_start _ _ _)

pub loop-c-preserved : goal.loop-c-preserved
loop-c-preserved c =
    let i = c.index-clauses.ensures in
    let t = c.loop-c-test.true in (
      sum_more _ _ _ _ _ c.loop-c.invariant.0 _ _ (omega (arith, t, i)) c.clause_counts.ensures.breaks c.add-sum.ensures.breaks,
      sum_more _ _ _ _ _ c.loop-c.invariant.1 _ _ (omega (arith, t, i)) c.clause_counts.ensures.makes c.add-sum.ensures.makes,
    )

pub returns : goal.returns
returns c =
    record {
      breaks = sum_breaks _ _ _ _ _ (sum_end_lem _ _ _ _ _ c.loop-c.invariant.0 (omega (arith, c.loop-c-test.false, c.index-clauses.ensures)));
      makes = sum_makes _ _ _ _ _ (sum_end_lem _ _ _ _ _ c.loop-c.invariant.1 (omega (arith, c.loop-c-test.false, c.index-clauses.ensures)));
    }
