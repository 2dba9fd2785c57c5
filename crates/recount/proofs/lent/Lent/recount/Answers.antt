-- The goals that the search leaves.
use borrow.Author.Rules.{rules}
use native.Mathlib.Omega.{arith}
use Rattle.recount.proofs.Laid.{tables_long, clauses_few}
use Rattle.recount.proofs.Keeping.{tally_wrote}
use Rattle.recount.proofs.Recounting.{clauses_start, clauses_step, clauses_end}
use Rattle.recount.proofs.lent.Lent.recount.Goals as goal

pub index-clauses-requires : goal.index-clauses-requires
index-clauses-requires c =
    omega (arith, tables_long _ _ c.args.self.now.plan.laid)

pub loop-c-init : goal.loop-c-init
loop-c-init c = clauses_start _ _ _ c.args.self.now.plan.laid _

pub overflow_add-c : goal.overflow_add-c
overflow_add-c c =
    omega (arith, c.loop-c.invariant.high, clauses_few _ _ c.args.self.now.plan.laid)

pub word-requires : goal.word-requires
word-requires c =
    omega
    (arith, c.loop-c.invariant.high, clauses_few _ _ c.args.self.now.plan.laid, c.requires.0, c.loop-c.invariant.kept.size, c.recount_clause.ensures.kept.size)

pub overflow_add-unsatisfied : goal.overflow_add-unsatisfied
overflow_add-unsatisfied c =
    omega (arith, c.loop-c.invariant.few, c.loop-c.invariant.high, clauses_few _ _ c.args.self.now.plan.laid, c.bit-unsatisfied.ensures.1)

pub loop-c-preserved : goal.loop-c-preserved
loop-c-preserved c =
    clauses_step _ _ _ c.args.self.now.plan.laid _ _ _ _ c.loop-c.invariant _ _ _
    (omega (arith, c.loop-c-test.true, c.index-clauses.ensures))
    c.recount_clause.ensures c.word.ensures c.bit-unsatisfied.ensures.0

pub returns : goal.returns
returns c =
    let w = tally_wrote _ c.loop-c.unsatisfied _ _ (omega arith) (search rules) (omega (arith, c.requires.0, c.loop-c.invariant.kept.size)) c.write_word.ensures in
    clauses_end _ _ _ c.args.self.now.plan.laid _ _ _ _ c.loop-c.invariant _ (λ i. omega (arith, c.slice_known-2-1.given i)) c.requires.0 c.requires.1
    (omega (arith, c.loop-c-test.false, c.index-clauses.ensures))
    w
