-- The goals that the search leaves.
use native.Mathlib.Omega.{arith}
use mathlib.Core.Path.{refl}
use Rattle.recount.proofs.Laid.{tables_long, clauses_few}
use Rattle.recount.proofs.Recounting.{clauses_start, clauses_step}
use Rattle.words.proofs.Tests.{not_decides}
use Rattle.fresh.proofs.Testing.{fresh_clause, whole_end}
use Rattle.fresh.proofs.Tallied.clauses_fresh.Goals as goal

pub index-clauses-requires : goal.index-clauses-requires
index-clauses-requires c = omega (arith, tables_long _ _ c.args.self.now.lent.plan.laid)

pub loop-c-init : goal.loop-c-init
loop-c-init c = clauses_start _ _ _ c.args.self.now.lent.plan.laid _

pub returns-then-not-clause_fresh : goal.returns-then-not-clause_fresh
returns-then-not-clause_fresh c =
    not_decides refl
    (λ e. c.clause_fresh.ensures.not_so c.if-not-clause_fresh.true (fresh_clause _ _ _ _ c.args.self.now.lent.plan.laid _ (omega (arith, c.loop-c-test.true, c.index-clauses.ensures)) e))

pub overflow_add-c : goal.overflow_add-c
overflow_add-c c =
    omega (arith, c.loop-c.invariant.high, clauses_few _ _ c.args.self.now.lent.plan.laid)

pub word-requires : goal.word-requires
word-requires c =
    omega (arith, c.loop-c.invariant.high, clauses_few _ _ c.args.self.now.lent.plan.laid, c.args.self.now.room)

pub overflow_add-unsatisfied : goal.overflow_add-unsatisfied
overflow_add-unsatisfied c =
    omega (arith, c.loop-c.invariant.few, c.loop-c.invariant.high, clauses_few _ _ c.args.self.now.lent.plan.laid, c.bit-unsatisfied.ensures.1)

pub loop-c-preserved : goal.loop-c-preserved
loop-c-preserved c =
    clauses_step _ _ _ c.args.self.now.lent.plan.laid _ _ _ _ c.loop-c.invariant _ _ _
    (omega (arith, c.loop-c-test.true, c.index-clauses.ensures))
    (c.clause_fresh.ensures.so c.if-not-clause_fresh.false) c.word.ensures c.bit-unsatisfied.ensures.0

pub returns : goal.returns
returns c =
    whole_end _ _ _ _ c.args.self.now.lent.plan.laid _ _ c.loop-c.invariant c.args.self.now.bytes c.args.self.now.room c.requires _
    (omega (arith, c.loop-c-test.false, c.index-clauses.ensures)) c.word-2.ensures
