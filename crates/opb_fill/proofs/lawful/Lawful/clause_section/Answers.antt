-- The goals that the search leaves.
use native.Mathlib.Omega.{arith}
use mathlib.Core.Path.{refl}
use Rattle.opb_fill.proofs.Accepted.{lawful_text}
use Rattle.opb_fill.proofs.Filled.{clause_start, clause_more, clause_end}
use Rattle.opb_fill.proofs.lawful.Lawful.clause_section.Goals as goal

pub loop-c-init : goal.loop-c-init
loop-c-init c =
    clause_start _ _ c.requires.clauses_value.1 (omega (arith, c.requires.clauses_value.0, (lawful_text _ _ c.args.self.says).clause_count))

pub loop-c-preserved : goal.loop-c-preserved
loop-c-preserved c = clause_more c.loop-c.invariant c.loop-c-test.true _ c.put_clause.ensures

pub returns : goal.returns
returns c = clause_end c.loop-c.invariant _ c.requires.clauses_value.0 c.loop-c-test.false refl _ c.clear.ensures
