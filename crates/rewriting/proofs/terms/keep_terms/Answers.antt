-- The goals that the search leaves.
use native.Mathlib.Omega.{arith}
use Rattle.rewriting.proofs.Termwise.{keeping_room, keeping_variable, keeping_more, keeping_all}
use Rattle.rewriting.proofs.terms.keep_terms.Goals as goal

pub keep_term-end-requires : goal.keep_term-end-requires
keep_term-end-requires c = (
  keeping_room _ _ _ _ _ c.requires.0 _ _ _ _ (omega (arith, c.loop-i-test.true)) c.loop-i.invariant,
  keeping_variable _ _ _ _ _ c.requires.0 _ _ _ _ (omega (arith, c.loop-i-test.true)) c.loop-i.invariant,
  c.loop-i.invariant.behind,
)

pub loop-i-preserved : goal.loop-i-preserved
loop-i-preserved c =
    keeping_more _ _ _ _ _ c.requires.0 _ _ _ _ (omega (arith, c.loop-i-test.true)) c.loop-i.invariant (omega arith) (omega arith)
    c.keep_term-end.ensures.0 c.keep_term-end.ensures.1

pub returns : goal.returns
returns c = keeping_all _ _ _ _ _ _ _ _ _ (omega (arith, c.loop-i-test.false)) c.loop-i.invariant
