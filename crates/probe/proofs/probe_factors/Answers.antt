-- `probe_factors` meets its contract, by the test of m.
-- Assumes nothing.
use native.Mathlib.Omega.{arith}
use Rattle.probe.specs.Answers.{factors_answer}
use Rattle.probe.proofs.Answering.{is_word_lem, no_word}
use Rattle.probe.proofs.probe_factors.Goals as goal

pub returns-then-from-m : goal.returns-then-from-m
unfolding factors_answer
returns-then-from-m c = rw (no_word c.args.m (omega (arith, c.if-from-m.true, c.from.ensures)))

pub returns : goal.returns
unfolding factors_answer
returns c = rw (is_word_lem c.args.m (omega arith)) c.reported.ensures.factors_value
