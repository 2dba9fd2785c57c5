-- `probe_binomial` meets its contract, by the test of m.
-- Assumes nothing.
use native.Mathlib.Omega.{arith}
use mathlib.Core.Path.{◌∙◌}
use Rattle.counting.proofs.Marks.{words_uncut}
use Rattle.probe.specs.Answers.{binomial_answer}
use Rattle.probe.proofs.Answering.{is_word_lem, no_word, given_by}
use Rattle.probe.proofs.probe_binomial.Goals as goal

pub returns-then-from-m : goal.returns-then-from-m
unfolding binomial_answer
returns-then-from-m c = rw (no_word c.args.m (omega (arith, c.if-from-m.true, c.from.ensures))) (words_uncut 0 (omega arith))

pub returns : goal.returns
unfolding binomial_answer
returns c =
    rw (is_word_lem c.args.m (omega (arith, c.if-from-m.false, c.from.ensures))) (c.from-2.ensures ∙ given_by _ c.binomial.ensures)
