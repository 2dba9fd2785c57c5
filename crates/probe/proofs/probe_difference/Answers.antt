-- `probe_difference` meets its contract, by the test of m + w.
-- Assumes nothing.
use Prim.Native.Nat.{◌+◌}
use native.Mathlib.Omega.{arith}
use mathlib.Core.Path.{◌∙◌}
use Rattle.counting.proofs.Marks.{words_uncut}
use Rattle.probe.specs.Answers.{difference_answer}
use Rattle.probe.proofs.Answering.{is_word_lem, no_word, given_by}
use Rattle.probe.proofs.probe_difference.Goals as goal

pub returns-then-from-low : goal.returns-then-from-low
unfolding difference_answer
returns-then-from-low c = rw (no_word (c.args.m + c.args.w) (omega (arith, c.if-from-low.true, c.from.ensures))) (words_uncut 0 (omega arith))

pub returns : goal.returns
unfolding difference_answer
returns c =
    let at = c.args in
    let exact = rw (c.from-low.ensures, c.from-more.ensures) at c.difference.ensures in
    rw (is_word_lem (at.m + at.w) (omega (arith, c.if-from-low.false, c.from.ensures))) (c.from-2.ensures ∙ given_by _ exact)
