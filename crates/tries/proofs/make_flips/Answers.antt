-- The goals that the search leaves.
use mathlib.Core.Path.{◌∙◌}
use Rattle.tries.proofs.Trying.{flips_found, flips_more, flips_stopped, flips_end}
use Rattle.tries.proofs.make_flips.Goals as goal

pub returns-then-word-eq0 : goal.returns-then-word-eq0
returns-then-word-eq0 c =
    flips_found c.loop-turn.invariant c.loop-turn-test.true (rw (← c.word.ensures) c.if-word-eq0.true)

pub returns-in-Err : goal.returns-in-Err
returns-in-Err c =
    rw c.stopped.ensures
    (flips_stopped c.loop-turn.invariant c.loop-turn-test.true (λ e. c.if-word-eq0.false (c.word.ensures ∙ e)) _ c.in-Err.is c.make_move.ensures)

pub loop-turn-preserved : goal.loop-turn-preserved
loop-turn-preserved c =
    flips_more c.loop-turn.invariant c.loop-turn-test.true (λ e. c.if-word-eq0.false (c.word.ensures ∙ e)) c.make_move.ensures c.in-Ok.is

pub returns : goal.returns
returns c = flips_end c.loop-turn.invariant c.loop-turn-test.false
