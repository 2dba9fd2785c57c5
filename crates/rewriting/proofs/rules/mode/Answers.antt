-- `rules::mode` meets its contract, by which bounds there are.
-- Assumes nothing.
use Rattle.format.specs.Writer.{mode}
use Rattle.rewriting.proofs.rules.mode.Goals as goal

pub returns-in-None-None : goal.returns-in-None-None
unfolding mode
returns-in-None-None c = rw (c.in-None-None.is-0, c.in-None-None.is-1)

pub returns-in-None-Some : goal.returns-in-None-Some
unfolding mode
returns-in-None-Some c = rw (c.in-None-Some.is-0, c.in-None-Some.is-1)

pub returns-in-Some-None : goal.returns-in-Some-None
unfolding mode
returns-in-Some-None c = rw (c.in-Some-None.is-0, c.in-Some-None.is-1)

pub returns-in-Some-Some : goal.returns-in-Some-Some
unfolding mode
returns-in-Some-Some c = rw (c.in-Some-Some.is-0, c.in-Some-Some.is-1)
