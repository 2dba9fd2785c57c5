-- `is_within` meets its contract, by how the variable stands.
-- Assumes nothing.
use mathlib.Core.Path.{refl}
use Rattle.probe.specs.Answers.{is_within}
use Rattle.probe.proofs.is_within.Goals as goal

pub returns-in-Out : goal.returns-in-Out
unfolding is_within
returns-in-Out c = rw c.in-Out.is refl

pub returns-in-On : goal.returns-in-On
unfolding is_within
returns-in-On c = rw c.in-On.is refl

pub returns-in-Off : goal.returns-in-Off
unfolding is_within
returns-in-Off c = rw c.in-Off.is refl
