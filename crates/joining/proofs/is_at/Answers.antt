-- `is_at` meets its contract: the rule names the variable exactly where the next place is its.
-- Assumes nothing.
use native.Mathlib.Omega.{arith}
use mathlib.Core.Path.{ap, ◌∙◌}
use lib.Dec.{eqb}
use Rattle.effects.proofs.Runs.{going_tables}
use Rattle.effects.proofs.Places.{place_few}
use Rattle.joining.proofs.Merging.{merging_visited, at_named, past_unnamed}
use Rattle.joining.proofs.is_at.Goals as goal

pub returns-then-i-group : goal.returns-then-i-group
returns-then-i-group c = ap (λ n. eqb n c.args.r) c.rule_in.ensures ∙ at_named c.requires c.if-i-group.true c.word.ensures

pub overflow_add-i : goal.overflow_add-i
overflow_add-i c = omega (arith, place_few (merging_visited c.requires c.if-i-group.true))

pub word-requires : goal.word-requires
word-requires c = omega (arith, place_few (merging_visited c.requires c.if-i-group.true), going_tables c.args.group.now.run.now.going)

pub returns : goal.returns
returns c = past_unnamed c.requires c.if-i-group.false
