-- `side_at` meets its contract: sign and value of the variable tell whether its literal is true.
-- Assumes nothing.
use Prim.Native.Nat.{◌+◌, ◌*◌, ◌%◌}
use native.Mathlib.Omega.{arith}
use mathlib.Core.Path.{ap, ◌∙◌}
use Rattle.order.specs.Order.{word_place}
use Rattle.effects.proofs.Runs.{going_tables}
use Rattle.effects.proofs.Places.{place_few, place_side}
use Rattle.effects.proofs.Visits.{visited}
use Rattle.effects.proofs.run.Run.side_at.Goals as goal

pub returns : goal.returns
returns c = ap (λ r. 2 * r + (c.word-o.result % 2 + c.from-v.result) % 2) c.rule_in.ensures ∙ place_side (visited c.args.self.now c.requires) c.word-o.ensures c.from-v.ensures

pub overflow_add-k : goal.overflow_add-k
overflow_add-k c = omega (arith, place_few (visited c.args.self.now c.requires))

pub word-o-requires : goal.word-o-requires
word-o-requires c = omega (arith, place_few (visited c.args.self.now c.requires), going_tables c.args.self.now.going)

pub overflow_mul-result : goal.overflow_mul-result
unfolding word_place
overflow_mul-result c = omega (arith, c.rule_in.ensures)

pub overflow_add-result-2 : goal.overflow_add-result-2
unfolding word_place
overflow_add-result-2 c = omega (arith, c.rule_in.ensures)
