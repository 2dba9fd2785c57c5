-- `hint_at` meets its contract: the weight is that of the place's term, and rule and sign stand in its word.
-- Assumes nothing.
use Prim.Native.Nat.{◌+◌, ◌*◌, ◌%◌}
use native.Mathlib.Omega.{arith}
use mathlib.Core.Path.{ap₂, ◌∙◌}
use Rattle.columns.specs.Columns.{hint_of}
use Rattle.effects.proofs.Runs.{going_tables}
use Rattle.effects.proofs.Places.{place_few, place_entry, place_weight, weight_low}
use Rattle.effects.proofs.Visits.{visited}
use Rattle.effects.proofs.run.Run.hint_at.Goals as goal

pub overflow_add-k : goal.overflow_add-k
overflow_add-k c = omega (arith, place_few (visited c.args.self.now c.requires))

pub word-weight-requires : goal.word-weight-requires
word-weight-requires c = omega (arith, place_few (visited c.args.self.now c.requires), c.args.self.now.going.kept.weighed.room)

pub overflow_add-result : goal.overflow_add-result
overflow_add-result c = omega (arith, c.word-weight.ensures, weight_low (visited c.args.self.now c.requires))

pub overflow_mul-result : goal.overflow_mul-result
overflow_mul-result c = omega (arith, c.word-weight.ensures, weight_low (visited c.args.self.now c.requires))

pub overflow_add-k-2 : goal.overflow_add-k-2
overflow_add-k-2 c = omega (arith, place_few (visited c.args.self.now c.requires))

pub word-requires : goal.word-requires
word-requires c = omega (arith, place_few (visited c.args.self.now c.requires), going_tables c.args.self.now.going)

pub overflow_add-result-2 : goal.overflow_add-result-2
overflow_add-result-2 c = omega (arith, c.word-weight.ensures, weight_low (visited c.args.self.now c.requires))

pub returns : goal.returns
unfolding hint_of
returns c =
    let v = visited c.args.self.now c.requires in
    ap₂ (λ w o. 4_096 * (w + 2) + o % 4_096) (c.word-weight.ensures ∙ place_weight v) (c.word.ensures ∙ place_entry v)
