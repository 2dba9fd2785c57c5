-- `side_told` meets its contract: the hint is that of a place of the run.
-- Assumes nothing.
use Prim.Native.Nat.{◌+◌, ◌*◌, ◌%◌}
use native.Mathlib.Omega.{arith}
use mathlib.Core.Path.{ap, ◌∙◌}
use Rattle.order.specs.Order.{word_place}
use Rattle.effects.proofs.Runs.{going_few}
use Rattle.effects.proofs.Visits.{going_on, has_places, visited_single}
use Rattle.effects.proofs.Hints.{hint_weight, hint_side}
use Rattle.effects.proofs.footing.Footing.side_told.Goals as goal

pub word-hint-requires : goal.word-hint-requires
word-hint-requires c = let r = c.requires.0 in omega (arith, going_few (going_on _ (has_places r)), r.weighed.room)

pub overflow_mul-result : goal.overflow_mul-result
unfolding word_place
overflow_mul-result c = omega (arith, c.rule_in.ensures)

pub overflow_add-result-2 : goal.overflow_add-result-2
unfolding word_place
overflow_add-result-2 c = omega (arith, c.rule_in.ensures)

pub returns : goal.returns
returns c =
    let r = c.requires.0 in
    let h = r.hinted.each c.args.x r.low r.high c.requires.1 in
    let v = visited_single c.args.self.now (has_places r) h in
    record {
      at = h.at;
      first = h.first;
      last = h.last;
      single = h.single;
      told = (ap (λ n. 2 * n + (c.word-hint.result % 2 + c.from-v.result) % 2) c.rule_in.ensures ∙ hint_side v (c.word-hint.ensures ∙ h.told) c.from-v.ensures, hint_weight v h.told);
    }
