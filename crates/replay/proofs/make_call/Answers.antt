-- `replay::make_call` meets its contract: a flip or a counts call. Assumes nothing.
use mathlib.Core.Path.{◌∙◌}
use Rattle.replay.proofs.Made.{flip_made, counts_made}
use Rattle.replay.proofs.make_call.Goals as goal

pub returns-in-Flip : goal.returns-in-Flip
returns-in-Flip c =
    let f = c.flip.ensures in
    let m = flip_made _ _ _ _ f.refusal_value f.rules_value in
    rw c.in-Flip.is (record { result_value = c.from.ensures ∙ m.0; assignment_after = f.assignment_after ∙ m.1; tallies_after = f.tallies_after ∙ m.2 })

pub returns-in-Counts : goal.returns-in-Counts
returns-in-Counts c =
    let e = c.counts.ensures in
    let m = counts_made _ _ _ e.refusal_value _ _ e.breaks_value e.makes_value in
    rw c.in-Counts.is (record { result_value = c.from-in-Counts.ensures ∙ m.0; assignment_after = m.1; tallies_after = m.2 })
