-- `calls::flip::flip` meets its contract: it is refused as its tests say, or all that the core needs has been tested. Assumes nothing.
use mathlib.Core.Path.{sym, ◌∙◌}
use Rattle.calls.proofs.Opening.{some_number}
use Rattle.calls.proofs.Accepting.{flip_tested, flip_refused, flip_accepted}
use Rattle.calls.proofs.flip.flip.Goals as goal

pub returns-in-Err : goal.returns-in-Err
returns-in-Err c =
    let e = c.in-Err.ensures.number in
    let k = flip_refused _ _ _ e (some_number c.in-Err.refusal) in
    record { refusal_value = c.from.ensures ∙ e; rules_value = k.0; assignment_after = k.1; tallies_after = k.2 }

pub flip_core-rules-requires : goal.flip_core-rules-requires
flip_core-rules-requires c = let e = c.in-Ok.ensures in rw (e.handed.0, e.handed.1) (flip_tested _ _ (sym e.number))

pub returns : goal.returns
returns c =
    let e = c.in-Ok.ensures in
    let k = flip_accepted _ _ (sym e.number) in
    let f = rw (e.handed.0, e.handed.1) at c.flip_core-rules.ensures in
    record { refusal_value = e.number; rules_value = f.0 ∙ k.0; assignment_after = f.1 ∙ k.1; tallies_after = f.2 ∙ k.2 }
