-- `calls::counts::counts` meets its contract: it is refused as its tests say, or all that the core needs has been tested. Assumes nothing.
use mathlib.Core.Path.{sym, ap, ◌∙◌}
use Rattle.plpb.specs.Count.{given}
use Rattle.counting.specs.Count.{count_words}
use Rattle.tallies.specs.Calls.{plan}
use Rattle.calls.proofs.Opening.{some_number}
use Rattle.calls.proofs.Accepting.{flippable, counts_refused, counts_accepted}
use Rattle.calls.proofs.counts.counts.Goals as goal

pub returns-in-Err : goal.returns-in-Err
returns-in-Err c =
    let e = c.in-Err.ensures.number in
    let k = counts_refused _ _ _ e (some_number c.in-Err.refusal) in
    record { refusal_value = c.from.ensures ∙ e; breaks_value = k.0; makes_value = k.1 }

pub counts_core-c-requires : goal.counts_core-c-requires
counts_core-c-requires c =
    let e = c.in-Ok.ensures in
    let f = flippable _ _ (sym e.number) in
    rw (e.handed.0, e.handed.1) (f.ready.bytes, f.low, f.high)

pub returns : goal.returns
unfolding plan
returns c =
    let e = c.in-Ok.ensures in
    let k = counts_accepted _ _ (sym e.number) in
    let f = rw (e.handed.0, e.handed.1) at c.counts_core-c.ensures in
    record {
      refusal_value = e.number;
      breaks_value = c.from-2.ensures ∙ ap (λ n. count_words (given n)) f.breaks ∙ ap count_words k.0;
      makes_value = c.from-3.ensures ∙ ap (λ n. count_words (given n)) f.makes ∙ ap count_words k.1;
    }
