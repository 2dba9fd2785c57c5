-- `replay_calls` meets its contract: it is refused before a byte is changed, or the book tells what the calls after opening leave.
-- Assumes nothing.
use native.Mathlib.Omega.{arith}
use mathlib.Core.Path.{sym, ap, ◌∙◌}
use Rattle.words.specs.Writes.{front}
use Rattle.tallies.specs.Calls.{Lent}
use Rattle.tallies.specs.Demand.{answers, after}
use Rattle.calls.proofs.Accepting.{open_refused}
use Rattle.replay.specs.Replay.{calls_of, answer_bytes}
use Rattle.replay.proofs.Told.{no_room, with_room, refused_keeps, opened_by, told_answers, told_assignment, told_tallies}
use Rattle.replay.proofs.replay_calls.Goals as goal

pub returns-then-out-list : goal.returns-then-out-list
returns-then-out-list c =
    let l : Lent = record { tables = c.args.tables.now; terms = c.args.terms.now; assignment = c.args.assignment.now; tallies = c.args.tallies.now } in
    let e = no_room l c.args.list.now c.args.out.now c.if-out-list.true in
    let k = refused_keeps l c.args.list.now c.args.out.now 21 e (λ z. omega arith) in
    record { value = c.from.ensures ∙ e; out_after = k.0; assignment_after = k.1; tallies_after = k.2 }

pub returns-then-refusal-ne0 : goal.returns-then-refusal-ne0
returns-then-refusal-ne0 c =
    let l : Lent = record { tables = c.args.tables.now; terms = c.args.terms.now; assignment = c.args.assignment.now; tallies = c.args.tallies.now } in
    let o = c.open-refusal.ensures in
    let e = o.value ∙ with_room l c.args.list.now c.args.out.now (omega (arith, c.if-out-list.false)) in
    let k = refused_keeps l c.args.list.now c.args.out.now _ e c.if-refusal-ne0.true in
    record { value = e; out_after = k.0; assignment_after = k.1; tallies_after = o.tallies_after ∙ sym (open_refused l _ o.value c.if-refusal-ne0.true) ∙ k.2 }

pub returns : goal.returns
returns c =
    let l : Lent = record { tables = c.args.tables.now; terms = c.args.terms.now; assignment = c.args.assignment.now; tallies = c.args.tallies.now } in
    let list = c.args.list.now in
    let out = c.args.out.now in
    let z = sym c.open-refusal.ensures.value ∙ c.if-refusal-ne0.false in
    let r = sym z ∙ with_room l list out (omega (arith, c.if-out-list.false)) in
    let o = opened_by l _ c.open-refusal.ensures.tallies_after in
    let f = c.make_calls.ensures in record { value = r; out_after = f.out_after ∙ ap (λ n. front (answer_bytes (answers n (calls_of list))) out) o ∙ told_answers l list out z r; assignment_after = f.assignment_after ∙ ap (λ n. (after n (calls_of list)).assignment) o ∙ told_assignment l list out z r; tallies_after = f.tallies_after ∙ ap (λ n. (after n (calls_of list)).tallies) o ∙ told_tallies l list out z r }
