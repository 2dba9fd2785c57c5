-- The goals that the search leaves.
use Prim.Native.Nat.{◌/◌, ◌≤◌, ◌<◌}
use native.Mathlib.Omega.{arith}
use lib.ListN.{length}
use borrow.Rule.Slice.PartMut.{same_len_mid}
use mathlib.Core.Path.{refl, sym, ap, ◌∙◌}
use Rattle.tallies.specs.Calls.{Lent}
use Rattle.replay.proofs.Made.{part_written, chunk_call, after_turn, answers_turn, answers_first, after_first, answers_last, after_last}
use Rattle.replay.proofs.make_calls.Goals as goal

pub loop-k-init : goal.loop-k-init
loop-k-init c = (answers_first _ c.args.list.now c.args.out.now, after_first _ c.args.list.now, refl, refl, refl)

pub loop-k-preserved : goal.loop-k-preserved
loop-k-preserved c =
    let e = c.make_call-a.ensures in
    let l = c.loop-k in
    let some : l.k < length c.args.list.now / 5 = omega (arith, c.loop-k-test.true, c.as_chunks.ensures.front_len) in
    let named = c.read_call-call.ensures ∙ chunk_call c.args.list.now l.k c.as_chunks.ensures.front some in (
      answers_turn _ _ _ l.k _ _ _ some named e.assignment_after e.tallies_after _ l.out _ (omega (arith, c.requires, l.invariant.4)) e.result_value
          (part_written _ _ _ l.out c.write_answer.ensures (omega arith)) ∙ l.invariant.0,
      after_turn _ _ _ l.k _ _ _ some named e.assignment_after e.tallies_after ∙ l.invariant.1,
      c.make_call-a.auto.assignment ∙ l.invariant.2,
      c.make_call-a.auto.tallies ∙ l.invariant.3,
      same_len_mid _ _ l.out _ c.write_answer.auto.out ∙ l.invariant.4,
    )

pub returns : goal.returns
returns c =
    let b = c.loop-k in
    let all : length c.args.list.now / 5 ≤ b.k = omega (arith, c.loop-k-test.false, c.as_chunks.ensures.front_len) in
    let e = sym (after_last _ _ _ b.k all) ∙ b.invariant.1 in
    record { out_after = sym (answers_last _ _ _ b.k b.out all) ∙ b.invariant.0; assignment_after = ap (λ (m : Lent). m.assignment) e; tallies_after = ap (λ (m : Lent). m.tallies) e }
