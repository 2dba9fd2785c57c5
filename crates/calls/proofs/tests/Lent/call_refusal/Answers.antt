-- `calls::tests::Lent::call_refusal` meets its contract: each test answers what the definition asks next. Assumes nothing.
use native.Mathlib.Omega.{arith}
use mathlib.Core.Path.{sym, ◌∙◌}
use borrow.Author.Tests.{not-true, not-false}
use Rattle.tallies.specs.Calls.{fresh_bytes, plan}
use Rattle.tallies.proofs.Refusals.{opens, tallies_room}
use Rattle.recount.proofs.Callers.{opens_ready}
use Rattle.calls.proofs.Opening.{passed_on, some_number}
use Rattle.calls.proofs.Accepting.{loaded_tables, call_first, call_25, call_zero, call_high, call_none}
use Rattle.calls.proofs.tests.Lent.call_refusal.Goals.{then-x-eq0-via-then-x-eq0, then-x-eq0-via-else-x-eq0+then-word-x}
use Rattle.calls.proofs.tests.Lent.call_refusal.Goals as goal

pub returns-in_err-t : goal.returns-in_err-t
returns-in_err-t c =
    let q = c.in_err-t.field-0.0 in
    passed_on _ q c.from_residual.ensures.1 (call_first _ _ _ c.in_err-t.ensures.number (some_number q))

pub fresh-requires : goal.fresh-requires
fresh-requires c =
    let e = c.in_ok-t.ensures in
    let o = opens _ (sym e.number) in
    rw (e.handed.0, e.handed.1) ((opens_ready _ o).bytes, tallies_room _ o)

pub returns-then-not-fresh : goal.returns-then-not-fresh
unfolding fresh_bytes plan
returns-then-not-fresh c =
    let e = c.in_ok-t.ensures in
    let f = rw (e.handed.0, e.handed.1) at c.fresh.ensures in
    record { number = call_25 _ _ (sym e.number) (sym f ∙ not-true _ c.if-not-fresh.true-raw); handed = tt }

pub returns-then-x-eq0 : goal.returns-then-x-eq0
unfolding fresh_bytes plan
returns-then-x-eq0 c =
    let e = c.in_ok-t.ensures in
    let f = rw (e.handed.0, e.handed.1) at c.fresh.ensures in
    let same = sym f ∙ not-false _ c.if-not-fresh.false-raw in
    record {
      number = elim c.then-x-eq0.branch [
        | then-x-eq0-via-then-x-eq0 w ↦ call_zero _ _ (sym e.number) same w.if-x-eq0.true
        | then-x-eq0-via-else-x-eq0+then-word-x w ↦ call_high _ _ (sym e.number) same w.if-x-eq0.false (omega (arith, w.word.ensures, w.if-word-x.true))
      ];
      handed = tt;
    }

pub word-requires : goal.word-requires
word-requires c =
    omega (arith, loaded_tables _ (opens _ (sym c.in_ok-t.ensures.number)))

pub returns : goal.returns
unfolding fresh_bytes plan
returns c =
    let e = c.in_ok-t.ensures in
    let f = rw (e.handed.0, e.handed.1) at c.fresh.ensures in
    record {
      number = call_none _ _ (sym e.number) (sym f ∙ not-false _ c.if-not-fresh.false-raw) c.if-x-eq0.false (omega (arith, c.word.ensures));
      handed = e.handed;
    }
