-- The goals that the search leaves.
use native.Mathlib.Omega.{arith}
use mathlib.Core.Path.{sym, ap, ◌∙◌}
use lib.ListN.{length}
use Rattle.tokens.proofs.Runs.{read_behind}
use Rattle.opb_lines.proofs.Lines.{next_on}
use Rattle.opb_fill.specs.Fill.{of_kind, those_from}
use Rattle.opb_fill.proofs.Filled.{kind_tells, line_skipped}
use Rattle.opb_fill.proofs.first_from.Goals as goal

pub loop-text-smaller : goal.loop-text-smaller
loop-text-smaller c =
    let text = c.loop-text.text in
    let next = c.next_line-text.ensures in
    omega (arith, next.at, ap length next.bytes, next_on text.bytes.now text.at text.within c.loop-text-test.true)

pub loop-text-preserved : goal.loop-text-preserved
loop-text-preserved c =
    let text = c.loop-text in
    let next = c.next_line-text.ensures in (
      next.bytes ∙ text.invariant.0,
      omega (arith, next.at, text.invariant.1, next_on text.text.bytes.now text.text.at text.text.within c.loop-text-test.true),
      read_behind next (those_from (of_kind c.args.kind))
          ∙ line_skipped _ _ c.loop-text-test.true (of_kind c.args.kind) (kind_tells _ _ _ c.args.kind c.kind_at.ensures ∙ sym c.eq.ensures ∙ c.if-eq.false)
          ∙ text.invariant.2,
    )

pub returns-then-eq : goal.returns-then-eq
returns-then-eq c =
    let text = c.loop-text in
    record {
      bytes = text.invariant.0;
      behind = text.invariant.1;
      same = ap (λ s. those_from (of_kind c.args.kind) s text.text.at) (sym text.invariant.0) ∙ text.invariant.2;
      here = λ l. rw (sym text.invariant.0) (kind_tells _ _ _ c.args.kind c.kind_at.ensures ∙ sym c.eq.ensures ∙ c.if-eq.true);
    }
