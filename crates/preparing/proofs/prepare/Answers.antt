-- `prepare` meets its contract: each of its calls writes words of its own.
-- Assumes nothing.
use native.Mathlib.Omega.{arith}
use mathlib.Core.Path.{◌∙◌}
use Rattle.recount.proofs.Laid.{parts}
use Rattle.columns.specs.Layout.{hint_at, column_word_count}
use Rattle.columns.proofs.Marks.{hinted_same, unhinted}
use Rattle.columns.proofs.Frames.{only_next, only_wider, weighed_kept}
use Rattle.preparing.proofs.prepare.Goals as goal

pub returns : goal.returns
returns c =
    let h = c.clear_hints.ensures in
    let s = c.size_rules.ensures in
    let w = c.weigh.ensures in
    let l = c.list_clauses.ensures in
    let written = only_next {from = hint_at 1} {end = column_word_count} (only_wider (omega arith) (omega arith) h.1) (only_wider (omega arith) (omega arith) w.1) in
    let high = (parts _ _ c.args.t.now.laid).high in
    let hints = hinted_same (λ x k m. l.1.low (hint_at x) (omega (arith, high)) ∙ w.1.low (hint_at x) (omega (arith, high))) (unhinted high h.0) in
    (s.0, weighed_kept (parts _ _ c.args.t.now.laid).terms (omega arith) l.1 w.0, l.0, hints, s.1, only_next written (only_wider (omega arith) (omega arith) l.1))
