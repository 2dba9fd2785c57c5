-- `squeeze` meets its contract, case by case of the order of checks.
-- Assumes nothing.
use mathlib.Core.Path.{refl, sym, ◌∙◌}
use Rattle.verdict.specs.Answers as Judged
use Rattle.tables.proofs.Whole.{accepts}
use Rattle.squeeze.proofs.Outcomes.{is_turned, small_list, refused_file, is_squeezed}
use Rattle.squeeze.proofs.squeeze.Goals as goal

pub returns-then-old-lt-LIST : goal.returns-then-old-lt-LIST
returns-then-old-lt-LIST c = let whole = is_turned _ _ _ _ _ (small_list _ _ c.if-old-lt-LIST.true) c.from.ensures in record { answers = whole.0; file_after = whole.1.0; after = whole.1.1 }

pub returns-in-Err : goal.returns-in-Err
unfolding Judged.refusal_of Judged.offset_of
returns-in-Err c =
    let whole = refused_file _ _ _ _ _ _ c.if-old-lt-LIST.false (c.judge.ensures) c.in-Err.is
    (rw c.in-Err.is c.from-in-Err.ensures) in record { answers = whole.0; file_after = whole.1.0; after = whole.1.1 }

pub squeeze_by-requires : goal.squeeze_by-requires
squeeze_by-requires c = record { accepts = accepts _ (sym c.in_default.is ∙ c.judge.ensures); map_len = (refl, c.if-old-lt-LIST.false) }

pub returns : goal.returns
returns c =
    let s = c.squeeze_by.ensures in
    let whole =
    is_squeezed _ _ _ _ _ c.if-old-lt-LIST.false (accepts _ (sym c.in_default.is ∙ c.judge.ensures)) (s.answers, (s.file_after, s.after)) in
    record { answers = whole.0; file_after = whole.1.0; after = whole.1.1 }
