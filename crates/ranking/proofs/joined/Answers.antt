-- `joined` meets its contract: the new one stands alone, first, second or behind both, as the definition places it.
-- Assumes nothing.
use mathlib.Core.Path.{refl, sym}
use Rattle.ranking.proofs.Ranking.{put_alone, put_first, put_behind, put_last, put_second, ranks_more}
use Rattle.ranking.proofs.joined.Goals as goal

pub returns-in_default : goal.returns-in_default
returns-in_default c = λ p a last x xs r h.
    ranks_more h r (c.max-latest.ensures) (put_alone h _ _ _ r.tops c.in_default.is) refl

pub returns-then-not-comes_before : goal.returns-then-not-comes_before
returns-then-not-comes_before c = λ p a last x xs r h.
    ranks_more h r (c.max-latest.ensures) (put_first h _ _ c.in-Some.is _ r.tops (sym (c.if-not-comes_before.ensures))) refl

pub returns-in-Some-second : goal.returns-in-Some-second
returns-in-Some-second c = λ p a last x xs r h.
    ranks_more h r (c.max-latest.ensures)
    (put_last h _ _ c.in-Some.is (sym (c.if-not-comes_before.ensures)) c.in-Some-second.is _ r.tops (sym (c.if-comes_before.ensures))) refl

pub returns-in_default-second : goal.returns-in_default-second
returns-in_default-second c = λ p a last x xs r h.
    ranks_more h r (c.max-latest.ensures)
    (put_second h _ _ c.in-Some.is (sym (c.if-not-comes_before.ensures)) c.in-Some-second.is _ r.tops (sym (c.if-comes_before.ensures))) refl

pub returns-in_default-second-2 : goal.returns-in_default-second-2
returns-in_default-second-2 c = λ p a last x xs r h.
    ranks_more h r (c.max-latest.ensures)
    (put_behind h _ _ c.in-Some.is (sym (c.if-not-comes_before.ensures)) _ r.tops c.in_default-second.is) refl
