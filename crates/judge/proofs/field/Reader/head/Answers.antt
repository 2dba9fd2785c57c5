-- `judge::field::head` meets its contract: at each return the tests that led there say which case of the definition holds.
-- Assumes nothing.
use native.Mathlib.Omega.{arith}
use Prim.Native.Nat.{ℕ, ◌+◌}
use mathlib.Core.Path.{refl, ap, ◌∙◌}
use Rattle.format.specs.File.{length_at}
use Rattle.bodies.proofs.Tags.{tag_byte}
use Rattle.judge.proofs.Judged.{told_tag, told_length, no_tag, short_head, wrong_tag, wrong_length, short_body, whole_head}
use Rattle.judge.proofs.field.Reader.head.Goals as goal

pub returns-then-left-lt3-clause-fault : goal.returns-then-left-lt3-clause-fault
returns-then-left-lt3-clause-fault c = short_head _ _ _ (omega arith)

pub returns-in_default-clause-fault : goal.returns-in_default-clause-fault
returns-in_default-clause-fault c = wrong_tag _ _ _ (omega arith) (no_tag _ _ _ c.in_default.ensures)

pub returns-then-not-may_stand-clause-fault : goal.returns-then-not-may_stand-clause-fault
returns-then-not-may_stand-clause-fault c =
    wrong_tag _ _ _ (omega arith) (told_tag _ _ _ _ _ c.in-Some.ensures c.may_stand.ensures ∙ c.if-not-may_stand.true)

pub returns-then-not-length_lawful-clause-fault : goal.returns-then-not-length_lawful-clause-fault
returns-then-not-length_lawful-clause-fault c =
    wrong_length _ _ _ (omega arith) (told_tag _ _ _ _ _ c.in-Some.ensures c.may_stand.ensures ∙ c.if-not-may_stand.false)
    (told_length _ _ _ _ _ c.in-Some.ensures c.length_lawful.ensures c.read_size-size.ensures ∙ c.if-not-length_lawful.true)

pub returns-then-left-size-clause-fault : goal.returns-then-left-size-clause-fault
unfolding length_at
returns-then-left-size-clause-fault c =
    short_body _ _ _ (omega arith) (told_tag _ _ _ _ _ c.in-Some.ensures c.may_stand.ensures ∙ c.if-not-may_stand.false)
    (told_length _ _ _ _ _ c.in-Some.ensures c.length_lawful.ensures c.read_size-size.ensures ∙ c.if-not-length_lawful.false) (omega arith)

pub returns-clause-fault : goal.returns-clause-fault
unfolding length_at
returns-clause-fault c =
    whole_head _ _ _ (omega arith) (told_tag _ _ _ _ _ c.in-Some.ensures c.may_stand.ensures ∙ c.if-not-may_stand.false)
    (told_length _ _ _ _ _ c.in-Some.ensures c.length_lawful.ensures c.read_size-size.ensures ∙ c.if-not-length_lawful.false) (omega arith)

pub returns-clause-taken : goal.returns-clause-taken
unfolding length_at
returns-clause-taken c = record { tag = c.in-Some.ensures ∙ tag_byte _ _; body = refl; next = ap (λ (n : ℕ). c.args.self.st.at + 3 + n) c.read_size-size.ensures }
