-- One field judged and read on from: the state and the answers of the code beside the definitions of the plan file.
-- Assumes nothing.
use Rattle.std.specs.Prelude.{ℕ, suc, ◌+◌, ◌≡◌, not, cond, List, ltb, length, Option, None, Some, Result, Ok, Err}
use Rattle.format.specs.File as File
use Rattle.format.specs.Tags.{tag_number}
use Rattle.format.specs.File.{may_stand, tag_at, length_at, length_lawful, refuse, read_from}
use Rattle.faults.specs.declared.State.{State}
use Rattle.judge.specs.declared.field.Taken.{Taken as TakenT}
use Rattle.verdict.specs.declared.Refusal.{Refusal}
use Rattle.verdict.specs.Answers.{Answer, Accepted, Refused, outcome}
use Rattle.faults.specs.Faults.{state_of}

-- "In a field: 1 for the head, 2, 3, 1 for the body, .."
unfoldable pub head_fault : List ℕ → ℕ → File.Stage → ℕ
head_fault s at stage =
    refuse (ltb (length s) (at + 3)) 1
    (refuse (not (may_stand stage (tag_at s at))) 2
    (refuse (not (length_lawful (tag_at s at) (length_at s at))) 3
    (refuse (ltb (length s) (at + 3 + length_at s at)) 1 0)))

-- "A field is taken apart into tag, body and next place, or reading stops with its refusal."
pub record TakenAt (s : List ℕ) (at : ℕ) (field : TakenT) : Type 0 where
  pub tag : tag_number field.tag ≡ tag_at s at
  pub body : field.body ≡ at + 3
  pub next : field.next ≡ at + 3 + length_at s at

-- What reading comes to behind the end field.
unfoldable pub ending : List ℕ → ℕ → Answer
ending s behind = cond (ltb behind (length s)) (Refused 7 behind) Accepted

-- A step comes to what reading from its state comes to, however many fields may still be read.
unfoldable pub Steps : List ℕ → State → Result (Option State) Refusal → Type 0
Steps s st (Ok (Some on)) = (left : ℕ) → outcome (read_from s (suc left) (state_of st)) ≡ outcome (read_from s left (state_of on))
Steps s st (Ok None) = (left : ℕ) → outcome (read_from s (suc left) (state_of st)) ≡ Accepted
Steps s st (Err refusal) = (left : ℕ) → outcome (read_from s (suc left) (state_of st)) ≡ Err refusal
