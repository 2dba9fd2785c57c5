-- What the answer of the code says: a refusal's number and offset, and what a reading comes to.
-- Assumes nothing.
use Rattle.std.specs.Prelude.{ℕ, Result, Ok, Err}
use Rattle.format.specs.File.{Reading, refused, accepted}
use Rattle.verdict.specs.declared.Refusal.{Refusal}

-- Nothing against a file, or a refusal.
abbrev pub Answer : Type 0
Answer = Result (Unit {0}) Refusal

abbrev pub Accepted : Answer
Accepted = Ok tt

abbrev pub Refused : ℕ → ℕ → Answer
Refused number offset = Err (record { number = number; offset = offset })

-- "A refusal carries its number": 0 stands for none.
unfoldable pub refusal_of : Answer → ℕ
refusal_of (Ok u) = 0
refusal_of (Err refusal) = refusal.number

-- ".. the number and the offset of the field's first byte", 0 where nothing is refused.
unfoldable pub offset_of : Answer → ℕ
offset_of (Ok u) = 0
offset_of (Err refusal) = refusal.offset

-- What a reading comes to.
unfoldable pub outcome : {A : Type 0} → Reading A → Answer
outcome (refused number offset) = Refused number offset
outcome (accepted a) = Accepted
