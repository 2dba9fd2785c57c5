-- The tags of the plan file's fields, as docs/FORMAT.md has them.
-- Assumes nothing.
use Rattle.std.specs.Prelude.{ℕ, ◌≡◌, Option, None, Some}
use Rattle.format.specs.declared.Tag.{Tag}
use Rattle.format.specs.declared.Tag.TheVariants.{Variables, Objective, Clause, Rule, End, Locks}

abbrev pub tag_number : Tag → ℕ
tag_number Variables = 1
tag_number Objective = 2
tag_number Clause = 3
tag_number Rule = 4
tag_number End = 5
tag_number Locks = 6

-- A byte is a tag, or no tag has its number.
abbrev pub Tagged : ℕ → Option Tag → Type 0
Tagged byte None = (tag : Tag) → tag_number tag ≡ byte → ⊥
Tagged byte (Some tag) = tag_number tag ≡ byte
