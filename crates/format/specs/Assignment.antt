-- Assignments in bytes: one byte for each variable, 1 for true and 0 for false.
-- Assumes nothing.
use Rattle.std.specs.Prelude.{ℕ, Bool, cond, List, ◌++◌, map, leb, eqb, take, drop}
use Rattle.plpb.specs.Lists.{all}
use Rattle.plpb.specs.Plan.{Assignment}

-- "assignment 512 bytes"
abbrev pub assignment_size : ℕ
assignment_size = 512

-- The bits that bytes stand for, 1 for true.
unfoldable pub bits_in : List ℕ → Assignment
bits_in bytes = map (λ b. eqb b 1) bytes

-- Those of the first n bytes of what is lent as assignment.
unfoldable pub bits_of : ℕ → List ℕ → Assignment
bits_of n bytes = bits_in (take n bytes)

-- The bytes of an assignment, 1 for true and 0 for false.
unfoldable pub bit_bytes : Assignment → List ℕ
bit_bytes a = map (λ b. cond b 1 0) a

-- "24: one of the first n assignment bytes is not 0 or 1."
unfoldable pub are_bits : ℕ → List ℕ → Bool
are_bits n bytes = all (λ b. leb b 1) (take n bytes)

-- Some bits in the first n bytes of what is lent as assignment. Every other byte is as it was.
abbrev pub with_bits : ℕ → Assignment → List ℕ → List ℕ
with_bits n b bytes = bit_bytes b ++ drop n bytes
