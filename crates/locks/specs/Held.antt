-- What an assignment's bytes become under the tables' section of locks.
-- Assumes nothing.
use Rattle.std.specs.Prelude.{ℕ, ◌+◌, cond, List, ◌++◌, map, eqb, get_or, drop}
use Rattle.plpb.specs.Lists.{row}
use Rattle.words.specs.Words.{word_at}
use Rattle.format.specs.Layout.{locks_at}

-- A byte under the word of its variable's lock: 0 for free, 1 for locked at 0, 2 for locked at 1.
unfoldable pub held_by : ℕ → ℕ → ℕ
held_by lock byte = cond (eqb lock 0) byte (cond (eqb lock 1) 0 1)

-- The first n bytes of an assignment, that of variable i + 1 at place i.
unfoldable pub held_first : List ℕ → ℕ → List ℕ → List ℕ
held_first tables n bytes = map (λ i. held_by (word_at tables (locks_at + i)) (get_or bytes i 0)) (row 0 n)

-- .. and the others as they were.
unfoldable pub held_bytes : List ℕ → ℕ → List ℕ → List ℕ
held_bytes tables n bytes = held_first tables n bytes ++ drop n bytes
