-- What the code answers to a need for numbers, as the walk's definitions have it.
-- Assumes nothing.
use Rattle.std.specs.Prelude.{ℕ, ◌≡◌, List, ◌++◌, drop, Result, Ok, Err}
use Rattle.plpb.specs.Numbers.{Taken, taken, too_few, start_of}
use Rattle.format.specs.Assignment.{bit_bytes}
use Rattle.numbers.specs.declared.Drawn.{Drawn}
use Rattle.numbers.specs.declared.Short.{Short}

unfoldable pub taken_of : Result (Drawn ℕ) Short → Taken ℕ
taken_of (Ok d) = taken d.value d.used
taken_of (Err e) = too_few e.used

-- What a start answers to the numbers taken for it,
unfoldable pub started_of : Taken (List ℕ) → Result ℕ Short
started_of (taken ws used) = Ok used
started_of (too_few used) = Err (record { used = used })

-- and the bytes that it leaves of those lent as assignment.
unfoldable pub start_bytes : ℕ → Taken (List ℕ) → List ℕ → List ℕ
start_bytes n (taken ws used) bytes = bit_bytes (start_of n ws) ++ drop n bytes
start_bytes n (too_few used) bytes = bytes

pub record Starts (n : ℕ) (need : Taken (List ℕ)) (entry : List ℕ) (answer : Result ℕ Short) (exit : List ℕ) : Type 0 where
  pub answers : answer ≡ started_of need
  pub leaves : exit ≡ start_bytes n need entry
