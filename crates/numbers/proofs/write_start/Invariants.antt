-- `numbers::write_start` meets its contract. The invariant: the first i bytes are the start's, the rest as they were.
-- Assumes nothing.
use Prim.Native.Nat.{ℕ}
use mathlib.Core.List.{List, ◌++◌}
use mathlib.Core.Path.{◌≡◌}
use lib.ListN.{length, take, drop}
use Rattle.plpb.specs.Numbers.{start_words, start_of}
use Rattle.format.specs.Assignment.{bit_bytes}
use Rattle.numbers.specs.Numbers.{numbers_of}
use Rattle.numbers.proofs.write_start.Given as goal

abbrev pub bytes : List ℕ → ℕ → ℕ → List ℕ
bytes numbers used n = bit_bytes (start_of n (take (start_words n) (drop used (numbers_of numbers))))

abbrev pub invariant-loop-i : goal.invariant-loop-i
invariant-loop-i l = l.assignment ≡ take l.i (bytes l.numbers l.used (length l.fn.assignment)) ++ drop l.i l.fn.assignment
