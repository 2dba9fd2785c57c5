-- `judge::judge` meets its contract. The invariant: reading from the present state with the fields left comes to what reading the whole
-- file does.
-- Assumes nothing.
use Prim.Native.Nat.{◌-◌}
use lib.ListN.{length}
use mathlib.Core.Path.{◌≡◌}
use Rattle.format.specs.File.{read_from, read}
use Rattle.verdict.specs.Answers.{outcome}
use Rattle.faults.specs.Faults.{state_of}
use Rattle.judge.proofs.judge.Given as goal

abbrev pub invariant-loop-field : goal.invariant-loop-field
invariant-loop-field l = outcome (read_from l.file (length l.file - l._field) (state_of l.st)) ≡ outcome (read l.file)
