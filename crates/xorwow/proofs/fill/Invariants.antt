-- `fill` meets its contract. The loop's invariant: the numbers up to i are written, and the state is the one after them.
-- Assumes nothing.
use Rattle.std.proofs.Common.{◌≡◌}
use Rattle.words.specs.Words.{word_bytes}
use Rattle.words.specs.Writes.{front}
use Rattle.xorwow.specs.Xorwow.{stream, after}
use Rattle.xorwow.proofs.fill.Given as goal

abbrev pub invariant-loop-i : goal.invariant-loop-i
invariant-loop-i l = (l.at ≡ after l.i l.initial.at) × (l.numbers ≡ front (word_bytes (stream l.i l.initial.at)) l.initial.numbers)
