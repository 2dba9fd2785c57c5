-- `tables::entries::put_entry` meets its contract. The invariant: the words before word i stand at the front.
-- Assumes nothing.
use mathlib.Core.Path.{◌≡◌}
use lib.ListN.{take}
use Rattle.words.specs.Words.{word_bytes}
use Rattle.words.specs.Writes.{front}
use Rattle.tables.proofs.entries.put_entry.Given as goal

abbrev pub invariant-loop-i : goal.invariant-loop-i
invariant-loop-i l = l.out ≡ front (word_bytes (take l.i l.entry)) l.initial.out
