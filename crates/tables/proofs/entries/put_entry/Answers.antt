-- `tables::entries::put_entry` meets its contract: each turn writes the next word behind those before it.
-- Assumes nothing.
use Prim.Native.Nat.{ℕ}
use native.Mathlib.Omega.{arith}
use mathlib.Core.Path.{ap, ◌∙◌}
use mathlib.Core.List.{[], ◌∷◌}
use lib.ListN.{get_or}
use Rattle.words.specs.Writes.{put_words}
use Rattle.tables.proofs.Entered.{entry_start, entry_more}
use Rattle.tables.proofs.entries.put_entry.Goals as goal

pub loop-i-init : goal.loop-i-init
loop-i-init c = entry_start c.args.entry.now _

pub loop-i-preserved : goal.loop-i-preserved
loop-i-preserved c =
    entry_more _ _ _ c.loop-i-test.true c.loop-i.invariant
    (c.write_word.ensures ∙ ap (λ (k : ℕ). put_words k (get_or c.args.entry.now c.loop-i.i 0 ∷ []) c.loop-i.out) (omega (arith, c.loop-i-test.true)))
