-- `tables::entries::put_term` meets its contract.
-- Assumes nothing.
use mathlib.Core.Path.{ap, ◌∙◌}
use mathlib.Core.List.{List}
use Prim.Native.Nat.{ℕ}
use Rattle.words.specs.Words.{word_bytes}
use Rattle.words.specs.Writes.{front}
use Rattle.words.proofs.Writes.{first_words}
use Rattle.tables.proofs.Entered.{term_words}
use Rattle.tables.proofs.entries.put_term.Goals as goal

pub returns : goal.returns
returns c =
    c.write_two.ensures
    ∙ first_words _ _
    ∙ ap (λ (ws : List ℕ). front (word_bytes ws) c.args.out.now)
    (term_words _ _ c.read_u16.ensures c.read_u32.ensures c.read_u32.type_inv)
