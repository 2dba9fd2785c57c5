-- `races::stakes_in` meets its contract: the stakes are the first numbers of the records.
-- Assumes nothing.
use mathlib.Core.List.{List, []}
use mathlib.Core.Path.{sym, ap, ◌∙◌}
use Prim.Native.Nat.{ℕ}
use lib.ListN.{get_or}
use Rattle.races.specs.Races.{stakes_in}
use Rattle.races.proofs.Turns.{length_numbers, record_at}
use Rattle.races.proofs.stakes_in.Goals as goal

pub returns : goal.returns
returns c =
    c.stakes_by.ensures (stakes_in c.args.races.now) (length_numbers _ ∙ sym c.as_chunks.ensures.front_len)
    (λ i s p. p ∙ ap (λ (rs : List (List ℕ)). get_or (get_or rs i []) 0 0) c.as_chunks.ensures.front ∙ record_at _ i)
