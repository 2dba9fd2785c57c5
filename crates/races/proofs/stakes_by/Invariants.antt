-- `races::stakes_by` meets its contract. The invariant: up to this place stand the stakes, whatever numbers the calls give.
-- Assumes nothing.
use Prim.Native.Nat.{ℕ}
use mathlib.Core.List.{List}
use mathlib.Core.Path.{◌≡◌}
use lib.ListN.{length, get_or, replicate}
use Rattle.division.proofs.Stepwise.{mixed}
use Rattle.races.proofs.Turns.{eight}
use Rattle.races.proofs.stakes_by.Given as goal

abbrev pub invariant-loop-i : goal.invariant-loop-i
invariant-loop-i g l =
    (ss : List ℕ) → length ss ≡ l.count → ((i s : ℕ) → goal.F-post g l.stake i s → s ≡ get_or ss i 0)
    → l.x-items ≡ mixed (eight ss) (replicate 8 0) l.i
