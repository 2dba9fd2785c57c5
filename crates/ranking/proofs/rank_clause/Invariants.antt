-- `rank_clause` meets its contract: what is ranked are the variables of the list from a place on, which goes down to the first.
-- Assumes nothing.
use Prim.Native.Nat.{ℕ, ◌+◌, ◌-◌, ◌≤◌}
use mathlib.Core.List.{List}
use lib.ListN.{length, drop}
use Rattle.columns.specs.Layout.{list_at}
use Rattle.columns.specs.Columns.{terms_ahead}
use Rattle.effects.specs.declared.footing.Footing.{Footing}
use Rattle.effects.specs.Footing.{plan_on}
use Rattle.picks.specs.Picks.{of_clause}
use Rattle.picks.specs.Choice.{plan, bits, variables}
use Rattle.stamps.specs.Stamps.{stamp_in}
use Rattle.ranking.specs.Ranking.{Ranks}
use Rattle.ranking.proofs.rank_clause.Given as goal

-- Where the list of a clause begins, and its variables from a place on.
abbrev pub list_start : Footing → ℕ → ℕ
list_start q c = list_at (terms_ahead (plan_on q) c)

abbrev pub from : Footing → ℕ → ℕ → List ℕ
from q c i = drop (i - list_start q c) (of_clause q c)

abbrev pub invariant-loop-i : goal.invariant-loop-i
invariant-loop-i l =
    (list_start l.choice.footing l.choice.clause ≤ l.i) × (l.i ≤ list_start l.choice.footing l.choice.clause + length (variables l.choice))
    × Ranks (plan l.choice) (bits l.choice) (stamp_in l.marks) (from l.choice.footing l.choice.clause l.i) l.top
