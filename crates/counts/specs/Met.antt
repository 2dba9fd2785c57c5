-- Which clauses of a run are met.
-- Assumes nothing.
use Rattle.std.specs.Prelude.{ℕ, ◌≤◌, ◌<◌, ◌≡◌}
use Rattle.plpb.specs.Lists.{count}
use Rattle.plpb.specs.Plan.{rule_holds}
use Rattle.effects.specs.declared.run.Run.{Run}
use Rattle.effects.specs.Run.{bits, clause}

-- How many rules hold of the clause of place k.
abbrev pub held : Run → ℕ → ℕ
held q k = count (rule_holds (bits q)) (clause q k)

-- Place j is the first from k on of a clause that is not met, or the end of the run.
pub record PastMet (q : Run) (k j : ℕ) : Type 0 where
  pub low : k ≤ j
  pub high : j ≤ q.end
  pub passed : (i : ℕ) → k ≤ i → i < j → 0 < held q i
  pub stops : j < q.end → held q j ≡ 0
