-- What a flip spoils, group by group.
-- Assumes nothing.
use Rattle.std.specs.Prelude.{ℕ, ◌≤◌, ◌<◌, ◌≡◌, Option, Some, None}
use Rattle.plpb.specs.Plan.{Clause}
use Rattle.plpb.specs.Count.{capped}
use Rattle.counting.specs.Count.{number}
use Rattle.order.specs.Order.{in_rules, order, cut, first_rule}
use Rattle.effects.specs.declared.run.Run.{Run}
use Rattle.effects.specs.Run.{plan, place, clause}
use Rattle.groups.specs.Run.{end_of_group, Begins}
use Rattle.spoiling.specs.declared.Step.{Step}

-- A group begins at place k, and its places are those of its clause.
pub record Starts (q : Run) (k : ℕ) : Type 0 where
  pub begins : Begins q k
  pub places : cut k (end_of_group q k) (order (plan q)) ≡ in_rules q.x (place q k).clause (first_rule (plan q).clauses (place q k).clause) (clause q k)

-- What the clause of the group at place k counts, and where the group ends.
pub record Stepped (count : Clause → ℕ) (q : Run) (k : ℕ) (r : Step) : Type 0 where
  pub counted : number r.count ≡ capped (count (clause q k))
  pub ends : r.next ≡ end_of_group q k

-- A number that is told where it is no more than a limit.
abbrev pub UpTo : ℕ → ℕ → Option ℕ → Type 0
UpTo limit n (Some r) = (r ≡ n) × (r ≤ limit)
UpTo limit n None = limit < n
