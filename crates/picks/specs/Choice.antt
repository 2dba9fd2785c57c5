-- What a clause to choose of says of its plan.
-- Assumes nothing.
use Rattle.std.specs.Prelude.{ℕ, List}
use Rattle.plpb.specs.Plan.{Plan, Assignment}
use Rattle.columns.specs.Columns.{Weighed, Hinted, Listed}
use Rattle.effects.specs.Footing.{plan_on, bits_on}
use Rattle.picks.specs.Picks.{of_clause}
use Rattle.picks.specs.declared.choice.Choice.{Choice}

-- The plan and the assignment.
abbrev pub plan : Choice → Plan
plan q = plan_on q.footing

abbrev pub bits : Choice → Assignment
bits q = bits_on q.footing

-- The variables of the clause that may be chosen.
abbrev pub variables : Choice → List ℕ
variables q = of_clause q.footing q.clause

-- What ranking them needs of the marks, where no hint is asked.
pub record Rankable (q : Choice) (marks : List ℕ) : Type 0 where
  pub weighed : Weighed (plan_on q.footing) marks
  pub listed : Listed (plan_on q.footing) marks

-- What picking among them needs of the marks.
pub record Marked (q : Choice) (marks : List ℕ) : Type 0 where
  pub weighed : Weighed (plan_on q.footing) marks
  pub hinted : Hinted (plan_on q.footing) marks
  pub listed : Listed (plan_on q.footing) marks
