-- What the walk stands on says of its plan.
-- Assumes nothing.
use Rattle.std.specs.Prelude.{ℕ, List, ◌≤◌}
use Rattle.plpb.specs.Plan.{Plan, Assignment}
use Rattle.format.specs.Tables.{plan_of_tables}
use Rattle.columns.specs.Columns.{Weighed, Hinted}
use Rattle.effects.specs.Kept.{lent_bits}
use Rattle.effects.specs.declared.footing.Footing.{Footing}

-- The plan and the assignment.
abbrev pub plan_on : Footing → Plan
plan_on q = plan_of_tables q.tables.now q.terms.now

abbrev pub bits_on : Footing → Assignment
bits_on q = lent_bits q.tables.now q.terms.now q.assignment.now

-- The marks have the weights of the plan, and x is a variable of it: its run can be gone through.
pub record HasPlaces (q : Footing) (marks : List ℕ) (x : ℕ) : Type 0 where
  pub weighed : Weighed (plan_on q) marks
  pub low : 1 ≤ x
  pub high : x ≤ (plan_on q).variables

-- The marks have the weights and hints of the plan, and x is a variable of it: its run can be gone through, and its hint asked.
pub record HasRun (q : Footing) (marks : List ℕ) (x : ℕ) : Type 0 where
  pub weighed : Weighed (plan_on q) marks
  pub hinted : Hinted (plan_on q) marks
  pub low : 1 ≤ x
  pub high : x ≤ (plan_on q).variables
