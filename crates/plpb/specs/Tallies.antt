-- The tallies of an assignment, worked out from plan and assignment alone (document 01, "Tallies": "A fresh count works the tallies out
-- from plan and assignment alone.").
-- Assumes nothing.
use Rattle.std.specs.Prelude.{ℕ, Bool, not, List, map}
use Rattle.plpb.specs.Lists.{count, concat}
use Rattle.plpb.specs.Plan.{Rule, Clause, Plan, Assignment, rule_holds, clause_holds, named_in}
use Rattle.plpb.specs.Normal.{P}

-- "Per rule P; per clause how many of its rules hold; and how many clauses hold no rule."
pub record Tallies : Type 0 where
  pub true_weights : List ℕ
  pub rules_holding : List ℕ
  pub clauses_unsatisfied : ℕ

-- The rules of a plan, in the order of its clauses.
unfoldable pub rules_of : Plan → List Rule
rules_of p = concat p.clauses

-- "the number of rules naming the variable" (T-05)
unfoldable pub rules_named : Plan → ℕ → ℕ
rules_named p x = count (λ r. named_in x r.terms) (rules_of p)

unfoldable pub unsatisfied : Assignment → Clause → Bool
unsatisfied a c = not (clause_holds a c)

unfoldable pub fresh_count : Plan → Assignment → Tallies
fresh_count p a = record {
  true_weights = map (λ r. P a r.terms) (rules_of p);
  rules_holding = map (count (rule_holds a)) p.clauses;
  clauses_unsatisfied = count (unsatisfied a) p.clauses;
}
