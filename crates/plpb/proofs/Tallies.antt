-- What the tallies of a fresh count tell: the clauses that hold no rule, and whether the plan is satisfied.
-- Assumes nothing.
use mathlib.Core.Path.{◌≡◌}
use lib.Dec.{eqb}
use Rattle.plpb.specs.Lists.{count}
use Rattle.plpb.specs.Plan.{Clause, Plan, Assignment, rule_holds, clause_holds, satisfies}
use Rattle.plpb.specs.Tallies.{unsatisfied, fresh_count}
use Rattle.plpb.proofs.Lists.{none_by_count, all_by_count}

pub unsatisfied_count : (a : Assignment) (c : Clause) → unsatisfied a c ≡ eqb (count (rule_holds a) c) 0
unfolding unsatisfied clause_holds
unsatisfied_count a c = none_by_count (rule_holds a) c

-- "if no clause is unsatisfied, return"
pub look_by_count : (p : Plan) (a : Assignment) → satisfies a p ≡ eqb (fresh_count p a).clauses_unsatisfied 0
unfolding satisfies fresh_count unsatisfied
look_by_count p a = all_by_count (clause_holds a) p.clauses
