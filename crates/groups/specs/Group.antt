-- What a group says of its plan.
-- Assumes nothing.
use Rattle.std.specs.Prelude.{[], get_or}
use Rattle.plpb.specs.Plan.{Plan, Clause, Assignment}
use Rattle.plpb.specs.Plan.{Rule}
use Rattle.std.specs.Prelude.{List}
use Rattle.order.specs.Blocks.{rules_along}
use Rattle.effects.specs.Run as run
use Rattle.groups.specs.declared.group.Group.{Group}

-- The plan, the assignment and the group's clause.
abbrev pub plan : Group → Plan
plan g = run.plan g.run.now

abbrev pub bits : Group → Assignment
bits g = run.bits g.run.now

abbrev pub clause : Group → Clause
clause g = get_or (plan g).clauses g.clause []

-- The rules at the places of the group.
abbrev pub rules : Group → List Rule
rules g = rules_along (plan g) g.first g.end
