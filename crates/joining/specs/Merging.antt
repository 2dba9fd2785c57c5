-- The rules of a clause gone through beside the places of its group.
-- Assumes nothing.
use Rattle.std.specs.Prelude.{ℕ, suc, ◌-◌, ◌≤◌, ◌<◌, ◌≡◌, [], length, get_or, drop}
use Rattle.plpb.specs.Plan.{Plan}
use Rattle.order.specs.Order.{in_rules, order, cut, first_rule}
use Rattle.groups.specs.declared.group.Group.{Group}
use Rattle.groups.specs.Group.{plan, clause}

-- The places from i on, below j, are those where the rules of clause c from rule r on name x.
pub record Ahead (p : Plan) (x c r i j : ℕ) : Type 0 where
  pub there : c < length p.clauses
  pub first : first_rule p.clauses c ≤ r
  pub low : i ≤ j
  pub places : cut i j (order p) ≡ in_rules x c r (drop (r - first_rule p.clauses c) (get_or p.clauses c []))

-- .. and rule r is one of the clause's, of which this is the group.
pub record Merging (g : Group) (r i : ℕ) : Type 0 where
  pub low : g.first ≤ i
  pub ahead : Ahead (plan g) g.run.now.x g.clause r i g.end
  pub last : r < first_rule (plan g).clauses (suc g.clause)

-- The places of the group are those of its clause, rule by rule.
pub record Placed (g : Group) : Type 0 where
  pub places : cut g.first g.end (order (plan g)) ≡ in_rules g.run.now.x g.clause (first_rule (plan g).clauses g.clause) (clause g)
