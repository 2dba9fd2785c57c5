-- A variable's run clause by clause: the places of one clause stand together.
-- Assumes nothing.
use Rattle.std.specs.Prelude.{ℕ, suc, ◌-◌, ◌≤◌, ◌<◌, ◌≡◌, cond, List, [], ◌∷◌, map, eqb, length, get_or}
use Rattle.plpb.specs.Plan.{Rule, Plan}
use Rattle.order.specs.Order.{Place, order, run_end, cut, rule_at}
use Rattle.order.specs.Grouped.{naming}

-- The rules at the places of the order from k on, below j.
unfoldable pub rules_along : Plan → ℕ → ℕ → List Rule
rules_along p k j = map (λ q. rule_at p q.rule) (cut k j (order p))

-- How many places at the front are of clause c.
unfoldable pub same_clause : ℕ → List Place → ℕ
same_clause c [] = 0
same_clause c (q ∷ qs) = cond (eqb q.clause c) (suc (same_clause c qs)) 0

-- The places of the order from k on, below j, are those where clause c names x: all of them, and one at least.
pub record Group (p : Plan) (x c k j : ℕ) : Type 0 where
  pub clause_there : c < length p.clauses
  pub first : run_end p (x - 1) ≤ k
  pub some : k < j
  pub last : j ≤ run_end p x
  pub rules : rules_along p k j ≡ naming x (get_or p.clauses c [])
