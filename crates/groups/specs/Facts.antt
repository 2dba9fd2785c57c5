-- That some places are a group is a fact: it has one proof at most.
-- Assumes nothing.
use Rattle.std.specs.Prelude.{ℕ, ◌≡◌, List, ℤ}
use mathlib.Core.Path.{refl}
use Rattle.std.proofs.Props.{props}
use Rattle.std.specs.Prelude.{Option, None, Some}
use Rattle.std.specs.Coded.{Coded, coded_ℕ, coded_ℤ, coded_list, coded×, coded_option, code_by, Coded-set}
use Rattle.plpb.specs.Plan.{Bound, absent, present, Term, Rule, Plan}
use Rattle.order.specs.Blocks.{rules_along, Group}

-- Rules are told apart by a code: two are the same in one way at most.
option_of : Bound ℤ → Option ℤ
option_of absent = None
option_of (present u) = Some u

bound_of : Option ℤ → Bound ℤ
bound_of None = absent
bound_of (Some u) = present u

bound_back : (b : Bound ℤ) → bound_of (option_of b) ≡ b
unfolding bound_of option_of
bound_back absent = refl
bound_back (present u) = refl

coded_bound : Coded (Bound ℤ)
coded_bound = code_by (Option ℤ) (coded_option coded_ℤ) option_of bound_of bound_back

coded_term : Coded Term
coded_term = code_by (ℕ × ℤ) (coded× coded_ℕ coded_ℤ) (λ t. (t.variable, t.weight)) (λ c. record { variable = c.0; weight = c.1 }) (λ t. refl)

coded_rule : Coded Rule
coded_rule =
    code_by (Bound ℤ × (Bound ℤ × List Term)) (coded× coded_bound (coded× coded_bound (coded_list coded_term))) (λ q. (q.lower, (q.upper, q.terms)))
    (λ c. record { lower = c.0; upper = c.1.0; terms = c.1.1 }) (λ q. refl)

rules_prop : (p : Plan) (x c k j : ℕ) (us : List Rule) → IsProp (rules_along p k j ≡ us)
rules_prop p x c k j us = Coded-set (coded_list coded_rule) _ _

pub group_prop : {p : Plan} {x c k j : ℕ} → IsProp (Group p x c k j)
group_prop {p} {x} {c} {k} {j} = hlevel (props, rules_prop)
