-- The paper's formulas: binomials, equations (10) to (12) for e, f and g of one rule, (6) and (7) for a clause (paper 004, section 3.1).
-- They are no definition of the counts: proofs/ shows that the expansion's counts are these numbers.
-- Assumes nothing.
use Rattle.std.specs.Prelude.{ℕ, zero, suc, ◌+◌, ◌*◌, ◌-◌, cond, List, [], ◌∷◌, eqb}
use Rattle.plpb.specs.Lists.{sum_by}
use Rattle.plpb.specs.Plan.{Bound, absent, present, Term, Rule, Clause, Plan, Assignment}
use Rattle.plpb.specs.Normal.{literal, literal_true, size, P, N, size_a, size_b}

-- The binomial of n over k, by Pascal's rule.
unfoldable pub binom : ℕ → ℕ → ℕ
binom n zero = 1
binom zero (suc k) = 0
binom (suc n) (suc k) = binom n k + binom n (suc k)

-- m over a bound's size, and none where the bound is absent.
unfoldable pub over : ℕ → Bound ℕ → ℕ
over m absent = 0
over m (present k) = binom m k

-- How a variable stands in a rule, with its weight: case 1, it does not occur; case 2, its literal is true; otherwise, its literal is false.
pub data Standing : Type 0 where
  out : Standing
  on : ℕ → Standing
  off : ℕ → Standing

unfoldable pub standing : Assignment → ℕ → List Term → Standing
standing a x [] = out
standing a x (t ∷ ts) =
    cond (eqb t.variable x) (cond (literal_true a (literal t)) (on (size t)) (off (size t))) (standing a x ts)

-- The weight whose literals a flip makes false, and the weight whose literals it makes true.
unfoldable pub lost : Standing → ℕ
lost out = 0
lost (on w) = w
lost (off w) = 0

unfoldable pub gained : Standing → ℕ
gained out = 0
gained (on w) = 0
gained (off w) = w

-- "e, f and g are the numbers of its parts that a flip spoils, mends, or leaves unsatisfied"
pub record Shares : Type 0 where
  pub e : ℕ
  pub f : ℕ
  pub g : ℕ

-- (10), (11), (12), with N, P and the two sizes A = K − l + 1 and B = u + 1.
unfoldable pub shares : Standing → ℕ → ℕ → Bound ℕ → Bound ℕ → Shares
shares out n p A B = record { e = 0; f = 0; g = over n A + over p B }
shares (on w) n p A B =
    record { e = over (n + w) A - over n A; f = over p B - over (p - w) B; g = over n A + over (p - w) B }
shares (off w) n p A B =
    record { e = over (p + w) B - over p B; f = over n A - over (n - w) A; g = over p B + over (n - w) A }

unfoldable pub shares_of : Assignment → ℕ → Rule → Shares
shares_of a x r = shares (standing a x r.terms) (N a r.terms) (P a r.terms) (size_a r) (size_b r)

-- Π over the rules of a clause.
unfoldable pub product : (Rule → ℕ) → Clause → ℕ
product f [] = 1
product f (r ∷ rs) = f r * product f rs

-- (6): Π(e+g) − Π g. (7): Π(f+g) − Π g.
unfoldable pub clause_break : Assignment → ℕ → Clause → ℕ
clause_break a x c = product (λ r. (shares_of a x r).e + (shares_of a x r).g) c - product (λ r. (shares_of a x r).g) c

unfoldable pub clause_make : Assignment → ℕ → Clause → ℕ
clause_make a x c = product (λ r. (shares_of a x r).f + (shares_of a x r).g) c - product (λ r. (shares_of a x r).g) c

-- "A variable's count is the sum over clauses."
unfoldable pub break_sum : Plan → Assignment → ℕ → ℕ
break_sum p a x = sum_by (clause_break a x) p.clauses

unfoldable pub make_sum : Plan → Assignment → ℕ → ℕ
make_sum p a x = sum_by (clause_make a x) p.clauses
