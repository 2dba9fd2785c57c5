-- The normal form of a rule: literals with positive weights and raised bounds (document 01, "Rules and clauses"; paper 004, (13) and (14)).
-- Assumes nothing.
use Rattle.std.specs.Prelude.{ℕ, ◌+◌, ◌-◌, Bool, true, false, not, cond, List, [], ◌∷◌, ◌++◌, ltb, ℤ, pos, negsuc, nat_abs, ◌+ℤ◌, ◌-ℤ◌, replicate}
use Rattle.plpb.specs.Lists.{sum_by}
use Rattle.plpb.specs.Plan.{Bound, absent, present, map_bound, Term, Rule, Assignment, value}

-- A variable or its negation.
pub record Literal : Type 0 where
  pub variable : ℕ
  pub negated : Bool

unfoldable pub opposite : Literal → Literal
opposite k = record { variable = k.variable; negated = not k.negated }

unfoldable pub literal_true : Assignment → Literal → Bool
literal_true a k = cond k.negated (not (value a k.variable)) (value a k.variable)

unfoldable pub is_negative : ℤ → Bool
is_negative (pos n) = false
is_negative (negsuc n) = true

-- "A negative weight −w on a variable is read as weight w on its negated literal"
unfoldable pub literal : Term → Literal
literal t = record { variable = t.variable; negated = is_negative t.weight }

-- .. of which the weight is positive: the size of the signed one.
unfoldable pub size : Term → ℕ
size t = nat_abs t.weight

-- ".. and both bounds rise by w": what all negative weights together raise them by.
unfoldable pub rise : List Term → ℕ
rise ts = sum_by (λ t. cond (is_negative t.weight) (size t) 0) ts

-- "K is their sum, P the sum over true literals, N = K − P."
unfoldable pub K : List Term → ℕ
K ts = sum_by size ts

unfoldable pub P : Assignment → List Term → ℕ
P a ts = sum_by (λ t. cond (literal_true a (literal t)) (size t) 0) ts

unfoldable pub N : Assignment → List Term → ℕ
N a ts = K ts - P a ts

-- "A or B below 0 is raised to 0"
unfoldable pub raised : ℤ → ℕ
raised (pos n) = n
raised (negsuc n) = 0

-- "A = K − l + 1" with the raised l, "B = u + 1" with the raised u. "An absent bound gives none": it is not raised either.
unfoldable pub size_a : Rule → Bound ℕ
size_a r = map_bound (λ l. raised (pos (K r.terms) -ℤ (l +ℤ pos (rise r.terms)) +ℤ pos 1)) r.lower

unfoldable pub size_b : Rule → Bound ℕ
size_b r = map_bound (λ u. raised (u +ℤ pos (rise r.terms) +ℤ pos 1)) r.upper

-- n is below a size; an absent bound has no size to reach.
unfoldable pub below_size : ℕ → Bound ℕ → Bool
below_size n absent = true
below_size n (present k) = ltb n k

-- "each literal of weight w stands for w copies"
unfoldable pub copies : List Term → List Literal
copies [] = []
copies (t ∷ ts) = replicate (size t) (literal t) ++ copies ts
