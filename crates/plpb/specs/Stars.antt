-- The starred examples of document 01, "Examples along the edges": one table, and what each line of it says of the definitions.
-- Assumes nothing.
use Rattle.std.specs.Prelude.{ℕ, ◌≡◌, Bool, false, List, [], ◌∷◌, ◌++◌, map, eqb, ℤ, pos, negsuc, length}
use Rattle.plpb.specs.Lists.{concat, row}
use Rattle.plpb.specs.Plan.{absent, present, Term, Rule, Clause, Plan, Assignment, total, rule_holds}
use Rattle.plpb.specs.Normal.{K, size_a}
use Rattle.plpb.specs.Expansion.{parts, expand_clause, break_count, make_count}
use Rattle.plpb.specs.Search.{lbs_bound}

-- A line of the table.
pub data Star : Type 0 where
  -- A rule with lower bound has this K and this A, and so many clauses in its expansion.
  sizes : Rule → ℕ → ℕ → ℕ → Star
  -- Under an assignment a rule has this sum, and holds or not.
  sum : Rule → Assignment → ℤ → Bool → Star
  -- The expansion of a clause is one empty clause.
  one_empty : Clause → Star
  -- In a plan of this one clause, under an assignment, a variable has this break count; this make count.
  breaks : Clause → Assignment → ℕ → ℕ → Star
  makes : Clause → Assignment → ℕ → ℕ → Star
  -- For l(O) and v, the bound m.
  bound : ℤ → ℤ → ℤ → Star

-- The plan that has one clause, over as many variables as the assignment has.
unfoldable pub only_clause : Clause → Assignment → Plan
only_clause c a = record { variables = length a; objective = []; locks = []; clauses = c ∷ [] }

-- What a line says: each of the real expansion.
abbrev pub Says : Star → Type 0
Says (sizes r k A n) = (K r.terms ≡ k) × (size_a r ≡ present A) × (length (parts r) ≡ n)
Says (sum r a s b) = (total a r.terms ≡ s) × (rule_holds a r ≡ b)
Says (one_empty c) = expand_clause c ≡ [] ∷ []
Says (breaks c a x n) = break_count (only_clause c a) a x ≡ n
Says (makes c a x n) = make_count (only_clause c a) a x ≡ n
Says (bound l v m) = lbs_bound l v ≡ m

-- Every line of a table holds.
abbrev pub Hold : List Star → Type 0
Hold [] = Unit {0}
Hold (s ∷ rest) = Says s × Hold rest

infixl 80 ◌·◌
unfoldable pub ◌·◌ : ℤ → ℕ → Term
w · x = record { variable = x; weight = w }

unfoldable pub at_least_rule : List Term → ℤ → Rule
at_least_rule ts l = record { lower = present l; upper = absent; terms = ts }

unfoldable pub at_most_rule : List Term → ℤ → Rule
at_most_rule ts u = record { lower = absent; upper = present u; terms = ts }

unfoldable pub between_rule : ℤ → List Term → ℤ → Rule
between_rule l ts u = record { lower = present l; upper = present u; terms = ts }

-- 5x1 − 6x2 + 2x3 ≥ 2
unfoldable pub wildcat : Rule
wildcat = at_least_rule (pos 5 · 1 ∷ negsuc 5 · 2 ∷ pos 2 · 3 ∷ []) (pos 2)

-- 1 ≤ x1 + x2 + x3 ≤ 1
unfoldable pub exactly_one : Rule
exactly_one = between_rule (pos 1) (pos 1 · 1 ∷ pos 1 · 2 ∷ pos 1 · 3 ∷ []) (pos 1)

-- (x1 + x2 ≥ 1) or (x1 + x3 ≤ 0)
unfoldable pub either_of : Clause
either_of = at_least_rule (pos 1 · 1 ∷ pos 1 · 2 ∷ []) (pos 1) ∷ at_most_rule (pos 1 · 1 ∷ pos 1 · 3 ∷ []) (pos 0) ∷ []

-- x1 + x2 ≥ 5
unfoldable pub too_much : Clause
too_much = at_least_rule (pos 1 · 1 ∷ pos 1 · 2 ∷ []) (pos 5) ∷ []

-- x1 + 100,000·x2 ≤ 1
unfoldable pub heavy : Clause
heavy = at_most_rule (pos 1 · 1 ∷ pos 100_000 · 2 ∷ []) (pos 1) ∷ []

-- An assignment written as document 01 writes it, 1 for true.
unfoldable pub at : List ℕ → Assignment
at ns = map (λ n. eqb n 1) ns

-- "both counts 0 for each variable"
unfoldable pub both_zero : Clause → Assignment → List Star
both_zero c a = concat (map (λ x. breaks c a x 0 ∷ makes c a x 0 ∷ []) (row 1 (length a)))

unfoldable pub stars : List Star
stars =
    -- "5x1 − 6x2 + 2x3 ≥ 2 from 000: K = 13, A = 6, 1,716 clauses. At 1,1,1 the sum is 1: not met"
    sizes wildcat 13 6 1_716
    ∷ sum wildcat (at (1 ∷ 1 ∷ 1 ∷ [])) (pos 1) false
    -- "There x2 has make 1, break 0; x1 break 461; x3 break 27."
    ∷ makes (wildcat ∷ []) (at (1 ∷ 1 ∷ 1 ∷ [])) 2 1
    ∷ breaks (wildcat ∷ []) (at (1 ∷ 1 ∷ 1 ∷ [])) 2 0
    ∷ breaks (wildcat ∷ []) (at (1 ∷ 1 ∷ 1 ∷ [])) 1 461
    ∷ breaks (wildcat ∷ []) (at (1 ∷ 1 ∷ 1 ∷ [])) 3 27
    -- "1 ≤ x1 + x2 + x3 ≤ 1 at 0,0,0: x1 make 1, break 0. At 1,0,0: x2 break 1, make 0."
    ∷ makes (exactly_one ∷ []) (at (0 ∷ 0 ∷ 0 ∷ [])) 1 1
    ∷ breaks (exactly_one ∷ []) (at (0 ∷ 0 ∷ 0 ∷ [])) 1 0
    ∷ breaks (exactly_one ∷ []) (at (1 ∷ 0 ∷ 0 ∷ [])) 2 1
    ∷ makes (exactly_one ∷ []) (at (1 ∷ 0 ∷ 0 ∷ [])) 2 0
    -- "(x1 + x2 ≥ 1) or (x1 + x3 ≤ 0) at 1,0,1: x1 break 1. At 1,0,0: break 0."
    ∷ breaks either_of (at (1 ∷ 0 ∷ 1 ∷ [])) 1 1
    ∷ breaks either_of (at (1 ∷ 0 ∷ 0 ∷ [])) 1 0
    -- "x1 + x2 ≥ 5: one empty clause; both counts 0 for each variable", whatever the assignment.
    ∷ one_empty too_much
    ∷ (both_zero too_much (at (0 ∷ 0 ∷ []))
    ++ (both_zero too_much (at (0 ∷ 1 ∷ []))
    ++ (both_zero too_much (at (1 ∷ 0 ∷ []))
    ++ (both_zero too_much (at (1 ∷ 1 ∷ []))
    -- "x1 + 100,000·x2 ≤ 1 at 1,1: x1 make 100,000."
    ++ (makes heavy (at (1 ∷ 1 ∷ [])) 1 100_000
    -- "l(O) = −7, v = −2: m = −4. l(O) = −1, v = 0: m = −1."
    ∷ bound (negsuc 6) (negsuc 1) (negsuc 3)
    ∷ bound (negsuc 0) (pos 0) (negsuc 0)
    ∷ [])))))
