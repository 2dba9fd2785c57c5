-- The full propositional expansion, as lists that could be written out, and the counts over it (document 01, "Rules and clauses" and "Tallies"; paper 004,
-- section 3.1).
-- Assumes nothing.
use Rattle.std.specs.Prelude.{ℕ, zero, suc, Bool, not, List, [], ◌∷◌, ◌++◌, map, length}
use Rattle.plpb.specs.Lists.{◌and◌, any, keep, concat}
use Rattle.plpb.specs.Plan.{Bound, absent, present, Rule, Clause, Plan, Assignment, flip}
use Rattle.plpb.specs.Normal.{Literal, opposite, literal_true, copies, size_a, size_b}

-- A clause of literals, joined by 'or'.
abbrev pub Part : Type 0
Part = List Literal

-- Every choice of k elements of a list, told apart by their places.
unfoldable pub choose : {A : Type 0} → ℕ → List A → List (List A)
choose zero xs = [] ∷ []
choose (suc k) [] = []
choose (suc k) (x ∷ xs) = map (λ c. x ∷ c) (choose k xs) ++ choose (suc k) xs

-- "An absent bound gives none."
unfoldable pub choices : Bound ℕ → List Literal → List Part
choices absent ks = []
choices (present k) ks = choose k ks

-- "Lower bound: one clause of literals for each choice of A = K − l + 1 copies. Upper bound: one clause of negated literals for each
-- choice of B = u + 1 copies." (paper 004, (9) and (8))
unfoldable pub parts : Rule → List Part
parts r = choices (size_a r) (copies r.terms) ++ choices (size_b r) (map opposite (copies r.terms))

-- Each element of the first list joined with each of the second.
unfoldable pub joined : List Part → List Part → List Part
joined ps qs = concat (map (λ p. map (λ q. p ++ q) qs) ps)

-- "The expansion of a clause with several rules takes one part from each rule, in all combinations."
unfoldable pub expand_clause : Clause → List Part
expand_clause [] = [] ∷ []
expand_clause (r ∷ rs) = joined (parts r) (expand_clause rs)

-- The plan's expansion: those of all its clauses, repeated parts and all.
unfoldable pub expansion : Plan → List Part
expansion p = concat (map expand_clause p.clauses)

-- A part is true when one of its literals is: "an empty one is false".
unfoldable pub is_true : Assignment → Part → Bool
is_true a c = any (literal_true a) c

-- "A flip spoils a part or clause of the expansion that is true before it and false after, and mends the reverse"
unfoldable pub spoils : Assignment → ℕ → Part → Bool
spoils a x c = is_true a c and not (is_true (flip a x) c)

unfoldable pub mends : Assignment → ℕ → Part → Bool
mends a x c = not (is_true a c) and is_true (flip a x) c

-- .. or leaves unsatisfied.
unfoldable pub leaves : Assignment → ℕ → Part → Bool
leaves a x c = not (is_true a c) and not (is_true (flip a x) c)

-- The break count and the make count of a variable: how many it spoils and mends.
unfoldable pub break_count : Plan → Assignment → ℕ → ℕ
break_count p a x = length (keep (spoils a x) (expansion p))

unfoldable pub make_count : Plan → Assignment → ℕ → ℕ
make_count p a x = length (keep (mends a x) (expansion p))
