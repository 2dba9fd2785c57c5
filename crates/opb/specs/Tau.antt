-- The text that a plan is written as: "the writer uses the mapping τ of source document 004, section 4: new variables after n for each rule of a clause
-- with several rules, single-rule clauses written straight, `<=` by changed signs, zero coefficients left out" (document 02, T-02).
-- Assumes nothing.
use Rattle.std.specs.Prelude.{ℕ, ◌+◌, ◌*◌, Bool, true, false, cond, List, [], ◌∷◌, ◌++◌, map, ltb, eqb, ℤ, pos, negsuc, nat_abs, neg_ℤ, ◌+ℤ◌, ◌-ℤ◌, length}
use Rattle.plpb.specs.Lists.{keep, concat, sum_by}
use Rattle.plpb.specs.Plan.{Bound, absent, present, Term, Rule, Clause, Lock, Plan, Assignment, total, at_least, at_most, rule_holds, least_total, greatest_total}
use Rattle.opb.specs.Opb.{Line, Text}

abbrev pub weighted : ℤ → ℕ → Term
weighted w x = record { variable = x; weight = w }

-- ---- lines

-- "zero coefficients left out"
unfoldable pub has_weight : Term → Bool
has_weight t = ltb 0 (nat_abs t.weight)

-- b[ts] of the paper, a sum of at least b.
unfoldable pub geq : List Term → ℤ → Line
geq ts b = record { terms = keep has_weight ts; exact = false; bound = b }

unfoldable pub negated : Term → Term
negated t = weighted (neg_ℤ t.weight) t.variable

-- [ts]b, a sum of at most b: "`<=` by changed signs".
unfoldable pub leq : List Term → ℤ → Line
leq ts b = geq (map negated ts) (neg_ℤ b)

-- ---- a clause of one rule

-- "single-rule clauses written straight", "bounds (lower first)"
unfoldable pub lower_line : Bound ℤ → List Term → List Line
lower_line absent ts = []
lower_line (present l) ts = geq ts l ∷ []

unfoldable pub upper_line : Bound ℤ → List Term → List Line
upper_line absent ts = []
upper_line (present u) ts = leq ts u ∷ []

unfoldable pub straight : Rule → List Line
straight r = lower_line r.lower r.terms ++ upper_line r.upper r.terms

-- ---- a clause with 'or'

-- "new variables after n for each rule", "with W⁺, W⁻, W numbered by rule": those of a rule that has k variables before it.
abbrev pub plus_atom : ℕ → ℕ
plus_atom k = k + 1

abbrev pub minus_atom : ℕ → ℕ
minus_atom k = k + 2

abbrev pub rule_atom : ℕ → ℕ
rule_atom k = k + 3

-- "the W⁺ or W⁻ of an absent bound, numbered xk, has in place of its own lines `+1 xk >= 1 ;`"
unfoldable pub fixed : ℕ → List Line
fixed x = geq (weighted (pos 1) x ∷ []) (pos 1) ∷ []

-- (16) and (17): W⁻ ≡ [w₁a₁, .., wₘaₘ]u. "Terms rise by variable", so the new variable comes last.
unfoldable pub minus_lines : ℕ → Bound ℤ → List Term → List Line
minus_lines x absent ts = fixed x
minus_lines x (present u) ts =
    leq (ts ++ (weighted (greatest_total ts -ℤ u) x ∷ [])) (greatest_total ts)
    ∷ geq (ts ++ (weighted (u +ℤ pos 1 -ℤ least_total ts) x ∷ [])) (u +ℤ pos 1)
    ∷ []

-- (18) and (19): W⁺ ≡ l[w₁a₁, .., wₘaₘ].
unfoldable pub plus_lines : ℕ → Bound ℤ → List Term → List Line
plus_lines x absent ts = fixed x
plus_lines x (present l) ts =
    geq (ts ++ (weighted (least_total ts -ℤ l) x ∷ [])) (least_total ts)
    ∷ leq (ts ++ (weighted (l -ℤ pos 1 -ℤ greatest_total ts) x ∷ [])) (l -ℤ pos 1)
    ∷ []

-- (20), (21) and (22): W ≡ W⁺ ∧ W⁻.
unfoldable pub both_lines : ℕ → List Line
both_lines k =
    geq (weighted (pos 1) (plus_atom k) ∷ weighted (negsuc 0) (rule_atom k) ∷ []) (pos 0)
    ∷ geq (weighted (pos 1) (minus_atom k) ∷ weighted (negsuc 0) (rule_atom k) ∷ []) (pos 0)
    ∷ geq (weighted (negsuc 0) (plus_atom k) ∷ weighted (negsuc 0) (minus_atom k) ∷ weighted (pos 1) (rule_atom k) ∷ []) (negsuc 0)
    ∷ []

-- "then its rules' lines in paper order"
unfoldable pub rule_lines : ℕ → Rule → List Line
rule_lines k r = minus_lines (minus_atom k) r.upper r.terms ++ (plus_lines (plus_atom k) r.lower r.terms ++ both_lines k)

unfoldable pub rules_lines : ℕ → Clause → List Line
rules_lines k [] = []
rules_lines k (r ∷ rs) = rule_lines k r ++ rules_lines (k + 3) rs

-- (15): 1[W₁, .., Wₙ].
unfoldable pub rule_atoms : ℕ → Clause → List Term
rule_atoms k [] = []
rule_atoms k (r ∷ rs) = weighted (pos 1) (rule_atom k) ∷ rule_atoms (k + 3) rs

-- "a clause with 'or' gives (15), then its rules' lines"
unfoldable pub or_lines : ℕ → Clause → List Line
or_lines k c = geq (rule_atoms k c) (pos 1) ∷ rules_lines k c

-- ---- a plan

unfoldable pub is_single : Clause → Bool
is_single c = eqb (length c) 1

unfoldable pub clause_lines : ℕ → Clause → List Line
clause_lines k c = cond (is_single c) (concat (map straight c)) (or_lines k c)

-- How many new variables a clause takes: "for each rule of a clause with several rules".
unfoldable pub new_atoms : Clause → ℕ
new_atoms c = cond (is_single c) 0 (3 * length c)

unfoldable pub clauses_lines : ℕ → List Clause → List Line
clauses_lines k [] = []
clauses_lines k (c ∷ cs) = clause_lines k c ++ clauses_lines (k + new_atoms c) cs

-- "A lock becomes an `=` line, which no rule does."
unfoldable pub lock_line : Lock → Line
lock_line k = record { terms = weighted (pos 1) k.variable ∷ []; exact = true; bound = cond k.value (pos 1) (pos 0) }

-- "Lines follow clauses, bounds (lower first), then locks".
unfoldable pub tau : Plan → Text
tau p =
    record {
      variables = p.variables + sum_by new_atoms p.clauses;
      objective = p.objective;
      lines = clauses_lines p.variables p.clauses ++ map lock_line p.locks;
    }

-- ---- the extension

-- What the new variables of a rule are at under an assignment: whether the lower bound is met, whether the upper one is, whether the rule holds.
unfoldable pub rule_values : Assignment → Rule → Assignment
rule_values a r = at_least r.lower (total a r.terms) ∷ at_most r.upper (total a r.terms) ∷ rule_holds a r ∷ []

unfoldable pub clause_values : Assignment → Clause → Assignment
clause_values a c = cond (is_single c) [] (concat (map (rule_values a) c))

unfoldable pub extension : Plan → Assignment → Assignment
extension p a = concat (map (clause_values a) p.clauses)
