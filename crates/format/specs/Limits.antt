-- The limits of a plan (the owner's demands; document 01, "Who can cause which refusal", 4 to 6) and plans within them.
-- Assumes nothing.
use Rattle.std.specs.Prelude.{ℕ, Bool, true, false, not, cond, List, map, leb, ltb, ℤ, pos, nat_abs, length}
use Rattle.plpb.specs.Lists.{◌and◌, ◌or◌, all, is_empty}
use Rattle.plpb.specs.Plan.{Bound, absent, present, Term, Rule, Lock, Plan, rising}
use Rattle.plpb.specs.Tallies.{rules_of}
unfoldable pub use Rattle.order.specs.Order.{term_count}
use Rattle.format.specs.Layout.{clause_room, rule_room, term_room}

-- "A plan holds at most 512 yes-or-no variables, 512 clauses, 1,024 rules and 6,000 terms, with weights up to 1,000,000 either way."
abbrev pub max_variables : ℕ
max_variables = 512

abbrev pub max_clauses : ℕ
max_clauses = 512

abbrev pub max_rules : ℕ
max_rules = 1_024

abbrev pub max_terms : ℕ
max_terms = 6_000

abbrev pub max_weight : ℕ
max_weight = 1_000_000

-- "a bound outside ±1,000,000,000"
abbrev pub max_bound : ℕ
max_bound = 1_000_000_000

-- "a coefficient 0 or outside ±1,000,000" is refused.
unfoldable pub weight_lawful : ℤ → Bool
weight_lawful w = ltb 0 (nat_abs w) and leb (nat_abs w) max_weight

-- A term whose variable is at most n and whose weight is lawful.
unfoldable pub term_within : ℕ → Term → Bool
term_within n t = leb t.variable n and weight_lawful t.weight

-- "a term's variable outside 1 to n or not above the one before" is refused.
unfoldable pub terms_lawful : ℕ → List Term → Bool
terms_lawful n ts = rising ts and all (λ t. leb t.variable n and weight_lawful t.weight) ts

-- A lock as a term whose weight is its word in the tables: 1 for locked at 0, 2 for locked at 1.
unfoldable pub lock_term : Lock → Term
lock_term k = record { variable = k.variable; weight = cond k.value (pos 2) (pos 1) }

abbrev pub lock_terms : Plan → List Term
lock_terms p = map lock_term p.locks

unfoldable pub bound_lawful : Bound ℤ → Bool
bound_lawful absent = true
bound_lawful (present b) = leb (nat_abs b) max_bound

unfoldable pub is_present : Bound ℤ → Bool
is_present absent = false
is_present (present b) = true

-- One bound at least, each within its range; "k at least 1" terms.
unfoldable pub rule_lawful : ℕ → Rule → Bool
rule_lawful n r =
    (is_present r.lower or is_present r.upper) and bound_lawful r.lower and bound_lawful r.upper
    and not (is_empty r.terms) and terms_lawful n r.terms

-- A plan within every range, its locks' numbers "as in terms", each clause with "one or more" rules, and with so many clauses, rules and terms at most.
unfoldable pub within : ℕ → ℕ → ℕ → Plan → Bool
within clauses rules terms p =
    leb 1 p.variables and leb p.variables max_variables and terms_lawful p.variables p.objective
    and terms_lawful p.variables (lock_terms p)
    and all (λ c. not (is_empty c) and all (rule_lawful p.variables) c) p.clauses
    and leb (length p.clauses) clauses and leb (length (rules_of p)) rules and leb (term_count p) terms

-- A plan that a file may hold.
unfoldable pub lawful : Plan → Bool
lawful p = within max_clauses max_rules max_terms p

-- A plan that the tables have room for: "one clause and rule more, with its 512 terms".
unfoldable pub roomy : Plan → Bool
roomy p = within clause_room rule_room term_room p
