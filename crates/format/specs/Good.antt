-- The test of tables for refusal 22, by their words: f gives those of the table and g those of the terms. It is a few loops over indices, each the loop
-- that code runs, and is proved to hold of the tables that an accepted loading leaves and of no others (proofs/IsLoaded.antt).
-- Assumes nothing.
use Rattle.std.specs.Prelude.{ℕ, zero, suc, ◌+◌, ◌*◌, ◌-◌, Bool, true, leb, ltb, eqb, nat_abs}
use Rattle.plpb.specs.Lists.{◌and◌}
use Rattle.plpb.specs.Normal.{is_negative}
use Rattle.order.specs.Order.{Place, spelled, word_place}
use Rattle.words.specs.Words.{signed}
use Rattle.format.specs.Limits.{max_variables, max_clauses, max_rules, max_terms, max_weight, weight_lawful}
use Rattle.format.specs.File.{bounds_lawful}
use Rattle.format.specs.Layout.{clause_count_at, clause_first_at, clause_word_count, clauses_at, end_at, entry_at, lock_at, locks_at, objective_at, rule_count_at, rule_first_at, rule_lower_at, rule_mode_at, rule_upper_at, rule_word_count, rules_at, term_room, term_word_count}

-- A test holds at i, i + 1, .., k places in all.
unfoldable pub every_from : (ℕ → Bool) → ℕ → ℕ → Bool
every_from p i zero = true
every_from p i (suc k) = p i and every_from p (suc i) k

-- The k words from i on are 0.
unfoldable pub zeros_from : (ℕ → ℕ) → ℕ → ℕ → Bool
zeros_from f i k = every_from (λ j. eqb (f j) 0) i k

-- Entry i of a chain: its first place is where the one before it ended, and of the places up to e it takes one at least.
unfoldable pub link_good : (ℕ → ℕ) → (ℕ → ℕ) → ℕ → ℕ → ℕ → Bool
link_good first count e at i = eqb (first i) at and leb 1 (count i) and leb (count i) (e - at)

-- A chain of k entries from entry i on, of which the last ends at e.
unfoldable pub chain_from : (ℕ → ℕ) → (ℕ → ℕ) → ℕ → ℕ → ℕ → ℕ → Bool
chain_from first count e at i zero = eqb at e
chain_from first count e at i (suc k) = link_good first count e at i and chain_from first count e (at + count i) (suc i) k

-- Term i: its number above v and at most n, its weight lawful.
unfoldable pub term_good : (ℕ → ℕ) → ℕ → ℕ → ℕ → Bool
term_good g n v i = ltb v (g (2 * i)) and leb (g (2 * i)) n and weight_lawful (signed (g (2 * i + 1)))

-- Terms k in number from term i on, of which the numbers rise strictly from above v.
unfoldable pub terms_from : (ℕ → ℕ) → ℕ → ℕ → ℕ → ℕ → Bool
terms_from g n v i zero = true
terms_from g n v i (suc k) = term_good g n v i and terms_from g n (g (2 * i)) (suc i) k

-- The counts of the table within the limits.
unfoldable pub counts_good : (ℕ → ℕ) → Bool
counts_good f = leb 1 (f 0) and leb (f 0) max_variables and leb (f 1) max_clauses and leb (f 2) max_rules and leb (f 3) max_terms

-- The objective: 0 or a lawful coefficient for each variable, 0 beyond the last.
unfoldable pub coefficient_good : (ℕ → ℕ) → ℕ → Bool
coefficient_good f x = leb (nat_abs (signed (f (objective_at x)))) max_weight

unfoldable pub objective_good : (ℕ → ℕ) → Bool
objective_good f = every_from (coefficient_good f) 1 (f 0) and zeros_from f (4 + f 0) (512 - f 0)

-- The locks: 0, 1 or 2 for each variable, 0 beyond the last.
unfoldable pub lock_good : (ℕ → ℕ) → ℕ → Bool
lock_good f x = leb (f (lock_at x)) 2

unfoldable pub locks_good : (ℕ → ℕ) → Bool
locks_good f = every_from (lock_good f) 1 (f 0) and zeros_from f (locks_at + f 0) (512 - f 0)

-- The clauses share out the rules in order; unused entries 0.
unfoldable pub clauses_good : (ℕ → ℕ) → Bool
clauses_good f =
    chain_from (λ c. f (clause_first_at c)) (λ c. f (clause_count_at c)) (f 2) 0 0 (f 1) and zeros_from f (clauses_at + 2 * f 1) (clause_word_count - 2 * f 1)

-- The rules share out the terms in order; unused entries 0.
unfoldable pub rules_good : (ℕ → ℕ) → Bool
rules_good f =
    chain_from (λ r. f (rule_first_at r)) (λ r. f (rule_count_at r)) (f 3) 0 0 (f 2) and zeros_from f (rules_at + 5 * f 2) (rule_word_count - 5 * f 2)

-- A rule's mode, bounds and terms.
unfoldable pub rule_good : (ℕ → ℕ) → (ℕ → ℕ) → ℕ → Bool
rule_good f g r =
    bounds_lawful (f (rule_mode_at r)) (signed (f (rule_lower_at r))) (signed (f (rule_upper_at r)))
    and terms_from g (f 0) 0 (f (rule_first_at r)) (f (rule_count_at r))

-- The base of the tables and the terms, as words, are those of a lawful plan.
unfoldable pub base_good : (ℕ → ℕ) → (ℕ → ℕ) → Bool
base_good f g =
    counts_good f and objective_good f and clauses_good f and rules_good f and every_from (rule_good f g) 0 (f 2)
    and zeros_from g (2 * f 3) (term_word_count - 2 * f 3) and locks_good f

-- A place that there is: its clause is one of the table's, its rule one of the clause's, its term one of the rule's.
unfoldable pub place_good : (ℕ → ℕ) → Place → Bool
place_good f q =
    ltb q.clause (f 1)
    and leb (f (clause_first_at q.clause)) q.rule
    and ltb q.rule (f (clause_first_at q.clause) + f (clause_count_at q.clause))
    and ltb q.term (f (rule_count_at q.rule))

-- The term at a place, counted among all terms.
abbrev pub term_here : (ℕ → ℕ) → Place → ℕ
term_here f q = f (rule_first_at q.rule) + q.term

-- The word of a place in the run of x, where rules from v on may stand: the term there names x, and the word is spelled as that place is.
unfoldable pub word_good : (ℕ → ℕ) → (ℕ → ℕ) → ℕ → ℕ → ℕ → Place → Bool
word_good f g x v w q =
    eqb (g (2 * term_here f q)) x and leb v q.rule
    and eqb w (spelled (ltb 1 (f (clause_count_at q.clause))) q (is_negative (signed (g (2 * term_here f q + 1)))))

unfoldable pub entry_good : (ℕ → ℕ) → (ℕ → ℕ) → ℕ → ℕ → ℕ → Bool
entry_good f g x v w = place_good f (word_place w) and word_good f g x v w (word_place w)

-- Entries j in number from entry k on, of which the rules rise strictly from v on.
unfoldable pub entries_from : (ℕ → ℕ) → (ℕ → ℕ) → ℕ → ℕ → ℕ → ℕ → Bool
entries_from f g x v k zero = true
entries_from f g x v k (suc j) = entry_good f g x v (f (entry_at k)) and entries_from f g x (suc (word_place (f (entry_at k))).rule) (suc k) j

-- The run of x: it begins where that of the variable before ends, and ends there or behind, where the terms end or before.
unfoldable pub run_good : (ℕ → ℕ) → (ℕ → ℕ) → ℕ → Bool
run_good f g x =
    leb (f (end_at (x - 1))) (f (end_at x)) and leb (f (end_at x)) (f 3)
    and entries_from f g x 0 (f (end_at (x - 1))) (f (end_at x) - f (end_at (x - 1)))

-- The order: the first run begins at 0, each is good, the last ends where the terms end; unused entries 0.
unfoldable pub order_good : (ℕ → ℕ) → (ℕ → ℕ) → Bool
order_good f g =
    eqb (f (end_at 0)) 0 and every_from (run_good f g) 1 (f 0) and eqb (f (end_at (f 0))) (f 3)
    and zeros_from f (end_at (suc (f 0))) (512 - f 0) and zeros_from f (entry_at (f 3)) (term_room - f 3)

-- Whether two tables, as words, are those of a lawful plan.
unfoldable pub good_by : (ℕ → ℕ) → (ℕ → ℕ) → Bool
good_by f g = base_good f g and order_good f g
