-- The tables that an accepted loading leaves, in words of 4 bytes (docs/FORMAT.md has the layout with offsets), and the plan read back from them.
-- Assumes nothing.
use Rattle.std.specs.Prelude.{ℕ, suc, ◌+◌, ◌*◌, ◌-◌, ◌≡◌, Bool, true, false, cond, List, [], ◌∷◌, ◌++◌, map, T, ltb, eqb, ℤ, pos, nat_abs, length, replicate, take}
use Rattle.std.proofs.Math.Pow.{are_bytes}
use Rattle.plpb.specs.Lists.{◌and◌, concat, keep, row}
use Rattle.plpb.specs.Plan.{Bound, absent, present, Term, Rule, Clause, Lock, Plan, lock_of}
use Rattle.plpb.specs.Tallies.{rules_of}
use Rattle.order.specs.Order.{order, run_end, place_word}
use Rattle.words.specs.Words.{word_bytes, word_at, signed, unsigned}
use Rattle.format.specs.Limits.{term_count, lawful}
use Rattle.format.specs.File.{accepted, read, bound_of}
pub use Rattle.format.specs.Layout.{table_size, term_size}
use Rattle.format.specs.Layout.{end_room, term_room, term_word_count, objective_at, clause_first_at, clause_count_at, rule_first_at, rule_count_at, rule_mode_at, rule_lower_at, rule_upper_at, lock_at, clause_word_count, rule_word_count}
use Rattle.format.specs.Writer.{mode, bound_number}

-- The coefficient of a variable in a sum, 0 where it has none.
unfoldable pub coefficient : List Term → ℕ → ℤ
coefficient [] x = pos 0
coefficient (t ∷ ts) x = cond (eqb t.variable x) t.weight (coefficient ts x)

-- A section of a fixed size, with the same in each unused entry.
unfoldable pub pad_with : {A : Type 0} → A → ℕ → List A → List A
pad_with unused k xs = xs ++ replicate (k - length xs) unused

-- "unused entries are 0".
abbrev pub pad_to : ℕ → List ℕ → List ℕ
pad_to k ws = pad_with 0 k ws

-- A clause's entry: its first rule and how many it has.
unfoldable pub clause_entries : ℕ → List Clause → List ℕ
clause_entries first [] = []
clause_entries first (c ∷ cs) = first ∷ length c ∷ clause_entries (first + length c) cs

-- A rule's entry: its first term, how many it has, its mode and its two bounds.
unfoldable pub rule_entries : ℕ → List Rule → List ℕ
rule_entries first [] = []
rule_entries first (r ∷ rs) =
    first
    ∷ length r.terms
    ∷ mode r.lower r.upper
    ∷ unsigned (bound_number r.lower)
    ∷ unsigned (bound_number r.upper)
    ∷ rule_entries (first + length r.terms) rs

-- A term's entry: its variable and its weight.
unfoldable pub term_entries : List Term → List ℕ
term_entries [] = []
term_entries (t ∷ ts) = t.variable ∷ unsigned t.weight ∷ term_entries ts

-- "each rule's terms are written into the term table after those of the rules before it"
unfoldable pub all_terms : Plan → List Term
all_terms p = concat (map (λ r. r.terms) (rules_of p))

-- A variable's lock: 0 where it is free, 1 where it is locked at 0, 2 where it is locked at 1.
unfoldable pub lock_word : Bound Bool → ℕ
lock_word absent = 0
lock_word (present v) = cond v 2 1

-- The base of the tables: counts, objective (dense, by variable), clauses, rules and locks (dense too): 4 + 512 + 2·513 + 5·1,025 + 512 words. There is
-- room for one clause and rule more than a plan may have, so that the tables of a search, which adds one, are laid out alike. "The plan's record carries
-- the locks."
unfoldable pub base_words : Plan → List ℕ
base_words p =
    p.variables
    ∷ length p.clauses
    ∷ length (rules_of p)
    ∷ term_count p
    ∷ (map (λ x. unsigned (coefficient p.objective x)) (row 1 512)
    ++ (pad_to clause_word_count (clause_entries 0 p.clauses)
    ++ (pad_to rule_word_count (rule_entries 0 (rules_of p)) ++ map (λ x. lock_word (lock_of p x)) (row 1 512))))

-- "keep, beside the term table, an order of the same terms by variable, then rule, built at loading" (T-05): where the run of each variable ends, from that
-- of no variable on, and the words of the places, 513 + 6,512 words.
unfoldable pub run_ends : Plan → List ℕ
run_ends p = map (run_end p) (row 0 (suc p.variables))

unfoldable pub order_words : Plan → List ℕ
order_words p = pad_to end_room (run_ends p) ++ pad_to term_room (map (place_word p) (order p))

unfoldable pub table_words : Plan → List ℕ
table_words p = base_words p ++ order_words p

-- The term table: 2·6,512 words, with room for the terms of one rule more.
unfoldable pub term_words : Plan → List ℕ
term_words p = pad_to term_word_count (term_entries (all_terms p))

-- The two tables hold the words of a plan; what stands past the full limits does not matter.
unfoldable pub Holds : Plan → List ℕ → List ℕ → Type 0
Holds p tables terms = (take table_size tables ≡ word_bytes (table_words p)) × (take term_size terms ≡ word_bytes (term_words p))

-- "tables that no accepted loading leaves" are refused by 22: tables that one leaves are those of the plan of some accepted file.
unfoldable pub Loaded : List ℕ → List ℕ → Type 0
Loaded tables terms = (file : List ℕ) × (p : Plan) × T (are_bytes file) × (read file ≡ accepted p) × Holds p tables terms

-- The plan read back, from the words of the two tables.
unfoldable pub term_of : (ℕ → ℕ) → ℕ → Term
term_of g i = record { variable = g (2 * i); weight = signed (g (2 * i + 1)) }

unfoldable pub rule_of : (ℕ → ℕ) → (ℕ → ℕ) → ℕ → Rule
rule_of f g r =
    record {
      lower = bound_of 2 (f (rule_mode_at r)) (signed (f (rule_lower_at r)));
      upper = bound_of 1 (f (rule_mode_at r)) (signed (f (rule_upper_at r)));
      terms = map (term_of g) (row (f (rule_first_at r)) (f (rule_count_at r)));
    }

unfoldable pub clause_of : (ℕ → ℕ) → (ℕ → ℕ) → ℕ → Clause
clause_of f g c = map (rule_of f g) (row (f (clause_first_at c)) (f (clause_count_at c)))

-- A term of each variable, of which those with a coefficient other than 0 are the objective's.
unfoldable pub named : (ℕ → ℤ) → ℕ → Term
named h x = record { variable = x; weight = h x }

unfoldable pub is_some : Term → Bool
is_some t = ltb 0 (nat_abs t.weight)

-- The terms of the variables above v, k in number.
unfoldable pub sparse : (ℕ → ℤ) → ℕ → ℕ → List Term
sparse h v k = keep is_some (map (named h) (row (suc v) k))

unfoldable pub objective_of : (ℕ → ℕ) → List Term
objective_of f = sparse (λ x. signed (f (objective_at x))) 0 (f 0)

-- A lock of each variable that has a term in the locks' section.
unfoldable pub term_lock : Term → Lock
term_lock t = record { variable = t.variable; value = ltb 1 (nat_abs t.weight) }

unfoldable pub locks_of : (ℕ → ℕ) → List Lock
locks_of f = map term_lock (sparse (λ x. signed (f (lock_at x))) 0 (f 0))

unfoldable pub plan_in : (ℕ → ℕ) → (ℕ → ℕ) → Plan
plan_in f g = record { variables = f 0; objective = objective_of f; locks = locks_of f; clauses = map (clause_of f g) (row 0 (f 1)) }

-- The plan that two tables hold.
unfoldable pub plan_of_tables : List ℕ → List ℕ → Plan
plan_of_tables tables terms = plan_in (word_at tables) (word_at terms)

unfoldable pub same_bytes : List ℕ → List ℕ → Bool
same_bytes [] [] = true
same_bytes [] (y ∷ ys) = false
same_bytes (x ∷ xs) [] = false
same_bytes (x ∷ xs) (y ∷ ys) = eqb x y and same_bytes xs ys

-- Whether two tables are those that an accepted loading leaves: the plan read back is lawful, and they hold its words.
unfoldable pub is_loaded : List ℕ → List ℕ → Bool
is_loaded tables terms =
    lawful (plan_of_tables tables terms)
    and same_bytes (take table_size tables) (word_bytes (table_words (plan_of_tables tables terms)))
    and same_bytes (take term_size terms) (word_bytes (term_words (plan_of_tables tables terms)))
