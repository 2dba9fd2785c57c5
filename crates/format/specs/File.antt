-- The plan file as a definition: from any list of bytes to the plan, or the refusal's number with the offset of the field's first byte
-- (document 01, "The plan file" and "Who can cause which refusal"; T-01).
-- Assumes nothing.
use Rattle.std.specs.Prelude.{ℕ, zero, suc, ◌+◌, ◌-◌, ◌/◌, ◌%◌, Bool, true, false, not, cond, List, [], ◌∷◌, leb, ltb, eqb, ℤ, nat_abs, length}
use Rattle.plpb.specs.Lists.{◌and◌, ◌or◌}
use Rattle.plpb.specs.Plan.{Bound, absent, present, Term, Rule, Clause, Lock, Plan}
use Rattle.words.specs.Words.{num_at, signed}
use Rattle.format.specs.Limits.{max_variables, max_clauses, max_rules, max_terms, max_bound, terms_lawful}

-- What may stand next: "Order: 01, 02, then clauses, each 03 followed by one or more 04, then 05 as the last bytes." "The plan
-- file gains an optional field, tag 06, between objective and first clause".
pub data Stage : Type 0 where
  at_count : Stage
  at_objective : Stage
  at_locks : Stage
  at_clause : Stage
  at_rule : Stage
  after_rule : Stage

-- Where reading is, and how much has been read.
pub record State : Type 0 where
  pub at : ℕ
  pub stage : Stage
  pub variables : ℕ
  pub clauses : ℕ
  pub rules : ℕ
  pub terms : ℕ

unfoldable pub may_stand : Stage → ℕ → Bool
may_stand at_count tag = eqb tag 1
may_stand at_objective tag = eqb tag 2
may_stand at_locks tag = eqb tag 6 or (eqb tag 3 or eqb tag 5)
may_stand at_clause tag = eqb tag 3 or eqb tag 5
may_stand at_rule tag = eqb tag 4
may_stand after_rule tag = eqb tag 3 or eqb tag 4 or eqb tag 5

-- A stage behind objective and locks, where clauses and rules stand.
unfoldable pub behind : Stage → Bool
behind at_count = false
behind at_objective = false
behind at_locks = false
behind at_clause = true
behind at_rule = true
behind after_rule = true

-- "Fields: a one-byte tag, a two-byte length, the body."
unfoldable pub tag_at : List ℕ → ℕ → ℕ
tag_at s at = num_at 1 s at

unfoldable pub length_at : List ℕ → ℕ → ℕ
length_at s at = num_at 2 s (at + 1)

-- The table's column 'length', by tag: "2", "multiple of 6, 0 lawful", "0", "9 + 6·k, k at least 1", "0"; of 06 "a multiple
-- of 3 or 0".
unfoldable pub length_lawful : ℕ → ℕ → Bool
length_lawful tag size =
    cond (eqb tag 1) (eqb size 2)
    (cond (eqb tag 2) (eqb (size % 6) 0)
    (cond (eqb tag 4) (leb 15 size and eqb ((size - 9) % 6) 0)
    (cond (eqb tag 6) (eqb (size % 3) 0) (eqb size 0))))

-- "A term is a variable number (2 bytes) and a coefficient (4)."
unfoldable pub term_at : List ℕ → ℕ → Term
term_at s at = record { variable = num_at 2 s at; weight = signed (num_at 4 s (at + 2)) }

unfoldable pub terms_at : List ℕ → ℕ → ℕ → List Term
terms_at s at zero = []
terms_at s at (suc k) = term_at s at ∷ terms_at s (at + 6) k

-- The terms that a field of a tag and length has, and where they begin in its body.
unfoldable pub terms_in : ℕ → ℕ → ℕ
terms_in tag size = cond (eqb tag 2) (size / 6) (cond (eqb tag 4) ((size - 9) / 6) 0)

-- "mode byte, l, u, terms"
unfoldable pub mode_at : List ℕ → ℕ → ℕ
mode_at s at = num_at 1 s (at + 3)

unfoldable pub lower_at : List ℕ → ℕ → ℤ
lower_at s at = signed (num_at 4 s (at + 4))

unfoldable pub upper_at : List ℕ → ℕ → ℤ
upper_at s at = signed (num_at 4 s (at + 8))

unfoldable pub field_terms : List ℕ → ℕ → List Term
field_terms s at =
    cond (eqb (tag_at s at) 2) (terms_at s (at + 3) (terms_in 2 (length_at s at)))
    (cond (eqb (tag_at s at) 4) (terms_at s (at + 12) (terms_in 4 (length_at s at))) [])

-- "entries of a variable number and a byte 0 or 1"
unfoldable pub lock_entry : List ℕ → ℕ → Lock
lock_entry s at = record { variable = num_at 2 s at; value = eqb (num_at 1 s (at + 2)) 1 }

unfoldable pub lock_entries : List ℕ → ℕ → ℕ → List Lock
lock_entries s at zero = []
lock_entries s at (suc k) = lock_entry s at ∷ lock_entries s (at + 3) k

unfoldable pub field_locks : List ℕ → ℕ → List Lock
field_locks s at = cond (eqb (tag_at s at) 6) (lock_entries s (at + 3) (length_at s at / 3)) []

-- "4: variable count outside 1 to 512, or the 513th clause, 1,025th rule or a field that brings terms of rules above 6,000."
unfoldable pub past_limits : List ℕ → State → Bool
past_limits s st =
    cond (eqb (tag_at s st.at) 1) (not (leb 1 (num_at 2 s (st.at + 3)) and leb (num_at 2 s (st.at + 3)) max_variables))
    (cond (eqb (tag_at s st.at) 3) (leb max_clauses st.clauses)
    (cond (eqb (tag_at s st.at) 4)
    (leb max_rules st.rules or ltb max_terms (st.terms + terms_in 4 (length_at s st.at))) false))

-- "Mode 1 is lower only, 2 upper only, 3 both; an absent bound is written 0." "6: mode outside 1 to 3, a bound outside
-- ±1,000,000,000, an absent bound not 0."
unfoldable pub bounds_lawful : ℕ → ℤ → ℤ → Bool
bounds_lawful mode l u =
    leb 1 mode and leb mode 3 and leb (nat_abs l) max_bound and leb (nat_abs u) max_bound
    and (not (eqb mode 2) or eqb (nat_abs l) 0) and (not (eqb mode 1) or eqb (nat_abs u) 0)

unfoldable pub wrong_bounds : List ℕ → ℕ → Bool
wrong_bounds s at = eqb (tag_at s at) 4 and not (bounds_lawful (mode_at s at) (lower_at s at) (upper_at s at))

-- The number of the first condition met, 0 for none.
unfoldable pub refuse : Bool → ℕ → ℕ → ℕ
refuse met number otherwise = cond met number otherwise

-- "5 for a wrong number as in terms, 10 for another value (after 5 of that entry)": of entries k in number, v being the number before.
unfoldable pub entries_fault : ℕ → ℕ → List ℕ → ℕ → ℕ → ℕ
entries_fault n v s at zero = 0
entries_fault n v s at (suc k) =
    refuse (not (ltb v (num_at 2 s at) and leb (num_at 2 s at) n)) 5
    (refuse (ltb 1 (num_at 1 s (at + 2))) 10 (entries_fault n (num_at 2 s at) s (at + 3) k))

unfoldable pub locks_fault : List ℕ → State → ℕ
locks_fault s st = cond (eqb (tag_at s st.at) 6) (entries_fault st.variables 0 s (st.at + 3) (length_at s st.at / 3)) 0

-- "In a field: 1 for the head, 2, 3, 1 for the body, 4, 6, then 5 from left to right." A field 06 meets neither 4 nor 6.
unfoldable pub fault : List ℕ → State → ℕ
fault s st =
    refuse (ltb (length s) (st.at + 3)) 1
    (refuse (not (may_stand st.stage (tag_at s st.at))) 2
    (refuse (not (length_lawful (tag_at s st.at) (length_at s st.at))) 3
    (refuse (ltb (length s) (st.at + 3 + length_at s st.at)) 1
    (refuse (past_limits s st) 4
    (refuse (wrong_bounds s st.at) 6
    (refuse (not (terms_lawful st.variables (field_terms s st.at))) 5 (locks_fault s st)))))))

unfoldable pub stage_after : ℕ → Stage
stage_after tag =
    cond (eqb tag 1) at_objective (cond (eqb tag 2) at_locks (cond (eqb tag 3) at_rule (cond (eqb tag 6) at_clause after_rule)))

-- The state behind a field that meets no condition.
unfoldable pub next : List ℕ → State → State
next s st =
    let tag = tag_at s st.at in
    record {
      at = st.at + 3 + length_at s st.at;
      stage = stage_after tag;
      variables = cond (eqb tag 1) (num_at 2 s (st.at + 3)) st.variables;
      clauses = cond (eqb tag 3) (st.clauses + 1) st.clauses;
      rules = cond (eqb tag 4) (st.rules + 1) st.rules;
      terms = cond (eqb tag 4) (st.terms + terms_in 4 (length_at s st.at)) st.terms;
    }

-- What the fields from some place on hold: the rules up to the next 03 or 05 belong to a clause that began before.
pub record Contents : Type 0 where
  pub variables : ℕ
  pub objective : List Term
  pub locks : List Lock
  pub rules : List Rule
  pub clauses : List Clause

-- What reading comes to. A `Result` with a pair for its error would not say which of the two numbers is the refusal's and which the offset.
pub data Reading (A : Type 0) : Type 0 where
  refused : ℕ → ℕ → Reading A
  accepted : A → Reading A

unfoldable pub bound_of : ℕ → ℕ → ℤ → Bound ℤ
bound_of without mode b = cond (eqb mode without) absent (present b)

unfoldable pub rule_at : List ℕ → ℕ → Rule
rule_at s at =
    record {
      lower = bound_of 2 (mode_at s at) (lower_at s at);
      upper = bound_of 1 (mode_at s at) (upper_at s at);
      terms = field_terms s at;
    }

-- The contents from a field on, given those behind it.
unfoldable pub add_field : List ℕ → ℕ → Contents → Contents
add_field s at c =
    cond (eqb (tag_at s at) 1)
    (record { variables = num_at 2 s (at + 3); objective = c.objective; locks = c.locks; rules = c.rules; clauses = c.clauses })
    (cond (eqb (tag_at s at) 2)
    (record { variables = c.variables; objective = field_terms s at; locks = c.locks; rules = c.rules; clauses = c.clauses })
    (cond (eqb (tag_at s at) 3)
    (record { variables = c.variables; objective = c.objective; locks = c.locks; rules = []; clauses = c.rules ∷ c.clauses })
    (cond (eqb (tag_at s at) 6)
    (record { variables = c.variables; objective = c.objective; locks = field_locks s at; rules = c.rules; clauses = c.clauses })
    (record { variables = c.variables; objective = c.objective; locks = c.locks; rules = rule_at s at ∷ c.rules; clauses = c.clauses }))))

unfoldable pub map_reading : {A B : Type 0} → (A → B) → Reading A → Reading B
map_reading f (refused number offset) = refused number offset
map_reading f (accepted a) = accepted (f a)

-- "7: bytes after the end field; the offset is the first of them."
unfoldable pub finish : List ℕ → State → Reading Contents
finish s st =
    cond (ltb (st.at + 3) (length s)) (refused 7 (st.at + 3))
    (accepted (record { variables = 0; objective = []; locks = []; rules = []; clauses = [] }))

-- "The first field at fault decides." A field takes three bytes at least, so that there are fewer fields than bytes: with no field left
-- to read fewer than three bytes are.
unfoldable pub read_from : List ℕ → ℕ → State → Reading Contents
read_from s zero st = refused 1 st.at
read_from s (suc left) st =
    let on = cond (eqb (tag_at s st.at) 5) (finish s st) (map_reading (add_field s st.at) (read_from s left (next s st))) in
    cond (ltb 0 (fault s st)) (refused (fault s st) st.at) on

unfoldable pub begin : State
begin = record { at = 0; stage = at_count; variables = 0; clauses = 0; rules = 0; terms = 0 }

unfoldable pub plan_of : Contents → Plan
plan_of c = record { variables = c.variables; objective = c.objective; locks = c.locks; clauses = c.clauses }

-- What a file says.
unfoldable pub read : List ℕ → Reading Plan
read s = map_reading plan_of (read_from s (length s) begin)
