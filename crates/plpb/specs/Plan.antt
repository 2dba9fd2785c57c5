-- Plans, assignments, when a rule and a clause hold, and what an assignment costs (document 01, "Rules and clauses"; paper 004, section 2).
-- Assumes nothing.
use Rattle.std.specs.Prelude.{ℕ, zero, suc, Bool, true, false, not, cond, List, [], ◌∷◌, map, ltb, eqb, ℤ, pos, negsuc, ◌+ℤ◌, get_or, set}
use Rattle.std.specs.Int.Signed.{le_z}
use Rattle.plpb.specs.Lists.{◌and◌, any, all, row}

-- "with one bound possibly absent"
pub data Bound (A : Type 0) : Type 0 where
  absent : Bound A
  present : A → Bound A

unfoldable pub is_present : {A : Type 0} → Bound A → Bool
is_present absent = false
is_present (present b) = true

unfoldable pub map_bound : {A B : Type 0} → (A → B) → Bound A → Bound B
map_bound f absent = absent
map_bound f (present b) = present (f b)

-- One w·x of a sum: the variable's number, from 1, and its signed weight.
pub record Term : Type 0 where
  pub variable : ℕ
  pub weight : ℤ

-- "A rule is l ≤ Σ w·x ≤ u over variables that are 0 or 1"
pub record Rule : Type 0 where
  pub lower : Bound ℤ
  pub upper : Bound ℤ
  pub terms : List Term

-- "A clause is one or more rules joined by 'or'."
abbrev pub Clause : Type 0
Clause = List Rule

-- A variable that the mapper has fixed: "entries of a variable number and a byte 0 or 1" (T-01).
pub record Lock : Type 0 where
  pub variable : ℕ
  pub value : Bool

-- "A plan is any number of clauses, all to hold, none included. [..] The objective Σ c·x is made as small as possible"; "The plan's record
-- carries the locks."
pub record Plan : Type 0 where
  pub variables : ℕ
  pub objective : List Term
  pub locks : List Lock
  pub clauses : List Clause

-- A value for each variable: that of variable i stands at place i − 1.
abbrev pub Assignment : Type 0
Assignment = List Bool

unfoldable pub value : Assignment → ℕ → Bool
value a zero = false
value a (suc i) = get_or a i false

-- The assignment with one variable turned over.
unfoldable pub flip : Assignment → ℕ → Assignment
flip a zero = a
flip a (suc i) = set a i (not (get_or a i false))

-- "variable outside 1 to n" is what a call may not name.
unfoldable pub is_variable : Plan → ℕ → Bool
is_variable p x = ltb 0 x and ltb x (suc p.variables)

-- The value that the first of some locks of a variable gives it; absent where none does.
unfoldable pub lock_among : List Lock → ℕ → Bound Bool
lock_among [] x = absent
lock_among (k ∷ ks) x = cond (eqb k.variable x) (present k.value) (lock_among ks x)

-- The value that a variable of the plan is locked at, absent where it is free.
unfoldable pub lock_of : Plan → ℕ → Bound Bool
lock_of p x = cond (is_variable p x) (lock_among p.locks x) absent

unfoldable pub is_locked : Plan → ℕ → Bool
is_locked p x = is_present (lock_of p x)

-- A value, or that of the lock.
unfoldable pub under : Bound Bool → Bool → Bool
under absent b = b
under (present v) b = v

-- "then locked variables take their value"
unfoldable pub hold : Plan → Assignment → Assignment
hold p a = map (λ x. under (lock_of p x) (value a x)) (row 1 p.variables)

unfoldable pub agrees : Bound Bool → Bool → Bool
agrees absent b = true
agrees (present v) b = cond v b (not b)

-- An assignment obeys the locks if it gives each locked variable its value.
unfoldable pub obeys : Assignment → Plan → Bool
obeys a p = all (λ x. agrees (lock_of p x) (value a x)) (row 1 p.variables)

-- Σ w·x
unfoldable pub total : Assignment → List Term → ℤ
total a [] = pos 0
total a (t ∷ ts) = cond (value a t.variable) t.weight (pos 0) +ℤ total a ts

unfoldable pub at_least : Bound ℤ → ℤ → Bool
at_least absent s = true
at_least (present l) s = le_z l s

unfoldable pub at_most : Bound ℤ → ℤ → Bool
at_most absent s = true
at_most (present u) s = le_z s u

-- "A rule holds when its sum meets every bound present."
unfoldable pub rule_holds : Assignment → Rule → Bool
rule_holds a r = at_least r.lower (total a r.terms) and at_most r.upper (total a r.terms)

unfoldable pub clause_holds : Assignment → Clause → Bool
clause_holds a c = any (rule_holds a) c

unfoldable pub satisfies : Assignment → Plan → Bool
satisfies a p = all (clause_holds a) p.clauses

-- What an assignment costs: the objective's sum.
unfoldable pub cost : Plan → Assignment → ℤ
cost p a = total a p.objective

unfoldable pub negative_part : ℤ → ℤ
negative_part (pos n) = pos 0
negative_part (negsuc n) = negsuc n

-- The sum of the negative coefficients: no values give less.
unfoldable pub least_total : List Term → ℤ
least_total [] = pos 0
least_total (t ∷ ts) = negative_part t.weight +ℤ least_total ts

unfoldable pub positive_part : ℤ → ℤ
positive_part (pos n) = pos n
positive_part (negsuc n) = pos 0

-- .. of the positive ones: none give more.
unfoldable pub greatest_total : List Term → ℤ
greatest_total [] = pos 0
greatest_total (t ∷ ts) = positive_part t.weight +ℤ greatest_total ts

-- What a coefficient counts: "l(O) is the sum of its negative coefficients", "l(O) now counts locked variables at their value."
unfoldable pub least_of : Bound Bool → ℤ → ℤ
least_of absent w = negative_part w
least_of (present v) w = cond v w (pos 0)

unfoldable pub least_cost : Plan → List Term → ℤ
least_cost p [] = pos 0
least_cost p (t ∷ ts) = least_of (lock_of p t.variable) t.weight +ℤ least_cost p ts

unfoldable pub floor_cost : Plan → ℤ
floor_cost p = least_cost p p.objective

-- "Numbers in a field rise strictly.", here above a number v.
unfoldable pub rising_above : ℕ → List Term → Bool
rising_above v [] = true
rising_above v (t ∷ ts) = ltb v t.variable and rising_above t.variable ts

-- Variable numbers from 1, each above the one before: so no variable stands twice.
unfoldable pub rising : List Term → Bool
rising ts = rising_above 0 ts

-- .. in every rule of a plan.
unfoldable pub numbers_rise : Plan → Bool
numbers_rise p = all (all (λ r. rising r.terms)) p.clauses

unfoldable pub named_in : ℕ → List Term → Bool
named_in x ts = any (λ t. eqb t.variable x) ts

-- A clause names the variables of its rules.
unfoldable pub names : Clause → ℕ → Bool
names c x = any (λ r. named_in x r.terms) c
