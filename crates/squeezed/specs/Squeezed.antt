-- A plan squeezed after locking (document 02, T-12): "put in locked values, drop a bound that all values of the remaining variables meet, drop a
-- rule that no values can meet, drop a clause with a rule that all values meet, leave out the lock field, renumber the unlocked variables (all
-- kept) by rising number".
-- Assumes nothing.
use Rattle.std.specs.Prelude.{ℕ, Bool, not, cond, List, [], ◌∷◌, map, ℤ, pos, ◌+ℤ◌, ◌-ℤ◌, length}
use Rattle.plpb.specs.Lists.{◌and◌, keep, count, any, is_empty, row}
use Rattle.plpb.specs.Plan.{Bound, absent, present, map_bound, Term, Rule, Clause, Plan, is_variable, lock_of, is_locked, at_least, at_most, least_total}
unfoldable pub use Rattle.plpb.specs.Plan.{positive_part, greatest_total}

-- "the unlocked variables (all kept)", by their old numbers: "which old variable each new one was".
unfoldable pub is_unlocked : Plan → ℕ → Bool
is_unlocked p x = not (is_locked p x)

unfoldable pub unlocked : Plan → List ℕ
unlocked p = keep (is_unlocked p) (row 1 p.variables)

-- "renumber the unlocked variables [..] by rising number": the new number is how many unlocked variables there are up to this one.
unfoldable pub new_number : Plan → ℕ → ℕ
new_number p x = count (is_unlocked p) (row 1 x)

-- What becomes of a variable: its locked value is put in, or it goes on under a new number.
pub data Becomes : Type 0 where
  locked : Bool → Becomes
  renumbered : ℕ → Becomes

unfoldable pub under_lock : Bound Bool → ℕ → Becomes
under_lock absent k = renumbered k
under_lock (present v) k = locked v

-- A number that is no variable's stands in no lawful plan.
unfoldable pub becomes : Plan → ℕ → Becomes
becomes p x = cond (is_variable p x) (under_lock (lock_of p x) (new_number p x)) (renumbered 0)

-- "put in locked values": what the terms of locked variables sum up to, ..
unfoldable pub given : Becomes → ℤ → ℤ
given (locked v) w = cond v w (pos 0)
given (renumbered k) w = pos 0

unfoldable pub given_total : (ℕ → Becomes) → List Term → ℤ
given_total f [] = pos 0
given_total f (t ∷ ts) = given (f t.variable) t.weight +ℤ given_total f ts

-- .. and the terms that are left.
unfoldable pub stays : Becomes → ℤ → List Term → List Term
stays (locked v) w ts = ts
stays (renumbered k) w ts = record { variable = k; weight = w } ∷ ts

unfoldable pub terms_left : (ℕ → Becomes) → List Term → List Term
terms_left f [] = []
terms_left f (t ∷ ts) = stays (f t.variable) t.weight (terms_left f ts)

unfoldable pub put_in : (ℕ → Becomes) → Rule → Rule
put_in f r =
    record {
      lower = map_bound (λ l. l -ℤ given_total f r.terms) r.lower;
      upper = map_bound (λ u. u -ℤ given_total f r.terms) r.upper;
      terms = terms_left f r.terms;
    }

-- "A rule is judged by its least and greatest sum alone." "a rule that no values can meet" is one that is not possible.
unfoldable pub possible : Rule → Bool
possible r = at_least r.lower (greatest_total r.terms) and at_most r.upper (least_total r.terms)

-- "a rule that all values meet"
unfoldable pub always : Rule → Bool
always r = at_least r.lower (least_total r.terms) and at_most r.upper (greatest_total r.terms)

-- "drop a bound that all values of the remaining variables meet"
unfoldable pub trimmed : Rule → Rule
trimmed r =
    record {
      lower = cond (at_least r.lower (least_total r.terms)) absent r.lower;
      upper = cond (at_most r.upper (greatest_total r.terms)) absent r.upper;
      terms = r.terms;
    }

-- "drop a rule that no values can meet"
unfoldable pub rules_left : (ℕ → Becomes) → Clause → Clause
rules_left f c = map trimmed (keep possible (map (put_in f) c))

-- "drop a clause with a rule that all values meet"
unfoldable pub remains : (ℕ → Becomes) → Clause → Bool
remains f c = not (any always (map (put_in f) c))

unfoldable pub clauses_left : (ℕ → Becomes) → List Clause → List Clause
clauses_left f cs = map (rules_left f) (keep (remains f) cs)

-- The whole: "leave out the lock field".
unfoldable pub squeezed : Plan → Plan
squeezed p =
    record {
      variables = length (unlocked p);
      objective = terms_left (becomes p) p.objective;
      locks = [];
      clauses = clauses_left (becomes p) p.clauses;
    }

-- "the objective's constant"
unfoldable pub constant : Plan → ℤ
constant p = given_total (becomes p) p.objective

-- "71 if every variable is locked, then 72 if a clause lost all rules"
unfoldable pub all_locked : Plan → Bool
all_locked p = is_empty (unlocked p)

unfoldable pub clause_lost : Plan → Bool
clause_lost p = any is_empty (squeezed p).clauses
