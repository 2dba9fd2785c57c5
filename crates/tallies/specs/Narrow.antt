-- How little a call changes (document 01, "Tallies": "An accepted flip turns over one assignment byte and changes no tallies but those that
-- concern it: P of the rules naming that variable, the counts of their clauses, and the total. The same flip twice restores all."; demand 3:
-- "no other call changed assignment or tallies").
-- Assumes nothing.
use Rattle.std.specs.Prelude.{ℕ, suc, ◌-◌, ◌/◌, ◌≡◌, Bool, true, false, not, cond, List, map, eqb, length, get_or}
use Rattle.plpb.specs.Lists.{◌and◌}
use Rattle.plpb.specs.Plan.{Plan, named_in, names}
use Rattle.plpb.specs.Tallies.{rules_of}
use Rattle.plpb.specs.Book.{Call, flip_call, counts_call, Answer, refused, accepted, counted}
use Rattle.tallies.specs.Layout.{tally_order}
use Rattle.tallies.specs.Calls.{Lent, plan, answer, left_by}

-- Which rules of a plan name a variable, and which clauses.
unfoldable pub rules_naming : Plan → ℕ → List Bool
rules_naming p x = map (λ r. named_in x r.terms) (rules_of p)

unfoldable pub clauses_naming : Plan → ℕ → List Bool
clauses_naming p x = map (λ c. names c x) p.clauses

-- Whether a word of the tallies concerns a variable: "P of the rules naming that variable, the counts of their clauses, and the total".
unfoldable pub concerns : Plan → ℕ → ℕ → Bool
concerns p x word = get_or (tally_order false (rules_naming p x) (clauses_naming p x) true) word false

-- "A call not refused is accepted."
unfoldable pub is_refused : Answer → Bool
is_refused (refused n) = true
is_refused (accepted n) = false
is_refused (counted b m) = false

-- Whether a call was an accepted flip of a variable, by its answer.
unfoldable pub is_flip_of : ℕ → Call → Answer → Bool
is_flip_of x (flip_call y) r = eqb y x and not (is_refused r)
is_flip_of x (counts_call y) r = false

-- What a flip of a variable makes of what is lent, counted by a plan.
pub record Narrow (p : Plan) (x : ℕ) (l m : Lent) : Type 0 where
  -- Of the assignment the variable's byte is turned over and every other is as it was,
  pub one_byte : (i : ℕ) → get_or m.assignment i 0 ≡ cond (eqb (suc i) x) (1 - get_or l.assignment i 0) (get_or l.assignment i 0)
  -- of the tallies every byte is as it was but in a word that concerns the variable,
  pub other_tallies : (i : ℕ) → concerns p x (i / 4) ≡ false → get_or m.tallies i 0 ≡ get_or l.tallies i 0
  pub assignment_length : length m.assignment ≡ length l.assignment
  pub tallies_length : length m.tallies ≡ length l.tallies
  pub tables_kept : m.tables ≡ l.tables
  pub terms_kept : m.terms ≡ l.terms
  -- and the same flip is accepted again and restores all.
  pub accepted_again : is_refused (answer m (flip_call x)) ≡ false
  pub restored : left_by m (flip_call x) ≡ l

-- "Each accepted flip turned over its one variable and changed only tallies that concern it; no other call changed assignment or tallies."
pub record Step (p : Plan) (l : Lent) (c : Call) : Type 0 where
  pub flip_narrow : (x : ℕ) → is_flip_of x c (answer l c) ≡ true → Narrow p x l (left_by l c)
  pub others_nothing : ((x : ℕ) → is_flip_of x c (answer l c) ≡ false) → left_by l c ≡ l

-- It holds of every call on whatever is lent, for the plan in the tables.
abbrev pub EveryCall : Type 0
EveryCall = (l : Lent) (c : Call) → Step (plan l) l c
