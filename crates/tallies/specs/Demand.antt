-- Demand 3: one claim about a whole list of calls after an accepted opening (document 01, "Tallies").
-- Assumes nothing.
use Rattle.std.specs.Prelude.{ℕ, ◌+◌, ◌%◌, ◌≤◌, ◌≡◌, cond, ◌↔◌, ◌≢◌, List, [], ◌∷◌, length}
use Rattle.plpb.specs.Plan.{Plan, value}
use Rattle.plpb.specs.Tallies.{fresh_count}
use Rattle.plpb.specs.Book.{Call, Answer, Account, book}
use Rattle.format.specs.File.{read, accepted}
use Rattle.format.specs.Tables.{Holds}
use Rattle.tallies.specs.Layout.{tally_size, bits_of, bit_bytes, tally_bytes}
use Rattle.tallies.specs.Calls.{Lent, lent, told, open_refusal, open_tallies, answer, left_by}
use Rattle.tallies.specs.Narrow.{is_flip_of, Step}

-- A whole list of calls.
unfoldable pub answers : Lent → List Call → List Answer
answers l [] = []
answers l (c ∷ cs) = answer l c ∷ answers (left_by l c) cs

unfoldable pub after : Lent → List Call → Lent
after l [] = l
after l (c ∷ cs) = after (left_by l c) cs

-- What opening leaves: "the assignment and tables as they were lent".
unfoldable pub opened : Lent → Lent
opened l = lent l.tables l.terms l.assignment (open_tallies l)

-- How many accepted flips of a list named a variable.
unfoldable pub flips_of : ℕ → List Call → List Answer → ℕ
flips_of x (c ∷ cs) (r ∷ rs) = cond (is_flip_of x c r) 1 0 + flips_of x cs rs
flips_of x (c ∷ cs) [] = 0
flips_of x [] rs = 0

-- What each call of a list changes, on what the call before it left.
abbrev pub EachStep : Plan → Lent → List Call → Type 0
EachStep p l [] = Unit {0}
EachStep p l (c ∷ cs) = Step p l c × EachStep p (left_by l c) cs

-- What a whole list leaves, opening before it, and the book's account of the same list.
abbrev pub end : Lent → List Call → Lent
end l calls = after (opened l) calls

abbrev pub account : Plan → Lent → List Call → Account
account p l calls = book p (bits_of p.variables l.assignment) calls

-- "After the list, the answers are the book's, the first n assignment bytes its bits, the tallies their fresh count with 0 in unused
-- entries, and the tables, all other assignment bytes and every place past the full limits as lent to opening." "In the tally statement a flip of
-- a locked variable is one of the refused calls" (T-01).
pub record Agrees (p : Plan) (l : Lent) (calls : List Call) : Type 0 where
  pub same_answers : answers (opened l) calls ≡ (account p l calls).answers
  pub same_state : end l calls ≡ told p l (account p l calls).bits
  -- The bits are n in number, and their fresh count reaches to the full limits.
  pub bits_size : length (bit_bytes (account p l calls).bits) ≡ p.variables
  pub tallies_size : length (tally_bytes (fresh_count p (account p l calls).bits)) ≡ tally_size
  -- "a variable differs from its opened value exactly when an odd number of the accepted flips named it"
  pub odd_flips : (x : ℕ) → 1 ≤ x → x ≤ p.variables
      → (value (bits_of p.variables (end l calls).assignment) x ≢ value (bits_of p.variables l.assignment) x)
      ↔ (flips_of x calls (answers (opened l) calls) % 2 ≡ 1)
  -- "Each accepted flip turned over its one variable and changed only tallies that concern it; no other call changed assignment or tallies."
  pub each_step : EachStep p (opened l) calls

-- Demand 3, for every file whose accepted loading leaves the tables opened, every accepted opening and every list of calls.
abbrev pub Demand3 : Type 0
Demand3 = (file : List ℕ) (p : Plan) (l : Lent) (calls : List Call)
    → read file ≡ accepted p
    → Holds p l.tables l.terms
    → open_refusal l ≡ 0
    → Agrees p l calls
