-- The numbers of document 01 for what a call is refused for, and 0 where it is not refused; and what is lent to a call.
-- Assumes nothing.
use Rattle.std.specs.Prelude.{ℕ, List, ◌≡◌, Result, Ok, Err, IfOk}
use Rattle.recount.specs.declared.tables.Tables.{Tables}
use Rattle.tallies.specs.Calls.{lent}
use Rattle.tallies.specs.Calls.{Lent as LentOf}
use Rattle.calls.specs.declared.tests.Lent.{Lent}
use Rattle.calls.specs.declared.tests.Refusal.{Refusal}
use Rattle.calls.specs.declared.tests.Refusal.TheVariants.{TooSmall, NotLoaded, NoVariable, NotBits, Stale, Locked}

abbrev pub number_of : Refusal → ℕ
number_of TooSmall = 21
number_of NotLoaded = 22
number_of NoVariable = 23
number_of NotBits = 24
number_of Stale = 25
number_of Locked = 26

abbrev pub refusal_of : Result Tables Refusal → ℕ
refusal_of (Ok t) = 0
refusal_of (Err r) = number_of r

-- What a test answers: the refusal that is due, and else the two tables, which hold a plan.
pub record Tested (k : ℕ) (tables terms : List ℕ) (r : Result Tables Refusal) : Type 0 where
  pub number : refusal_of r ≡ k
  pub handed : IfOk r (λ t. (t.tables.now ≡ tables) × (t.terms.now ≡ terms))

-- What a Lent of the code lends.
abbrev pub lent_in : Lent → LentOf
lent_in l = lent l.tables.now l.terms.now l.assignment.now l.tallies.now
