-- What the tightening's code needs of the tables that it bounds, and what it answers and leaves, as the search's definitions have it.
-- Assumes nothing.
use Rattle.std.specs.Prelude.{ℕ, suc, ◌+◌, ◌-◌, ◌/◌, ◌≤◌, ◌<◌, ◌≡◌, List, ◌∷◌, T, ℤ, nat_abs, length, take, drop, Result, Ok, Err}
use Rattle.plpb.specs.Plan.{Plan, Assignment, obeys, satisfies, cost}
use Rattle.plpb.specs.Walk.{Walk, Outcome, ends, short, run}
use Rattle.plpb.specs.Settings.{Mode, Settings}
use Rattle.plpb.specs.Search.{Reached, failed, reached, call, tightened, Ending, floor, ended, none, short_found, short_none, gap, descending, tighten, Answer, conclude}
use Rattle.plpb.specs.Walk.{at}
use Rattle.format.specs.Limits.{lawful, max_bound}
use Rattle.format.specs.Tables.{Holds, plan_of_tables, table_size}
use Rattle.tallies.specs.Layout.{bits_of, are_bits}
use Rattle.numbers.specs.Numbers.{numbers_of}
use Rattle.progress.specs.declared.Progress.{Progress}
use Rattle.moves.specs.declared.Stop.{Stop}
use Rattle.moves.specs.declared.Stop.TheVariants as stop
use Rattle.progress.specs.declared.Ending.{Ending as EndingOf}
use Rattle.progress.specs.declared.Ending.TheVariants as code
use Rattle.progress.specs.declared.Searched.{Searched}
use Rattle.lending.specs.Work.{Work, Beyond}
use Rattle.columns.specs.Layout.{column_size, kept_size}

-- Why a tightening has no further find, with how far the search has come.
abbrev pub Halt : Type 0
Halt = Stop Progress

-- A plan without the added last clause.
unfoldable pub untightened : Plan → Plan
untightened q =
    record { variables = q.variables; objective = q.objective; locks = q.locks; clauses = take (length q.clauses - 1) q.clauses }

-- The plan that is searched, in tables that hold it with an added clause.
unfoldable pub basis : List ℕ → List ℕ → Plan
basis tables terms = untightened (plan_of_tables tables terms)

-- Two tables hold a lawful plan that has something to make small, with an added clause.
pub record Bounded (p : Plan) (tables terms : List ℕ) : Type 0 where
  pub lawful : T (lawful p)
  pub some : 0 < length p.objective
  pub bound : ℤ
  pub within : nat_abs bound ≤ max_bound
  pub holds : Holds (tightened p bound) tables terms

-- Where a search stands after a find: it obeys the locks, its cost, and numbers enough were used for what is counted.
pub record Tracks (p : Plan) (numbers assignment : List ℕ) (t : Progress) : Type 0 where
  pub bits : T (are_bits p.variables assignment)
  pub obeyed : T (obeys (bits_of p.variables assignment) p)
  pub costs : t.cost ≡ cost p (bits_of p.variables assignment)
  pub finds : t.finds ≤ t.spent.used
  pub flips : t.spent.flips ≤ t.spent.used
  pub within : t.spent.used ≤ length numbers / 4

-- All that the tightening writes besides the find: the tables' bound and the walk's buffers.
pub record Room (p : Plan) (tables terms assignment : List ℕ) (w : Work) : Type 0 where
  pub bounded : Bounded p tables terms
  pub find : p.variables ≤ length assignment
  pub tried : p.variables ≤ length w.assignment
  pub tallies : kept_size ≤ length w.tallies
  pub marks : column_size ≤ length w.marks

-- .. and what it leaves as it was.
pub record Leaves (p : Plan) (tables terms tables' assignment assignment' : List ℕ) (w w' : Work) : Type 0 where
  pub bounded : Bounded p tables' terms
  pub table : drop table_size tables' ≡ drop table_size tables
  pub find : drop p.variables assignment' ≡ drop p.variables assignment
  pub beyond : Beyond p.variables w w'

-- What one call with the added clause comes to.
unfoldable pub called_of : Result Progress Halt → Assignment → List Assignment → Outcome Reached
called_of (Ok t) b fs = ends (reached b) (at t.spent.used t.spent.flips fs)
called_of (Err (stop.Failed t)) b fs = ends failed (at t.spent.used t.spent.flips fs)
called_of (Err (stop.Short t)) b fs = short (at t.spent.used t.spent.flips fs)

unfoldable pub progress_in : Result Progress Halt → Progress
progress_in (Ok t) = t
progress_in (Err (stop.Failed t)) = t
progress_in (Err (stop.Short t)) = t

-- A find meets the bound and is one more; else the assignment and its count are as they were.
unfoldable pub FindOr : Plan → ℕ → List ℕ → List ℕ → Result Progress Halt → Type 0
FindOr q finds entry exit (Ok t) = (t.finds ≡ finds + 1) × T (satisfies (bits_of q.variables exit) q)
FindOr q finds entry exit (Err (stop.Failed t)) = (t.finds ≡ finds) × (exit ≡ entry)
FindOr q finds entry exit (Err (stop.Short t)) = (t.finds ≡ finds) × (exit ≡ entry)

pub record CallsUnder (s : Settings) (p : Plan) (m : ℤ) (numbers : List ℕ) (from : Progress) (r : Result Progress Halt) (entry exit : List ℕ) : Type 0 where
  pub outcome :
      (fs : List Assignment) → run (call s (tightened p m)) (numbers_of numbers) (at from.spent.used from.spent.flips fs)
      ≡ called_of r (bits_of p.variables exit) fs
  pub find : FindOr (tightened p m) from.finds entry exit r
  pub tracks : Tracks p numbers exit (progress_in r)

-- The endings of the code.
unfoldable pub ending_of : EndingOf → Ending
ending_of code.Floor = floor
ending_of code.Ended = ended
ending_of code.None = none
ending_of code.ShortFound = short_found
ending_of code.ShortNone = short_none

-- The endings by number; 0 stands for a search that was refused.
unfoldable pub ending_number : Ending → ℕ
ending_number floor = 1
ending_number ended = 2
ending_number none = 3
ending_number short_found = 4
ending_number short_none = 5

-- The answer that the code gives, with the assignment that it leaves.
unfoldable pub answer_of : EndingOf → Progress → Reached → Answer
answer_of e t b =
    record { ending = ending_of e; cost = t.cost; finds = t.finds; flips = t.spent.flips; used = t.spent.used; assignment = b }

-- Tightening from a find a, with so many finds before it in all, comes to an answer.
abbrev pub Concludes : (Plan → ℕ → Assignment → Walk Ending) → Plan → List ℕ → Progress → Assignment → Answer → Type 0
Concludes w p numbers t a r =
    (left : ℕ) (fs : List Assignment) → gap p a ≤ left → suc (length fs) ≡ t.finds
    → conclude p (run (w p left a) (numbers_of numbers) (at t.spent.used t.spent.flips (a ∷ fs))) ≡ r

-- A tightening in one mode from a find a, with b the last find: at the floor or short of numbers it comes to this answer whatever would follow
-- its failure, and where it failed to what follows from there.
unfoldable pub Descends : Settings → Mode → Plan → List ℕ → Progress → Assignment → Assignment → Result Progress Halt → Type 0
Descends s mode p numbers from a b (Ok t) =
    (o : Plan → ℕ → Assignment → Walk Ending) → Concludes (λ q. descending s q mode (o q)) p numbers from a (answer_of code.Floor t (reached b))
Descends s mode p numbers from a b (Err (stop.Short t)) =
    (o : Plan → ℕ → Assignment → Walk Ending) → Concludes (λ q. descending s q mode (o q)) p numbers from a (answer_of code.ShortFound t (reached b))
Descends s mode p numbers from a b (Err (stop.Failed t)) =
    (o : Plan → ℕ → Assignment → Walk Ending) (r : Answer) → Concludes o p numbers t b r → Concludes (λ q. descending s q mode (o q)) p numbers from a r

-- How a tightening ends where nothing follows its failure.
unfoldable pub StoppedAt : Result Progress Halt → Searched → Type 0
StoppedAt (Ok t) r = (r.ending ≡ code.Floor) × (r.progress ≡ t)
StoppedAt (Err (stop.Failed t)) r = (r.ending ≡ code.Ended) × (r.progress ≡ t)
StoppedAt (Err (stop.Short t)) r = (r.ending ≡ code.ShortFound) × (r.progress ≡ t)

-- What the code does with the tables that hold the plan with an added clause: p is the plan without it.
abbrev pub UnderBound : Settings → ℤ → (tables terms numbers : List ℕ) → Progress → Result Progress Halt →
    (tables' assignment assignment' : List ℕ) → (w w' : Work) → Type 0
UnderBound s m tables terms numbers from r tables' assignment assignment' w w' =
    CallsUnder s (basis tables terms) m numbers from r assignment assignment'
    × Leaves (basis tables terms) tables terms tables' assignment assignment' w w'

abbrev pub Descent : Settings → Mode → (tables terms numbers : List ℕ) → Progress → Result Progress Halt →
    (tables' assignment assignment' : List ℕ) → (w w' : Work) → Type 0
Descent s mode tables terms numbers from r tables' assignment assignment' w w' =
    let p = basis tables terms in
    Descends s mode p numbers from (bits_of p.variables assignment) (bits_of p.variables assignment') r
    × Tracks p numbers assignment' (progress_in r)
    × Leaves p tables terms tables' assignment assignment' w w'

abbrev pub Tightens : Settings → (tables terms numbers : List ℕ) → Progress → Searched → (tables' assignment assignment' : List ℕ) → (w w' : Work) → Type 0
Tightens s tables terms numbers from r tables' assignment assignment' w w' =
    let p = basis tables terms in
    Concludes (tighten s.mode s) p numbers from (bits_of p.variables assignment)
    (answer_of r.ending r.progress (reached (bits_of p.variables assignment')))
    × Tracks p numbers assignment' r.progress
    × Leaves p tables terms tables' assignment assignment' w w'
