-- What the walk's code answers and leaves, step by step, as the walk's definitions have it.
-- Assumes nothing.
use Rattle.std.specs.Prelude.{ℕ, ◌/◌, ◌≤◌, ◌≡◌, List, T, length, Result, Ok, Err}
use Rattle.plpb.specs.Plan.{Assignment, satisfies}
use Rattle.plpb.specs.Walk.{Walk, at, Outcome, ends, short, run}
use Rattle.plpb.specs.Search.{Reached, failed, reached}
use Rattle.format.specs.Tables.{plan_of_tables}
use Rattle.lending.specs.Work.{Work, Beyond}
use Rattle.tallies.specs.Layout.{are_bits}
use Rattle.columns.specs.Layout.{column_size, kept_size}
use Rattle.recount.specs.Core.{Ready}
use Rattle.numbers.specs.Numbers.{numbers_of}
use Rattle.moves.specs.declared.Stop.{Stop}
use Rattle.moves.specs.declared.Stop.TheVariants as stop
use Rattle.tries.specs.declared.Spent.{Spent}
use Rattle.moves.specs.Moves.{Unmoved, bits_in, Prepared}

-- Why a try or a call reached no assignment, with what is spent then.
abbrev pub Unreached : Type 0
Unreached = Stop Spent

-- There is room for an assignment, its tallies and the marks, with all that is kept behind them.
pub record Startable (tables terms : List ℕ) (w : Work) : Type 0 where
  pub ready : Ready tables terms w.assignment
  pub room : kept_size ≤ length w.tallies
  pub columns : column_size ≤ length w.marks

-- What a try or a call comes to, with the finds before it and the assignment that it leaves.
unfoldable pub tried_of : Result Spent Unreached → Assignment → List Assignment → Outcome Reached
tried_of (Ok t) b fs = ends (reached b) (at t.used t.flips fs)
tried_of (Err (stop.Failed t)) b fs = ends failed (at t.used t.flips fs)
tried_of (Err (stop.Short t)) b fs = short (at t.used t.flips fs)

-- How a try ends where no flip was made.
unfoldable pub stopped_at : Unmoved → ℕ → Unreached
stopped_at (stop.Failed used) flips = stop.Failed (record { used = used; flips = flips })
stopped_at (stop.Short used) flips = stop.Short (record { used = used; flips = flips })

unfoldable pub spent_by : Result Spent Unreached → Spent
spent_by (Ok t) = t
spent_by (Err (stop.Failed t)) = t
spent_by (Err (stop.Short t)) = t

abbrev pub used_by : Result Spent Unreached → ℕ
used_by r = (spent_by r).used

abbrev pub flips_by : Result Spent Unreached → ℕ
flips_by r = (spent_by r).flips

-- Something holds if an assignment was reached.
unfoldable pub IfReached : Result Spent Unreached → Type 0 → Type 0
IfReached (Ok t) A = A
IfReached (Err e) A = Unit {0}

-- What is known of a reached assignment: its bytes are bits, it satisfies the plan, and `least` numbers at least were used.
pub record Finds (tables terms : List ℕ) (least used : ℕ) (v : Work) : Type 0 where
  pub bits : T (are_bits (plan_of_tables tables terms).variables v.assignment)
  pub satisfied : T (satisfies (bits_in tables terms v) (plan_of_tables tables terms))
  pub uses : least ≤ used

pub record Tries (walk : Walk Reached) (tables terms numbers : List ℕ) (used flips least : ℕ) (r : Result Spent Unreached) (w v : Work) : Type 0 where
  pub outcome : (fs : List Assignment) → run walk (numbers_of numbers) (at used flips fs) ≡ tried_of r (bits_in tables terms v) fs
  pub finds : IfReached r (Finds tables terms least (used_by r) v)
  pub uses : used ≤ used_by r
  pub within : used_by r ≤ length numbers / 4
  pub flipped : flips_by r ≤ used_by r
  pub prepared : Prepared tables terms v
  pub beyond : Beyond (plan_of_tables tables terms).variables w v
