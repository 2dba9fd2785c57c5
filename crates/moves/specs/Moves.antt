-- What one step of the walk answers and leaves, as the walk's definitions have it.
-- Assumes nothing.
use Rattle.std.specs.Prelude.{ℕ, suc, ◌+◌, ◌/◌, ◌≤◌, ◌≡◌, List, [], T, length, get_or, take, Result, Ok, Err}
use Rattle.plpb.specs.Plan.{Assignment}
use Rattle.plpb.specs.Tallies.{fresh_count}
use Rattle.plpb.specs.Walk.{Walk, at, Outcome, ends, short, run}
use Rattle.plpb.specs.Settings.{Settings}
use Rattle.plpb.specs.Try.{Try}
use Rattle.plpb.specs.Choice.{choosable}
use Rattle.plpb.specs.Search.{Turn, stuck, turned, turning, move}
use Rattle.format.specs.Tables.{plan_of_tables}
use Rattle.stamps.specs.Stamps.{Stamped}
use Rattle.lending.specs.Work.{Work, Beyond}
use Rattle.tallies.specs.Layout.{tally_size, bits_of, are_bits, tally_bytes}
use Rattle.recount.specs.Core.{Ready}
use Rattle.columns.specs.Columns.{Hinted, Listed, Needed, Sized, Weighed}
use Rattle.numbers.specs.Numbers.{numbers_of}
use Rattle.moves.specs.declared.Stop.{Stop}
use Rattle.moves.specs.declared.Stop.TheVariants as stop

-- Why no flip was made, with how many numbers are used then.
abbrev pub Unmoved : Type 0
Unmoved = Stop ℕ

-- The variables of the plan that two tables hold, as an assignment gives them.
abbrev pub bits_in : List ℕ → List ℕ → Work → Assignment
bits_in tables terms w = bits_of (plan_of_tables tables terms).variables w.assignment

-- .. and the try that holds them, after some flips.
abbrev pub try_in : List ℕ → List ℕ → List ℕ → Work → Try
try_in tables terms flips w = record { bits = bits_in tables terms w; flips = flips }

-- What the walk keeps of the plan alone, and the hints.
pub record Prepared (tables terms : List ℕ) (w : Work) : Type 0 where
  pub sized : Sized (plan_of_tables tables terms) w.tallies
  pub weighed : Weighed (plan_of_tables tables terms) w.marks
  pub hinted : Hinted (plan_of_tables tables terms) w.marks
  pub listed : Listed (plan_of_tables tables terms) w.marks

-- A try has begun: the tallies are those of the assignment, and what is kept is right.
pub record Walking (tables terms : List ℕ) (w : Work) : Type 0 where
  pub ready : Ready tables terms w.assignment
  pub bits : T (are_bits (plan_of_tables tables terms).variables w.assignment)
  pub fresh : take tally_size w.tallies ≡ tally_bytes (fresh_count (plan_of_tables tables terms) (bits_in tables terms w))
  pub prepared : Prepared tables terms w
  pub needed : Needed (plan_of_tables tables terms) w.tallies

-- A move's outcome, with the try that it reaches and the flips and finds before it.
unfoldable pub moved_of : Result ℕ Unmoved → Try → ℕ → List Assignment → Outcome Turn
moved_of (Ok used) t f fs = ends (turned t) (at used (f + 1) fs)
moved_of (Err (stop.Failed used)) t f fs = ends stuck (at used f fs)
moved_of (Err (stop.Short used)) t f fs = short (at used f fs)

unfoldable pub used_in : Result ℕ Unmoved → ℕ
used_in (Ok used) = used
used_in (Err (stop.Failed used)) = used
used_in (Err (stop.Short used)) = used

-- Something holds if a flip was made.
unfoldable pub IfMade : Result ℕ Unmoved → Type 0 → Type 0
IfMade (Ok used) A = A
IfMade (Err e) A = Unit {0}

-- A walk from the try that w holds after some flips comes to this move, and v holds the try then. The stamps go on to be those of its flips.
pub record Reaches (walk : Try → Walk Turn) (tables terms numbers : List ℕ) (used : ℕ) (flips : List ℕ) (r : Result ℕ Unmoved) (w v : Work) : Type 0 where
  pub next : List ℕ
  pub outcome : (f : ℕ) (fs : List Assignment)
      → run (walk (try_in tables terms flips w)) (numbers_of numbers) (at used f fs) ≡ moved_of r (try_in tables terms next v) f fs
  pub stamped : IfMade r (Stamped (plan_of_tables tables terms).variables next v.marks × (length next ≡ suc (length flips)))

-- A walk from a try comes to this move and leaves v, whatever flips the try has made, `turn` of them, if the stamps are theirs. It uses `least` numbers
-- at least, if it makes a flip.
pub record Turns (walk : Try → Walk Turn) (tables terms numbers : List ℕ) (used least turn : ℕ) (r : Result ℕ Unmoved) (w v : Work) : Type 0 where
  pub reaches : (flips : List ℕ) → Stamped (plan_of_tables tables terms).variables flips w.marks → length flips ≡ turn
      → Reaches walk tables terms numbers used flips r w v
  pub walking : IfMade r (Walking tables terms v × (used + least ≤ used_in r))
  pub prepared : Prepared tables terms v
  pub uses : used ≤ used_in r
  pub within : used_in r ≤ length numbers / 4
  pub beyond : Beyond (plan_of_tables tables terms).variables w v

-- A clause has been picked: a variable of it is chosen and flipped.
abbrev pub InClause : Settings → List ℕ → List ℕ → List ℕ → ℕ → ℕ → ℕ → Result ℕ Unmoved → Work → Work → Type 0
InClause s tables terms numbers used turn c r w v =
    let p = plan_of_tables tables terms in
    Turns (λ t. turning s p t (choosable p (get_or p.clauses c []))) tables terms numbers used 0 turn r w v

abbrev pub Moves : Settings → List ℕ → List ℕ → List ℕ → ℕ → ℕ → Result ℕ Unmoved → Work → Work → Type 0
Moves s tables terms numbers used turn r w v = Turns (move s (plan_of_tables tables terms)) tables terms numbers used 1 turn r w v
