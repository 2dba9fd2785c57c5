-- A flip on what is kept.
-- Assumes nothing.
use Rattle.std.specs.Prelude.{ℕ, ◌≡◌, List, length, take, drop}
use Rattle.plpb.specs.Plan.{Plan, Assignment}
use Rattle.plpb.specs.Tallies.{fresh_count}
use Rattle.format.specs.Tables.{plan_of_tables}
use Rattle.tallies.specs.Layout.{tally_size, tally_bytes}
use Rattle.recount.specs.Core.{Flippable}
use Rattle.flips.specs.Passing.{Followable}
use Rattle.columns.specs.Layout.{kept_size}
use Rattle.columns.specs.Columns.{Sized, Needed, Weighed}

-- What it takes: what a flip along the run takes, and that what is kept is right. Of the bits after the flip, and of the assignment before it.
pub record Followed (tables terms marks bits tallies : List ℕ) (x : ℕ) : Type 0 where
  pub follow : Followable tables terms bits tallies x
  pub sized : Sized (plan_of_tables tables terms) tallies
  pub needed : Needed (plan_of_tables tables terms) tallies
  pub weighed : Weighed (plan_of_tables tables terms) marks

pub record Keepable (tables terms marks assignment tallies : List ℕ) (x : ℕ) : Type 0 where
  pub flip : Flippable tables terms assignment tallies x
  pub sized : Sized (plan_of_tables tables terms) tallies
  pub needed : Needed (plan_of_tables tables terms) tallies
  pub weighed : Weighed (plan_of_tables tables terms) marks

-- What it leaves: the fresh count of an assignment, and what is kept is right again. What stands past it is as it was.
pub record Kept (p : Plan) (a : Assignment) (s t : List ℕ) : Type 0 where
  pub fresh : take tally_size t ≡ tally_bytes (fresh_count p a)
  pub sized : Sized p t
  pub needed : Needed p t
  pub size : length t ≡ length s
  pub beyond : drop kept_size t ≡ drop kept_size s
