-- What the walk stands on, and a place of a variable's run in it.
-- Assumes nothing.
use Rattle.std.specs.Prelude.{ℕ, ◌-◌, ◌%◌, ◌≤◌, ◌<◌, ◌≡◌, cond, List, T, eqb, get_or, take}
use Rattle.plpb.specs.Plan.{Bound, absent, present, Rule, Assignment}
use Rattle.plpb.specs.Equations.{Standing, on, off}
use Rattle.plpb.specs.Tallies.{fresh_count}
use Rattle.counting.specs.Bound.{bound_of}
use Rattle.order.specs.Order.{Place, order, run_end, rule_at}
use Rattle.format.specs.Tables.{plan_of_tables}
use Rattle.format.specs.Layout.{rule_room}
use Rattle.rules.specs.declared.place.Stands.{Stands}
use Rattle.rules.specs.declared.state.State.{State}
use Rattle.tallies.specs.Layout.{tally_size, bits_of, are_bits, tally_bytes}
use Rattle.recount.specs.Core.{Ready}
use Rattle.columns.specs.Layout.{total_at, lower_size_at, upper_size_at}
use Rattle.columns.specs.Columns.{never, Sized, Needed, Weighed, no_place}

-- The assignment that is lent: a byte for each variable of the plan that two tables hold.
abbrev pub lent_bits : List ℕ → List ℕ → List ℕ → Assignment
lent_bits tables terms assignment = bits_of (plan_of_tables tables terms).variables assignment

-- The tallies are those of the assignment, and the columns those of the plan.
pub record Walkable (tables terms assignment tallies marks : List ℕ) : Type 0 where
  pub ready : Ready tables terms assignment
  pub bits : T (are_bits (plan_of_tables tables terms).variables assignment)
  pub fresh : take tally_size tallies ≡ tally_bytes (fresh_count (plan_of_tables tables terms) (lent_bits tables terms assignment))
  pub sized : Sized (plan_of_tables tables terms) tallies
  pub needed : Needed (plan_of_tables tables terms) tallies
  pub weighed : Weighed (plan_of_tables tables terms) marks

-- Place k of the order, and its rule.
abbrev pub place_at : List ℕ → List ℕ → ℕ → Place
place_at tables terms k = get_or (order (plan_of_tables tables terms)) k no_place

abbrev pub place_rule : List ℕ → List ℕ → ℕ → Rule
place_rule tables terms k = rule_at (plan_of_tables tables terms) (place_at tables terms k).rule

-- A variable of the plan, of which the run is gone through.
pub record Going (tables terms assignment tallies marks : List ℕ) (x : ℕ) : Type 0 where
  pub kept : Walkable tables terms assignment tallies marks
  pub low : 1 ≤ x
  pub high : x ≤ (plan_of_tables tables terms).variables

-- Place k is one of its run.
pub record Visited (tables terms assignment tallies marks : List ℕ) (x k : ℕ) : Type 0 where
  pub going : Going tables terms assignment tallies marks x
  pub first : run_end (plan_of_tables tables terms) (x - 1) ≤ k
  pub last : k < run_end (plan_of_tables tables terms) x

-- The bound that a word of a size stands for.
unfoldable pub size_in : ℕ → Bound ℕ
size_in w = cond (eqb w never) absent (present w)

-- What reading a rule's state needs: its words are there, and P is a part of K.
pub record Countable (f : ℕ → ℕ) (r : ℕ) : Type 0 where
  pub few : r < rule_room
  pub part : f r ≤ f (total_at r)

-- The state that the words of rule r tell, seen from a variable that stands so.
pub record Told (f : ℕ → ℕ) (r : ℕ) (z : Stands) (s : State) : Type 0 where
  pub falses : s.n ≡ f (total_at r) - f r
  pub trues : s.p ≡ f r
  pub stands : s.stands ≡ z
  pub lower : bound_of s.a ≡ size_in (f (lower_size_at r))
  pub upper : bound_of s.b ≡ size_in (f (upper_size_at r))

-- How a variable stands on a side of a rule: the odd ones are those of true literals.
unfoldable pub stands_on : ℕ → ℕ → Standing
stands_on side w = cond (eqb (side % 2) 1) (on w) (off w)
