-- A rule as it stands under an assignment, seen from one variable, as the code has it.
-- Assumes nothing.
use Rattle.std.specs.Prelude.{ℕ, ◌+◌, ◌-◌, ◌≤◌, ◌<◌, ◌≡◌, Bool}
use Rattle.plpb.specs.Lists.{◌and◌}
use Rattle.plpb.specs.Plan.{Rule, Assignment}
use Rattle.plpb.specs.Normal.{N, P, size_a, size_b, below_size}
use Rattle.plpb.specs.Equations.{Standing, out, on, off, standing, shares, lost, gained}
use Rattle.plpb.specs.Equations.{Shares as SharesOf}
use Rattle.counting.specs.Bound.{bound_of}
use Rattle.rules.specs.declared.entry.Entry.{Entry}
use Rattle.rules.specs.declared.sums.Sums.{Sums}
use Rattle.rules.specs.declared.place.Stands.{Stands}
use Rattle.rules.specs.declared.place.Stands.TheVariants.{Out}
use Rattle.rules.specs.declared.state.State.{State}
use Rattle.rules.specs.Places.{standing_in}
use Rattle.rules.specs.Rules.{lower_size, upper_size}

-- N and P together are a word, and the variable's weight is in the one or in the other.
pub record Balanced (s : State) : Type 0 where
  pub small : s.n + s.p < 4_294_967_296
  pub loses : lost (standing_in s.stands) ≤ s.p
  pub gains : gained (standing_in s.stands) ≤ s.n

-- This is the state of a rule q under an assignment, seen from x.
pub record StateOf (a : Assignment) (x : ℕ) (q : Rule) (s : State) : Type 0 where
  pub falses : s.n ≡ N a q.terms
  pub trues : s.p ≡ P a q.terms
  pub stands : standing_in s.stands ≡ standing a x q.terms
  pub lower : bound_of s.a ≡ size_a q
  pub upper : bound_of s.b ≡ size_b q
  pub balanced : Balanced s

-- What a state is made of.
pub record Made (e : Entry) (s : Sums) (r : State) : Type 0 where
  pub falses : r.n ≡ s.k - s.p
  pub trues : r.p ≡ s.p
  pub stands : r.stands ≡ Out
  pub lower : bound_of r.a ≡ lower_size (s.k - s.rise) (bound_of e.lower)
  pub upper : bound_of r.b ≡ upper_size s.rise (bound_of e.upper)

-- The same state seen from a variable that stands so.
pub record Seen (z : Stands) (s r : State) : Type 0 where
  pub falses : r.n ≡ s.n
  pub trues : r.p ≡ s.p
  pub stands : r.stands ≡ z
  pub lower : r.a ≡ s.a
  pub upper : r.b ≡ s.b

-- Whether a rule in this state holds, and its shares.
unfoldable pub holds_in : State → Bool
holds_in s = below_size s.n (bound_of s.a) and below_size s.p (bound_of s.b)

unfoldable pub shares_from : State → SharesOf
shares_from s = shares (standing_in s.stands) s.n s.p (bound_of s.a) (bound_of s.b)

-- Those of a rule that does not name the variable: a flip spoils and mends no part of it, and g of them stay unsatisfied.
unfoldable pub untouched : ℕ → SharesOf
untouched g = record { e = 0; f = 0; g = g }

unfoldable pub opposite : Standing → Standing
opposite out = out
opposite (on w) = off w
opposite (off w) = on w

-- What turning the variable over changes: its literal's weight goes from P to N, or from N to P.
pub record Turned (s r : State) : Type 0 where
  pub falses : r.n + gained (standing_in s.stands) ≡ s.n + lost (standing_in s.stands)
  pub trues : r.p + lost (standing_in s.stands) ≡ s.p + gained (standing_in s.stands)
  pub stands : standing_in r.stands ≡ opposite (standing_in s.stands)
  pub lower : r.a ≡ s.a
  pub upper : r.b ≡ s.b
  pub balanced : Balanced r
