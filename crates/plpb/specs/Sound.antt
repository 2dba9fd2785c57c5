-- What is claimed of a search (the owner's demand 2): "A plan handed out satisfies every clause and costs less than the one before it.
-- 'None' is said only where that walk found none."
-- Assumes nothing.
use Rattle.std.specs.Prelude.{ℕ, zero, suc, Bool, true, false, not, cond, List, [], ◌∷◌, ◌≡◌, ◌↔◌, T, eqb, length, take}
use Rattle.std.specs.Int.Signed.{lt_z}
use Rattle.plpb.specs.Lists.{◌and◌, any, all, is_empty}
use Rattle.plpb.specs.Plan.{Plan, Assignment, obeys, satisfies, cost, floor_cost}
use Rattle.plpb.specs.Walk.{Mark, at, Outcome, ends, short, run, looks}
use Rattle.plpb.specs.Settings.{Settings}
use Rattle.plpb.specs.Try.{Try}
use Rattle.plpb.specs.Search.{failed, reached, Turn, stuck, turned, move, flipping, call, Ending, floor, ended, none, short_found, short_none, begin, search_walk, last_find, cost_of, search}

-- How far a walk came, whether it ended or the numbers were gone.
unfoldable pub mark_of : {A : Type 0} → Outcome A → Mark
mark_of (ends a m) = m
mark_of (short m) = m

-- The finds of a search, the last one first.
unfoldable pub finds_of : Settings → Plan → List ℕ → List Assignment
finds_of s p ns = (mark_of (run (search_walk s p) ns begin)).finds

-- The assignments that a search looked at, in order.
unfoldable pub looks_of : Settings → Plan → List ℕ → List Assignment
looks_of s p ns = looks (search_walk s p) ns 0

-- A find costs less than the one before it, if there is one.
unfoldable pub costs_less : Plan → Assignment → List Assignment → Bool
costs_less p b [] = true
costs_less p b (a ∷ before) = lt_z (cost p b) (cost p a)

-- .. and so does each of some finds, the last one first.
unfoldable pub falling : Plan → List Assignment → Bool
falling p [] = true
falling p (b ∷ before) = costs_less p b before and falling p before

-- The endings that say that there is no plan: "none (first call failed)" and "short-none (numbers gone)".
unfoldable pub no_plan : Ending → Bool
no_plan floor = false
no_plan ended = false
no_plan none = true
no_plan short_found = false
no_plan short_none = true

pub record Sound (s : Settings) (p : Plan) (ns : List ℕ) : Type 0 where
  -- A plan handed out has a value for each variable,
  pub each_complete : T (all (λ a. eqb (length a) p.variables) (finds_of s p ns))
  -- "A plan handed out satisfies every clause"
  pub each_satisfies : T (all (λ a. satisfies a p) (finds_of s p ns))
  -- .. and gives each locked variable its value,
  pub each_obeys : T (all (λ a. obeys a p) (finds_of s p ns))
  -- "and costs less than the one before it."
  pub each_costs_less : T (falling p (finds_of s p ns))
  -- What is handed out is the last find, with its cost: "cost is 0 with nothing found."
  pub handed_out : (search s p ns).assignment ≡ last_find (finds_of s p ns)
  pub cost_stated : (search s p ns).cost ≡ cost_of p (search s p ns).assignment
  pub finds_counted : (search s p ns).finds ≡ length (finds_of s p ns)
  -- "'None' is said only where that walk found none": exactly where it noted no find ..
  pub none_found : no_plan (search s p ns).ending ≡ is_empty (finds_of s p ns)
  -- .. and exactly where no assignment that it looked at satisfies the plan.
  pub none_only : no_plan (search s p ns).ending ≡ not (any (λ a. satisfies a p) (looks_of s p ns))
  -- "none (first call failed)"
  pub none_exactly : ((search s p ns).ending ≡ none) ↔ ((m : Mark) × (run (call s p) ns begin ≡ ends failed m))
  -- "short-none (numbers gone)": before the first call returned.
  pub short_none_exactly : ((search s p ns).ending ≡ short_none) ↔ ((m : Mark) × (run (call s p) ns begin ≡ short m))
  -- "floor (v = l(O))": exactly where the last find costs l(O).
  pub floor_exactly : ((search s p ns).ending ≡ floor) ↔ ((a : Assignment) × ((search s p ns).assignment ≡ reached a) × (cost p a ≡ floor_cost p))

-- What follows a move, if it reached something.
unfoldable pub held_after : (Try → ℕ → List Assignment) → Outcome Turn → List Assignment
held_after next (ends (turned t) m) = next t m.used
held_after next (ends stuck m) = []
held_after next (short m) = []

-- The assignments that a try of so many flips holds: its start, then what each flip reaches.
unfoldable pub held : Settings → Plan → ℕ → Try → List ℕ → ℕ → List Assignment
held s p zero t ns used = t.bits ∷ []
held s p (suc left) t ns used =
    t.bits ∷ cond (satisfies t.bits p) [] (held_after (λ next u. held s p left next ns u) (run (move s p t) ns (at used 0 [])))

-- "The look comes before each flip, so what the last flip reaches is not looked at": of what a try of so many flips holds, it looks at so
-- many and no more, the start first.
abbrev pub LooksBeforeFlips : Type 0
LooksBeforeFlips = (s : Settings) (p : Plan) (flips : ℕ) (t : Try) (ns : List ℕ) (used : ℕ)
    → looks (flipping s p flips t) ns used ≡ take flips (held s p flips t ns used)
