-- The search: Algorithm 1 of paper 004 under the tightening of paper 000 (document 01, "The walk").
-- Assumes nothing.
use Rattle.std.specs.Prelude.{ℕ, zero, suc, ◌/◌, Bool, cond, List, [], ◌∷◌, ◌++◌, ℤ, pos, negsuc, nat_abs, ◌+ℤ◌, ◌-ℤ◌, ◌*ℤ◌, length}
use Rattle.std.specs.Int.Signed.{le_z}
use Rattle.plpb.specs.Lists.{◌and◌, keep, is_empty}
use Rattle.plpb.specs.Plan.{absent, present, Plan, Assignment, satisfies, cost, least_total, floor_cost}
use Rattle.plpb.specs.Tallies.{unsatisfied}
use Rattle.plpb.specs.Numbers.{start_words}
use Rattle.plpb.specs.Walk.{Walk, done, words, look, flipped, found, ◌>>=◌, Mark, Outcome, ends, short, run}
use Rattle.plpb.specs.Settings.{Mode, linear, lbs, Settings}
use Rattle.plpb.specs.Try.{Try, begun, turn_over}
use Rattle.plpb.specs.Choice.{choosable, pick_from, choice}

-- What one call returns: an assignment, or nothing.
pub data Reached : Type 0 where
  failed : Reached
  reached : Assignment → Reached

-- What a move comes to: a flip, or nothing where the clause has no variable to choose.
pub data Turn : Type 0 where
  stuck : Turn
  turned : Try → Turn

-- "choose a variable of it; flip" (Algorithm 1, lines 6 and 7); "if it has none, that try ends with the clause pick used"
unfoldable pub turning : Settings → Plan → Try → List ℕ → Walk Turn
turning s p t xs =
    let on = choice s p t xs >>= (λ x. flipped (done (turned (turn_over t x)))) in
    cond (is_empty xs) (done stuck) on

-- "pick an unsatisfied clause" (Algorithm 1, line 5), then turn over a variable of it
unfoldable pub move : Settings → Plan → Try → Walk Turn
move s p t = do
  c ← pick_from [] (keep (unsatisfied t.bits) p.clauses)
  turning s p t (choosable p c)

-- A try goes on from what its move reached, and ends where it is stuck.
unfoldable pub go_on : (Try → Walk Reached) → Turn → Walk Reached
go_on next stuck = done failed
go_on next (turned t) = next t

-- "for each of the allowed flips: if no clause is unsatisfied, return; [..] The look comes before each flip, so what the last flip
-- reaches is not looked at"
unfoldable pub flipping : Settings → Plan → ℕ → Try → Walk Reached
flipping s p zero t = done failed
flipping s p (suc left) t =
    let on = move s p t >>= go_on (flipping s p left) in
    look t.bits (cond (satisfies t.bits p) (done (reached t.bits)) on)

-- One try: its start, then its flips.
unfoldable pub try : Settings → Plan → Walk Reached
try s p = words (start_words p.variables) (λ ws. flipping s p s.flips (begun p ws))

unfoldable pub or_else : Walk Reached → Reached → Walk Reached
or_else next failed = next
or_else next (reached a) = done (reached a)

-- "One call (004, Algorithm 1): for each try .."
unfoldable pub trying : Settings → Plan → ℕ → Walk Reached
trying s p zero = done failed
trying s p (suc left) = try s p >>= or_else (trying s p left)

unfoldable pub call : Settings → Plan → Walk Reached
call s p = trying s p s.tries

-- "the added last clause O ≤ m"
unfoldable pub tightened : Plan → ℤ → Plan
tightened p m = record {
  variables = p.variables;
  objective = p.objective;
  locks = p.locks;
  clauses = p.clauses ++ ((record { lower = absent; upper = present m; terms = p.objective } ∷ []) ∷ []);
}

-- A third, "rounded down, below zero as well": −1 is negsuc 0.
unfoldable pub third : ℤ → ℤ
third (pos n) = pos (n / 3)
third (negsuc n) = negsuc (n / 3)

-- "m = (l(O) + 2v)/3"
unfoldable pub lbs_bound : ℤ → ℤ → ℤ
lbs_bound l v = third (l +ℤ pos 2 *ℤ v)

-- "O ≤ v − 1"
unfoldable pub linear_bound : ℤ → ℤ
linear_bound v = v -ℤ pos 1

-- The bound that a find of cost v gives the next call.
unfoldable pub bound_in : Mode → ℤ → ℤ → ℤ
bound_in linear l v = linear_bound v
bound_in lbs l v = lbs_bound l v

-- "Endings: floor (v = l(O)), ended, none (first call failed), short-found, short-none (numbers gone)."
pub data Ending : Type 0 where
  floor : Ending
  ended : Ending
  none : Ending
  short_found : Ending
  short_none : Ending

-- "A found assignment of cost v with v = l(O) ends the search."
unfoldable pub at_floor : Plan → Assignment → Bool
at_floor p a = le_z (cost p a) (floor_cost p) and le_z (floor_cost p) (cost p a)

-- How far a cost is above the least that any values give: each find is nearer, so this bounds how many can follow.
unfoldable pub gap : Plan → Assignment → ℕ
gap p a = nat_abs (cost p a -ℤ least_total p.objective)

-- What follows one call with an added clause: its find is noted, or it failed.
unfoldable pub after : Walk Ending → (Assignment → Walk Ending) → Reached → Walk Ending
after otherwise next failed = otherwise
after otherwise next (reached b) = found b (next b)

-- Calls under the bound that the last find gives, until one fails. At most `left` further finds; with none possible the cost is l(O).
unfoldable pub descending : Settings → Plan → Mode → (ℕ → Assignment → Walk Ending) → ℕ → Assignment → Walk Ending
descending s p mode otherwise zero a = done floor
descending s p mode otherwise (suc left) a =
    let next = tightened p (bound_in mode (floor_cost p) (cost p a)) in
    let on = call s next >>= after (otherwise (suc left) a) (descending s p mode otherwise left) in
    cond (at_floor p a) (done floor) on

-- "linear: O ≤ v − 1, until a call fails"
unfoldable pub linear_search : Settings → Plan → ℕ → Assignment → Walk Ending
linear_search s p = descending s p linear (λ left a. done ended)

-- "LBS next calls with the added last clause O ≤ m [..]; after each find it repeats, and at the first failure goes over to linear"
unfoldable pub lbs_search : Settings → Plan → ℕ → Assignment → Walk Ending
lbs_search s p = descending s p lbs (linear_search s p)

unfoldable pub tighten : Mode → Settings → Plan → ℕ → Assignment → Walk Ending
tighten linear s p left a = linear_search s p left a
tighten lbs s p left a = lbs_search s p left a

-- "the first call has the plan alone"
unfoldable pub search_walk : Settings → Plan → Walk Ending
search_walk s p = call s p >>= after (done none) (λ a. tighten s.mode s p (gap p a) a)

-- "The answer also holds cost, finds, flips made and numbers used; cost is 0 with nothing found." The assignment: the last one found, or none.
pub record Answer : Type 0 where
  pub ending : Ending
  pub cost : ℤ
  pub finds : ℕ
  pub flips : ℕ
  pub used : ℕ
  pub assignment : Reached

unfoldable pub last_find : List Assignment → Reached
last_find [] = failed
last_find (a ∷ rest) = reached a

unfoldable pub cost_of : Plan → Reached → ℤ
cost_of p failed = pos 0
cost_of p (reached a) = cost p a

unfoldable pub answer_of : Plan → Ending → Mark → Answer
answer_of p e m = record {
  ending = e;
  cost = cost_of p (last_find m.finds);
  finds = length m.finds;
  flips = m.flips;
  used = m.used;
  assignment = last_find m.finds;
}

unfoldable pub conclude : Plan → Outcome Ending → Answer
conclude p (ends e m) = answer_of p e m
conclude p (short m) = answer_of p (cond (is_empty m.finds) short_none short_found) m

unfoldable pub begin : Mark
begin = record { used = 0; flips = 0; finds = [] }

-- The search of a plan, under settings, over a list of numbers.
unfoldable pub search : Settings → Plan → List ℕ → Answer
search s p ns = conclude p (run (search_walk s p) ns begin)
