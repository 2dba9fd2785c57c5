-- The variables to pick among, in words behind the marks.
-- Assumes nothing.
use Rattle.std.specs.Prelude.{ℕ, ◌+◌, ◌*◌, ◌≤◌, ◌<◌, ◌≡◌, Bool, true, cond, List, [], length, get_or, take, drop}
use Rattle.plpb.specs.Plan.{Plan}
use Rattle.plpb.specs.Choice.{choosable}
use Rattle.words.specs.Words.{word_at}
use Rattle.format.specs.Limits.{max_variables}
use Rattle.columns.specs.Layout.{hint_at, pick_at, weight_at}
use Rattle.columns.specs.Columns.{Weighed, Hinted, Listed}
use Rattle.effects.specs.declared.footing.Footing.{Footing}
use Rattle.effects.specs.Footing.{plan_on, HasRun}

-- Only hints and picks change: what stands before the first hint is as it was, and what stands behind the picks. Hints of the plan stay such.
pub record Noted (p : Plan) (s t : List ℕ) : Type 0 where
  pub size : length t ≡ length s
  pub before : take (4 * hint_at 1) t ≡ take (4 * hint_at 1) s
  pub behind : drop (4 * weight_at 0) t ≡ drop (4 * weight_at 0) s
  pub hints : Hinted p s → Hinted p t

-- The first picks are these.
pub record Picks (ys t : List ℕ) : Type 0 where
  pub few : length ys ≤ max_variables
  pub each : (i : ℕ) → i < length ys → word_at t (pick_at i) ≡ get_or ys i 0

-- These were picked and counted, and nothing but hints and picks changed.
pub record Picked (p : Plan) (ys s t : List ℕ) (count : ℕ) : Type 0 where
  pub counted : count ≡ length ys
  pub picks : Picks ys t
  pub noted : Noted p s t

-- The variables of clause c that may be chosen.
abbrev pub of_clause : Footing → ℕ → List ℕ
of_clause q c = choosable (plan_on q) (get_or (plan_on q).clauses c [])

-- What going over them needs of the marks, where no hint is asked.
pub record HasList (q : Footing) (marks : List ℕ) (c : ℕ) : Type 0 where
  pub weighed : Weighed (plan_on q) marks
  pub listed : Listed (plan_on q) marks
  pub there : c < length (plan_on q).clauses

-- What picking among them needs of the marks.
pub record Pickable (q : Footing) (marks : List ℕ) (c : ℕ) : Type 0 where
  pub weighed : Weighed (plan_on q) marks
  pub hinted : Hinted (plan_on q) marks
  pub listed : Listed (plan_on q) marks
  pub there : c < length (plan_on q).clauses

-- What trying the variable needs that word i of the marks lists, behind so many picks.
pub record Triable (q : Footing) (marks : List ℕ) (i count : ℕ) : Type 0 where
  pub run : HasRun q marks (word_at marks i)
  pub inside : 4 * i + 4 ≤ length marks
  pub few : count < max_variables

-- x is picked where a test is met, and those picked before stay.
pub record Tried (p : Plan) (b : Bool) (x count : ℕ) (s t : List ℕ) (r : ℕ) : Type 0 where
  pub counted : r ≡ cond b (count + 1) count
  pub kept : (i : ℕ) → i < count → word_at t (pick_at i) ≡ word_at s (pick_at i)
  pub new : b ≡ true → word_at t (pick_at count) ≡ x
  pub noted : Noted p s t
