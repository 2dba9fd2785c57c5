-- Places of an accepted file: what reading finds from there on.
-- Assumes nothing.
use Rattle.std.specs.Prelude.{ℕ, ◌+◌, ◌/◌, ◌≤◌, ◌≡◌, true, cond, List, [], eqb, length}
use Rattle.plpb.specs.Plan.{Rule, Clause, Plan}
use Rattle.format.specs.File.{State, Contents, Reading, refused, accepted, read_from, read, tag_at, length_at, bounds_lawful, mode_at, lower_at, upper_at, behind}

-- The plan that a file says, and that it says one.
unfoldable pub said : Reading Plan → Plan
said (refused number offset) = record { variables = 0; objective = []; locks = []; clauses = [] }
said (accepted p) = p

abbrev pub plan_of_file : List ℕ → Plan
plan_of_file s = said (read s)

abbrev pub Accepts : List ℕ → Type 0
Accepts s = read s ≡ accepted (plan_of_file s)

-- From a place on a file reads as the rules left of a clause that began before, and the clauses behind them.
pub record Found (s : List ℕ) (at : ℕ) (rs : List Rule) (cs : List Clause) : Type 0 where
  pub left : ℕ
  pub state : State
  pub contents : Contents
  pub reading : read_from s left state ≡ accepted contents
  pub here : state.at ≡ at
  pub stage : behind state.stage ≡ true
  pub rules : contents.rules ≡ rs
  pub clauses : contents.clauses ≡ cs

-- From a place on a file reads as some rules and clauses.
abbrev pub Reads : List ℕ → ℕ → Type 0
Reads s at = (rs : List Rule) × (cs : List Clause) × Found s at rs cs

unfoldable pub behind_field : List ℕ → ℕ → ℕ
behind_field s at = at + 3 + length_at s at

-- Behind the fields 01 and 02 stands "an optional field, tag 06, between objective and first clause".
unfoldable pub behind_objective : List ℕ → ℕ
behind_objective s = 8 + length_at s 5

unfoldable pub past_locks : List ℕ → ℕ → ℕ
past_locks s at = cond (eqb (tag_at s at) 6) (behind_field s at) at

abbrev pub first_clause : List ℕ → ℕ
first_clause s = past_locks s (behind_objective s)

-- How many locks a field has, none if it is another.
unfoldable pub locks_in : List ℕ → ℕ → ℕ
locks_in s at = cond (eqb (tag_at s at) 6) (length_at s at / 3) 0

unfoldable pub rule_from : List ℕ → ℕ → ℕ
rule_from s at = cond (eqb (tag_at s at) 3) (at + 3) at

-- Where the first rule of a file stands, or the end, and the next one behind a rule.
abbrev pub first_rule : List ℕ → ℕ
first_rule s = rule_from s (first_clause s)

abbrev pub next_rule : List ℕ → ℕ → ℕ
next_rule s at = rule_from s (behind_field s at)

-- The rules left of a clause were run through: how many they are, and what stands behind them.
unfoldable pub Ran : List ℕ → ℕ → ℕ → ℕ → Type 0
Ran s from count behindThem =
    (from ≤ behindThem) × ((rs : List Rule) (cs : List Clause) → Found s from rs cs → (count ≡ length rs) × Found s behindThem [] cs)

-- A rule's field that has nothing wrong.
pub record RuleHere (s : List ℕ) (at : ℕ) : Type 0 where
  pub tag : tag_at s at ≡ 4
  pub room : behind_field s at ≤ length s
  pub size : 15 ≤ length_at s at
  pub bounds : bounds_lawful (mode_at s at) (lower_at s at) (upper_at s at) ≡ true
