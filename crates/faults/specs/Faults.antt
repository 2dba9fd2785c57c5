-- The faults of a field's body: the state of the code beside the definitions of the plan file.
-- Assumes nothing.
use Rattle.std.specs.Prelude.{ℕ, ◌+◌, ◌≤◌, ◌≡◌, true, not, List, length}
use Rattle.format.specs.Limits.{terms_lawful}
use Rattle.format.specs.File as File
use Rattle.format.specs.File.{at_count, at_objective, at_locks, at_clause, at_rule, after_rule, tag_at, length_at, length_lawful, field_terms, past_limits, wrong_bounds, refuse, locks_fault}
use Rattle.faults.specs.declared.Stage.{Stage}
use Rattle.faults.specs.declared.Stage.TheVariants.{Count, Objective, Locks, Clause, Rule, MoreRules}
use Rattle.faults.specs.declared.State.{State}

unfoldable pub stage_of : Stage → File.Stage
stage_of Count = at_count
stage_of Objective = at_objective
stage_of Locks = at_locks
stage_of Clause = at_clause
stage_of Rule = at_rule
stage_of MoreRules = after_rule

unfoldable pub state_of : State → File.State
state_of st =
    record {
      at = st.at;
      stage = stage_of st.stage;
      variables = st.variables;
      clauses = st.clauses;
      rules = st.rules;
      terms = st.terms;
    }

-- A field whose head has nothing wrong: what its tag and length say of its body.
pub record Headed (s : List ℕ) (at : ℕ) : Type 0 where
  pub room : at + 3 + length_at s at ≤ length s
  pub lawful : length_lawful (tag_at s at) (length_at s at) ≡ true

-- ".. 4, 6, then 5 from left to right." In a field of locks 5 and 10, entry by entry.
unfoldable pub body_fault : List ℕ → File.State → ℕ
body_fault s st =
    refuse (past_limits s st) 4
    (refuse (wrong_bounds s st.at) 6 (refuse (not (terms_lawful st.variables (field_terms s st.at))) 5 (locks_fault s st)))
