-- Rules in the tables, and what writing their lines needs.
-- Assumes nothing.
use Rattle.std.specs.Prelude.{ℕ, ◌+◌, ◌*◌, ◌≤◌, Bool, cond, List, ℤ, pos, nat_abs, ◌+ℤ◌, ◌-ℤ◌, length}
use Rattle.plpb.specs.Plan.{Bound, Term}
use Rattle.words.specs.Words.{word_at, signed}
use Rattle.format.specs.Limits.{max_bound}
use Rattle.format.specs.Layout.{rule_first_at, rule_count_at, rule_lower_at, rule_upper_at}
use Rattle.opb.specs.Opb.{Line}
use Rattle.opb.specs.Tau.{lower_line, upper_line, minus_lines, plus_lines}
use Rattle.extremes.specs.Terms.{TermsFit}

-- By whether the bound is an upper one: the first number past it, its line where it stands alone, and its lines with a new variable.
unfoldable pub past_of : Bool → ℤ → ℤ
past_of upper b = cond upper (b +ℤ pos 1) (b -ℤ pos 1)

unfoldable pub bound_line : Bool → Bound ℤ → List Term → List Line
bound_line upper b ts = cond upper (upper_line b ts) (lower_line b ts)

unfoldable pub atom_lines : Bool → ℕ → Bound ℤ → List Term → List Line
atom_lines upper x b ts = cond upper (minus_lines x b ts) (plus_lines x b ts)

-- Rule r stands in the tables, with lawful weights and bounds.
pub record RuleFits (tables terms : List ℕ) (r : ℕ) : Type 0 where
  pub entry : 4 * rule_first_at r + 20 ≤ length tables
  pub body : TermsFit terms (word_at tables (rule_first_at r)) (word_at tables (rule_count_at r))
  pub lower : nat_abs (signed (word_at tables (rule_lower_at r))) ≤ max_bound
  pub upper : nat_abs (signed (word_at tables (rule_upper_at r))) ≤ max_bound
