-- The constraints of an OPB text by their places, and what is known of a constraint that is written.
-- Assumes nothing.
use Rattle.std.specs.Prelude.{ℕ, ◌≤◌, ◌<◌, ◌≡◌, Bool, true, List, nat_abs, length}
use Rattle.plpb.specs.Lists.{all, keep}
use Rattle.plpb.specs.Plan.{Term}
use Rattle.format.specs.File.{accepted}
use Rattle.format.specs.Limits.{term_within}
use Rattle.tokens.specs.declared.text.Text.{Text}
use Rattle.statements.specs.declared.Kind.{Kind}
use Rattle.statements.specs.declared.Kind.TheVariants.{Comment, Objective, Constraint}
use Rattle.statements.specs.Grammar.{is_comment, is_objective, is_constraint, sum_at, sum_end, has_terms, is_bounded, bound_at}
use Rattle.opb_lines.specs.ReadText.{plan_of_text, read_text}
use Rattle.opb_lines.specs.Lines.{lines_from}

abbrev pub Says : List ℕ → Type 0
Says s = read_text s ≡ accepted (plan_of_text s)

-- The test of a line of each kind.
abbrev pub of_kind : Kind → List ℕ → ℕ → Bool
of_kind Comment = is_comment
of_kind Objective = is_objective
of_kind Constraint = is_constraint

-- The places of the lines that are such from a line on.
unfoldable pub those_from : (List ℕ → ℕ → Bool) → List ℕ → ℕ → List ℕ
those_from such s at = keep (such s) (lines_from s at)

abbrev pub constraints_from : List ℕ → ℕ → List ℕ
constraints_from s at = those_from is_constraint s at

-- The first line that is such from a line on, or the text's end.
pub record FirstFrom (such : List ℕ → ℕ → Bool) (s : List ℕ) (from : ℕ) (r : Text) : Type 0 where
  pub bytes : r.bytes.now ≡ s
  pub behind : from ≤ r.at
  pub same : those_from such s r.at ≡ those_from such s from
  pub here : (r.at < length s → such s r.at ≡ true)

abbrev pub Reaches : List ℕ → ℕ → Text → Type 0
Reaches s from r = FirstFrom is_constraint s from r

-- Terms whose numbers and weights are in range.
abbrev pub InRange : List Term → Type 0
InRange ts = all (term_within 512) ts ≡ true

-- A constraint that has a sum and a bound, which is in range, and no more terms than a plan may have.
pub record ConstraintHere (s : List ℕ) (at : ℕ) : Type 0 where
  pub some : has_terms s at ≡ true
  pub bounded : is_bounded s (sum_end s at) ≡ true
  pub bound : nat_abs (bound_at s at) ≤ 1_000_000_000
  pub few : length (sum_at s at) ≤ 6_000
  pub range : InRange (sum_at s at)
