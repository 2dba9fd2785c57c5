-- The words of one rule: K, A and B.
-- Assumes nothing.
use Rattle.std.specs.Prelude.{ℕ, ◌+◌, ◌<◌, ◌≡◌, List}
use Rattle.plpb.specs.Plan.{Bound, absent, present}
use Rattle.words.specs.Words.{word_at}
use Rattle.format.specs.Tables.{rule_of}
use Rattle.columns.specs.Layout.{total_at, lower_size_at, upper_size_at}
use Rattle.columns.specs.Columns.{SizedRule, never}
use Rattle.columns.specs.Frames.{Only}

-- A size that is there is below the word of what is not.
abbrev pub Small : Bound ℕ → Type 0
Small absent = Unit {0}
Small (present k) = k < never

-- Three words are written in the rule's row, and nothing else.
pub record SizesPut (r k a b : ℕ) (s t : List ℕ) : Type 0 where
  pub total : word_at t (total_at r) ≡ k
  pub lower : word_at t (lower_size_at r) ≡ a
  pub upper : word_at t (upper_size_at r) ≡ b
  pub only : Only (total_at r) (total_at (r + 1)) s t

-- They are those of the rule.
pub record RuleSized (tables terms : List ℕ) (r : ℕ) (s t : List ℕ) : Type 0 where
  pub sizes : SizedRule (rule_of (word_at tables) (word_at terms) r) (word_at t) r
  pub only : Only (total_at r) (total_at (r + 1)) s t
