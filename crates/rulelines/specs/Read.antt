-- A rule as it is read from the tables.
-- Assumes nothing.
use Rattle.std.specs.Prelude.{ℕ, ◌≤◌, ◌≡◌, List, nat_abs, IfSome}
use Rattle.plpb.specs.Plan.{Rule as Asked}
use Rattle.counting.specs.Bound.{bound_of}
use Rattle.words.specs.Words.{word_at}
use Rattle.format.specs.Limits.{max_bound}
use Rattle.format.specs.Tables.{rule_of}
use Rattle.extremes.specs.Sums.{terms_of}
use Rattle.rulelines.specs.declared.Rule.{Rule}

abbrev pub rule_in : Rule → Asked
rule_in r = record { lower = bound_of r.lower; upper = bound_of r.upper; terms = terms_of r.sum }

-- It is rule i of the tables, with lawful bounds.
pub record RuleRead (tables terms : List ℕ) (i : ℕ) (r : Rule) : Type 0 where
  pub is : rule_in r ≡ rule_of (word_at tables) (word_at terms) i
  pub lower : IfSome r.lower (λ b. nat_abs b ≤ max_bound)
  pub upper : IfSome r.upper (λ b. nat_abs b ≤ max_bound)
