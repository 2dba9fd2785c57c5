-- Terms in a table of words, and what reading them needs.
-- Assumes nothing.
use Rattle.std.specs.Prelude.{ℕ, ◌+◌, ◌*◌, ◌≤◌, ◌≡◌, Bool, true, cond, List, map, ℤ, length}
use Rattle.plpb.specs.Lists.{all, row}
use Rattle.plpb.specs.Plan.{Term, negative_part, positive_part, least_total, greatest_total}
use Rattle.words.specs.Words.{word_at}
use Rattle.format.specs.Limits.{max_variables, weight_lawful}
use Rattle.format.specs.Tables.{term_of}

-- k terms of a table of words, the first of them term i.
unfoldable pub terms_in : (ℕ → ℕ) → ℕ → ℕ → List Term
terms_in g i k = map (term_of g) (row i k)

-- They stand in the table, are those of one rule, and have lawful weights.
pub record TermsFit (terms : List ℕ) (first count : ℕ) : Type 0 where
  pub inside : 8 * (first + count) ≤ length terms
  pub few : count ≤ max_variables
  pub small : all (λ t. weight_lawful t.weight) (terms_in (word_at terms) first count) ≡ true

-- No sum over 512 terms is larger.
abbrev pub max_total : ℕ
max_total = 512_000_000

-- What a weight gives to the greatest sum, or to the least; and that sum.
unfoldable pub part_of : Bool → ℤ → ℤ
part_of greatest w = cond greatest (positive_part w) (negative_part w)

unfoldable pub extreme_of : Bool → List Term → ℤ
extreme_of greatest ts = cond greatest (greatest_total ts) (least_total ts)
