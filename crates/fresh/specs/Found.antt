-- What is found at a place of the tallies.
-- Assumes nothing.
use Rattle.std.specs.Prelude.{ℕ, ◌≡◌, ◌≢◌, Bool, List, Option, Some, None}
use Rattle.plpb.specs.Plan.{rule_holds}
use Rattle.words.specs.Words.{word_at}
use Rattle.format.specs.Tables.{rule_of, plan_of_tables}
use Rattle.rules.specs.Terms.{bits_in}
use Rattle.tallies.specs.Layout.{tally_word}

-- What is found at a rule's word: another number than is wanted, or that number, and whether the rule holds.
abbrev pub FoundAt : (tables terms bits s : List ℕ) (r : ℕ) → Option Bool → Type 0
FoundAt tables terms bits s r None = word_at s r ≢ tally_word (plan_of_tables tables terms) (bits_in bits) r
FoundAt tables terms bits s r (Some holds) =
    (word_at s r ≡ tally_word (plan_of_tables tables terms) (bits_in bits) r)
    × (holds ≡ rule_holds (bits_in bits) (rule_of (word_at tables) (word_at terms) r))
