-- A rule's entry in the table: five words, then the entries behind it.
use Prim.Native.Nat.{ℕ, suc, ◌+◌, ◌*◌}
use mathlib.Core.Path.{◌≡◌}
use mathlib.Core.List.{List, ◌∷◌}
use native.Mathlib.Omega.{arith}
use lib.ListN.{length}
use Rattle.plpb.specs.Plan.{Rule}
use Rattle.words.specs.Words.{unsigned}
use Rattle.format.specs.Writer.{mode, bound_number}
use Rattle.format.specs.Tables.{rule_entries}
use Rattle.format.proofs.Spells.{Spells}
use Rattle.format.specs.Layout.{rule_count_at, rule_first_at, rule_lower_at, rule_mode_at, rule_upper_at, rules_at}

pub record Entry (f : ℕ → ℕ) (i first : ℕ) (r : Rule) : Type 0 where
  pub start : f (rule_first_at i) ≡ first
  pub count : f (rule_count_at i) ≡ length r.terms
  pub mode_word : f (rule_mode_at i) ≡ mode r.lower r.upper
  pub lower : f (rule_lower_at i) ≡ unsigned (bound_number r.lower)
  pub upper : f (rule_upper_at i) ≡ unsigned (bound_number r.upper)

-- The same places, as the table's layout and as the list's elements count them.
module _ (i : ℕ) where
  one : suc (rule_first_at i) ≡ rule_count_at i
  one = omega arith

  two : suc (suc (rule_first_at i)) ≡ rule_mode_at i
  two = omega arith

  three : suc (suc (suc (rule_first_at i))) ≡ rule_lower_at i
  three = omega arith

  four : suc (suc (suc (suc (rule_first_at i)))) ≡ rule_upper_at i
  four = omega arith

  five : suc (suc (suc (suc (suc (rule_first_at i))))) ≡ rules_at + 5 * suc i
  five = omega arith

module _ (f : ℕ → ℕ) (i first : ℕ) (r : Rule) (rs : List Rule) where
  pub entry_here : Spells f (rule_first_at i) (rule_entries first (r ∷ rs)) → Entry f i first r
  unfolding Spells rule_entries
  entry_here s = record {
    start = s.0;
    count = rw (one i) at s.1.0;
    mode_word = rw (two i) at s.1.1.0;
    lower = rw (three i) at s.1.1.1.0;
    upper = rw (four i) at s.1.1.1.1.0;
  }

  pub entries_behind : Spells f (rule_first_at i) (rule_entries first (r ∷ rs)) → Spells f (rules_at + 5 * suc i) (rule_entries (first + length r.terms) rs)
  unfolding Spells rule_entries
  entries_behind s = rw (five i) at s.1.1.1.1.1

  pub entry_join :
      Entry f i first r → Spells f (rules_at + 5 * suc i) (rule_entries (first + length r.terms) rs)
      → Spells f (rule_first_at i) (rule_entries first (r ∷ rs))
  unfolding Spells rule_entries
  entry_join e s =
      (e.start, (rw (one i) e.count, (rw (two i) e.mode_word, (rw (three i) e.lower, (rw (four i) e.upper, rw (five i) s)))))
