-- A rule's entry in a table of words, the rule read from it, and its sizes A and B without a sign.
-- Assumes nothing.
use Rattle.std.specs.Prelude.{ℕ, ◌+◌, ◌*◌, ◌-◌, ◌≤◌, ◌≡◌, Bool, cond, not, List, ℤ, nat_abs, length}
use Rattle.plpb.specs.Plan.{Bound, map_bound, Rule}
use Rattle.plpb.specs.Normal.{is_negative}
use Rattle.words.specs.Words.{word_at, signed}
use Rattle.counting.specs.Bound.{bound_of}
use Rattle.format.specs.File.{bound_of as bound_in}
use Rattle.rules.specs.declared.entry.Entry.{Entry}
use Rattle.rules.specs.Terms.{terms_at, Readable}

-- The entry whose five words begin at a place.
pub record EntryAt (f : ℕ → ℕ) (at : ℕ) (e : Entry) : Type 0 where
  pub first : e.first ≡ f at
  pub count : e.count ≡ f (at + 1)
  pub lower : bound_of e.lower ≡ bound_in 2 (f (at + 2)) (signed (f (at + 3)))
  pub upper : bound_of e.upper ≡ bound_in 1 (f (at + 2)) (signed (f (at + 4)))

-- The rule whose entry begins at a place of the table f, with its terms in the table g.
unfoldable pub rule_at : (ℕ → ℕ) → (ℕ → ℕ) → ℕ → Rule
rule_at f g at =
    record {
      lower = bound_in 2 (f (at + 2)) (signed (f (at + 3)));
      upper = bound_in 1 (f (at + 2)) (signed (f (at + 4)));
      terms = terms_at g (f at) (f (at + 1));
    }

-- What the search for a variable in that rule needs: entry and terms stand in the tables. And what reading it needs.
pub record RuleInside (tables terms : List ℕ) (at : ℕ) : Type 0 where
  pub entry : 4 * at + 20 ≤ length tables
  pub body : 8 * (word_at tables at + word_at tables (at + 1)) ≤ length terms

pub record RuleReadable (tables terms assignment : List ℕ) (at : ℕ) : Type 0 where
  pub entry : 4 * at + 20 ≤ length tables
  pub body : Readable terms assignment (word_at tables at) (word_at tables (at + 1))

-- One more than a number, with another added or taken away: no less than 0.
unfoldable pub reach : ℕ → Bool → ℕ → ℕ
reach base up m = cond up (base + 1 + m) (base + 1 - m)

-- A: the positive weights and 1, less the lower bound.
unfoldable pub lower_size : ℕ → Bound ℤ → Bound ℕ
lower_size positive b = map_bound (λ l. reach positive (is_negative l) (nat_abs l)) b

-- B: the negative weights' size and 1, and the upper bound.
unfoldable pub upper_size : ℕ → Bound ℤ → Bound ℕ
upper_size rise b = map_bound (λ u. reach rise (not (is_negative u)) (nat_abs u)) b
