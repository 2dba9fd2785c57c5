-- What opening, flip and counts need of the tables and the assignment, and what they leave of the tallies, word by word.
-- Assumes nothing.
use Rattle.std.specs.Prelude.{ℕ, ◌+◌, ◌*◌, ◌≤◌, ◌<◌, ◌≡◌, ◌≢◌, Bool, List, T, length, take, drop}
use Rattle.std.specs.Coded.{×_prop, Coded-set, coded_list, coded_ℕ}
use Rattle.plpb.specs.Plan.{Plan, rule_holds}
use Rattle.plpb.specs.Tallies.{rules_of, fresh_count}
use Rattle.words.specs.Words.{word_at}
use Rattle.format.specs.Limits.{roomy}
use Rattle.format.specs.Tables.{Holds, rule_of, plan_of_tables}
use Rattle.rules.specs.Terms.{bits_in}
use Rattle.tallies.specs.Layout.{tally_size, bits_of, are_bits, tally_word, tally_bytes, with_tallies}
use Rattle.format.specs.Layout.{clause_count_at, clause_first_at, clause_room, holding_at, rule_room}

-- Two tables hold the plan that is read back from them, and have room for it.
pub record Laid (tables terms : List ℕ) : Type 0 where
  pub room : T (roomy (plan_of_tables tables terms))
  pub holds : Holds (plan_of_tables tables terms) tables terms

-- There is one proof at most that they hold it, so a struct may keep it.
pub holds_prop : (p : Plan) (tables terms : List ℕ) → IsProp (Holds p tables terms)
unfolding Holds
holds_prop p tables terms = ×_prop (Coded-set (coded_list coded_ℕ) _ _) (Coded-set (coded_list coded_ℕ) _ _)

-- .. and the assignment has a byte for each of its variables.
pub record Ready (tables terms assignment : List ℕ) : Type 0 where
  pub laid : Laid tables terms
  pub bytes : (plan_of_tables tables terms).variables ≤ length assignment

-- What reading a clause's entry needs: it stands there, and its rules are few.
pub record RunReadable (tables : List ℕ) (c : ℕ) : Type 0 where
  pub inside : 4 * clause_first_at (c + 1) ≤ length tables
  pub few : word_at tables (clause_first_at c) + word_at tables (clause_count_at c) ≤ rule_room

-- The tallies that a fresh count gives for an assignment, and what stood past their full limits.
abbrev pub recounted : List ℕ → List ℕ → List ℕ → List ℕ → List ℕ
recounted tables terms assignment tallies = with_tallies (plan_of_tables tables terms) (bits_of (plan_of_tables tables terms).variables assignment) tallies

-- One word of tallies is written and nothing else.
pub record Wrote (i v : ℕ) (s t : List ℕ) : Type 0 where
  pub here : word_at t i ≡ v
  pub others : (j : ℕ) → j ≢ i → word_at t j ≡ word_at s j
  pub size : length t ≡ length s
  pub beyond : drop tally_size t ≡ drop tally_size s

-- Tallies may have become more like the words wanted: each word that was so before is so, and nothing past the full limits has changed.
pub record Kept (h : ℕ → ℕ) (s t : List ℕ) : Type 0 where
  pub right : (i : ℕ) → word_at s i ≡ h i → word_at t i ≡ h i
  pub size : length t ≡ length s
  pub beyond : drop tally_size t ≡ drop tally_size s

-- The words from one on and before another are right.
abbrev pub Right : (ℕ → ℕ) → List ℕ → ℕ → ℕ → Type 0
Right h s from end = (i : ℕ) → from ≤ i → i < end → word_at s i ≡ h i

-- A rule's word is right, and it is told whether the rule holds.
pub record RuleCounted (tables terms bits : List ℕ) (r : ℕ) (b : Bool) (s t : List ℕ) : Type 0 where
  pub holds : b ≡ rule_holds (bits_in bits) (rule_of (word_at tables) (word_at terms) r)
  pub here : word_at t r ≡ tally_word (plan_of_tables tables terms) (bits_in bits) r
  pub kept : Kept (tally_word (plan_of_tables tables terms) (bits_in bits)) s t

-- The words of a clause are right: those of its rules and its count.
pub record ClauseCounted (tables terms bits : List ℕ) (c : ℕ) (s t : List ℕ) : Type 0 where
  pub weights :
      Right (tally_word (plan_of_tables tables terms) (bits_in bits)) t (word_at tables (clause_first_at c))
      (word_at tables (clause_first_at c) + word_at tables (clause_count_at c))
  pub holding : word_at t (holding_at c) ≡ tally_word (plan_of_tables tables terms) (bits_in bits) (holding_at c)
  pub kept : Kept (tally_word (plan_of_tables tables terms) (bits_in bits)) s t

-- Unused entries are 0.
pub record Unused (p : Plan) (s : List ℕ) : Type 0 where
  pub rules : (i : ℕ) → length (rules_of p) ≤ i → i < rule_room → word_at s i ≡ 0
  pub clauses : (c : ℕ) → length p.clauses ≤ c → c < clause_room → word_at s (holding_at c) ≡ 0

-- What a flip needs: bits for the variables, the variable one of them, and the tallies those of the assignment.
pub record Flippable (tables terms assignment tallies : List ℕ) (x : ℕ) : Type 0 where
  pub ready : Ready tables terms assignment
  pub bits : T (are_bits (plan_of_tables tables terms).variables assignment)
  pub low : 1 ≤ x
  pub high : x ≤ (plan_of_tables tables terms).variables
  pub fresh : take tally_size tallies ≡ tally_bytes (fresh_count (plan_of_tables tables terms) (bits_of (plan_of_tables tables terms).variables assignment))
