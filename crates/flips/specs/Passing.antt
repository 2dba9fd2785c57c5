-- One place of a variable's run: which words of the tallies it writes, and what they must hold for that.
-- Assumes nothing.
use Rattle.std.specs.Prelude.{ℕ, ◌≤◌, ◌<◌, ◌≡◌, ◌≢◌, Bool, cond, List, eqb, length, drop, take}
use Rattle.plpb.specs.Plan.{Rule, Assignment, flip, rule_holds}
use Rattle.plpb.specs.Normal.{K, P}
use Rattle.plpb.specs.Tallies.{fresh_count}
use Rattle.words.specs.Words.{word_at}
use Rattle.order.specs.Along.{holds_by, exchanged}
use Rattle.format.specs.Layout.{clause_room, holding_at, rule_room, tally_size, tally_word_count, unsatisfied_at}
use Rattle.format.specs.Tables.{plan_of_tables}
use Rattle.rules.specs.Terms.{bits_in}
use Rattle.tallies.specs.Layout.{tally_bytes}
use Rattle.recount.specs.Core.{Ready}

-- The count of a clause and the total are such that a rule of the clause may stop holding or begin to.
pub record Countable (c : ℕ) (held : Bool) (t : List ℕ) : Type 0 where
  pub room : tally_size ≤ length t
  pub clause : c < clause_room
  pub some : cond held 1 0 ≤ word_at t (holding_at c)
  pub few : word_at t (holding_at c) ≤ rule_room
  pub total : cond (eqb (word_at t (holding_at c)) 0) 1 0 ≤ word_at t unsatisfied_at
  pub most : word_at t unsatisfied_at ≤ clause_room

-- Nothing is written past the tallies' full limits.
pub record Inside (s t : List ℕ) : Type 0 where
  pub size : length t ≡ length s
  pub beyond : drop tally_size t ≡ drop tally_size s

-- The clause's count and the total follow, and no other word changes.
pub record ClausePassed (c : ℕ) (held holds : Bool) (s t : List ℕ) : Type 0 where
  pub holding : word_at t (holding_at c) ≡ exchanged held holds (word_at s (holding_at c))
  pub total : word_at t unsatisfied_at ≡ exchanged (eqb (word_at s (holding_at c)) 0) (eqb (word_at t (holding_at c)) 0) (word_at s unsatisfied_at)
  pub others : (i : ℕ) → i ≢ holding_at c → i ≢ unsatisfied_at → word_at t i ≡ word_at s i
  pub inside : Inside s t

-- The rule's P is that of other bits; whether it held is told by the one before.
pub record Passable (q : Rule) (r c : ℕ) (t : List ℕ) : Type 0 where
  pub weight : word_at t r ≤ K q.terms
  pub countable : Countable c (holds_by q (word_at t r)) t

pub record Passed (q : Rule) (b : Assignment) (r c : ℕ) (s t : List ℕ) : Type 0 where
  pub weight : word_at t r ≡ P b q.terms
  pub holding : word_at t (holding_at c) ≡ exchanged (holds_by q (word_at s r)) (rule_holds b q) (word_at s (holding_at c))
  pub total : word_at t unsatisfied_at ≡ exchanged (eqb (word_at s (holding_at c)) 0) (eqb (word_at t (holding_at c)) 0) (word_at s unsatisfied_at)
  pub others : (i : ℕ) → i < tally_word_count → i ≢ r → i ≢ holding_at c → i ≢ unsatisfied_at → word_at t i ≡ word_at s i

-- What the tallies' following of x needs: the bits are those after its flip, and the tallies those before it.
pub record Followable (tables terms bits tallies : List ℕ) (x : ℕ) : Type 0 where
  pub ready : Ready tables terms bits
  pub low : 1 ≤ x
  pub high : x ≤ (plan_of_tables tables terms).variables
  pub fresh : take tally_size tallies ≡ tally_bytes (fresh_count (plan_of_tables tables terms) (flip (bits_in bits) x))
