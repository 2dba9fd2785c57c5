-- One place of a variable's run: which words it writes, told by words alone, and what they must hold for that.
-- Assumes nothing.
use Rattle.std.specs.Prelude.{ℕ, ◌+◌, ◌*◌, ◌-◌, ◌%◌, ◌≤◌, ◌≡◌, ◌≢◌, Bool, not, cond, List, ltb, eqb, length, drop}
use Rattle.plpb.specs.Lists.{◌and◌}
use Rattle.words.specs.Words.{word_at}
use Rattle.order.specs.Order.{Place}
use Rattle.order.specs.Along.{moved, exchanged}
use Rattle.format.specs.Layout.{holding_at, unsatisfied_at}
use Rattle.columns.specs.Layout.{total_at, lower_size_at, upper_size_at, need_at, kept_size}
use Rattle.flips.specs.Passing.{Countable}
use Rattle.needs.specs.Rules.{Readable}
use Rattle.needs.specs.Needs.{need_word}
use Rattle.flips.specs.declared.Change.{Change}

-- Whether the literal of a word of the order was true before the flip that left its variable with a value.
unfoldable pub was_true : ℕ → Bool → Bool
was_true w value = cond (eqb (w % 2) 1) value (not value)

-- Whether rule r holds with P = n, by its words of K, A and B: N = K − P is below A, and P is below B.
unfoldable pub holds_at : (ℕ → ℕ) → ℕ → ℕ → Bool
holds_at f r n = ltb (f (total_at r) - n) (f (lower_size_at r)) and ltb n (f (upper_size_at r))

-- A literal of weight w, which was true or not, is one of rule r.
pub record Turnable (was : Bool) (w r : ℕ) (t : List ℕ) : Type 0 where
  pub rule : Readable r t
  pub part : w ≤ cond was (word_at t r) (word_at t (total_at r) - word_at t r)

-- It is turned over: P and the two needs follow, and no other word changes.
pub record RuleTurned (was : Bool) (w r : ℕ) (c : Change) (s t : List ℕ) : Type 0 where
  pub held : c.held ≡ holds_at (word_at s) r (word_at s r)
  pub holds : c.holds ≡ holds_at (word_at s) r (word_at t r)
  pub weight : word_at t r ≡ moved was w (word_at s r)
  pub off : word_at t (need_at (2 * r)) ≡ need_word (word_at s (upper_size_at r)) (word_at t r)
  pub on : word_at t (need_at (2 * r + 1)) ≡ need_word (word_at s (lower_size_at r)) (word_at s (total_at r) - word_at t r)
  pub others : (i : ℕ) → i ≢ r → i ≢ need_at (2 * r) → i ≢ need_at (2 * r + 1) → word_at t i ≡ word_at s i
  pub size : length t ≡ length s
  pub beyond : drop kept_size t ≡ drop kept_size s

-- .. and of a clause of which the count may follow.
pub record PlaceTurnable (was : Bool) (w : ℕ) (q : Place) (t : List ℕ) : Type 0 where
  pub rule : Turnable was w q.rule t
  pub clause : Countable q.clause (holds_at (word_at t) q.rule (word_at t q.rule)) t

-- So do the clause's count and the total.
pub record PlaceTurned (was : Bool) (w : ℕ) (q : Place) (s t : List ℕ) : Type 0 where
  pub weight : word_at t q.rule ≡ moved was w (word_at s q.rule)
  pub off : word_at t (need_at (2 * q.rule)) ≡ need_word (word_at s (upper_size_at q.rule)) (word_at t q.rule)
  pub on : word_at t (need_at (2 * q.rule + 1)) ≡ need_word (word_at s (lower_size_at q.rule)) (word_at s (total_at q.rule) - word_at t q.rule)
  pub holding :
      word_at t (holding_at q.clause)
      ≡ exchanged (holds_at (word_at s) q.rule (word_at s q.rule)) (holds_at (word_at s) q.rule (word_at t q.rule)) (word_at s (holding_at q.clause))
  pub total :
      word_at t unsatisfied_at
      ≡ exchanged (eqb (word_at s (holding_at q.clause)) 0) (eqb (word_at t (holding_at q.clause)) 0) (word_at s unsatisfied_at)
  pub others :
      (i : ℕ) → i ≢ q.rule → i ≢ need_at (2 * q.rule) → i ≢ need_at (2 * q.rule + 1) → i ≢ holding_at q.clause → i ≢ unsatisfied_at
      → word_at t i ≡ word_at s i
  pub size : length t ≡ length s
  pub beyond : drop kept_size t ≡ drop kept_size s
