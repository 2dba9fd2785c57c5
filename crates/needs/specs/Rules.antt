-- A rule by what is kept of it: N, P, A and B in words.
-- Assumes nothing.
use Rattle.std.specs.Prelude.{ℕ, ◌+◌, ◌-◌, ◌≤◌, ◌<◌, ◌≡◌, Bool, not, cond, List, ltb, length}
use Rattle.plpb.specs.Lists.{◌and◌}
use Rattle.words.specs.Words.{word_at}
use Rattle.order.specs.Along.{moved}
use Rattle.format.specs.Layout.{rule_room}
use Rattle.columns.specs.Layout.{total_at, lower_size_at, upper_size_at, kept_size}
use Rattle.needs.specs.declared.KeptRule.{KeptRule}

-- What reading rule r takes.
pub record Readable (r : ℕ) (t : List ℕ) : Type 0 where
  pub room : kept_size ≤ length t
  pub rule : r < rule_room
  pub weight : word_at t r ≤ word_at t (total_at r)

-- "N = K − P."
pub record ReadAs (f : ℕ → ℕ) (r : ℕ) (k : KeptRule) : Type 0 where
  pub falses : k.n ≡ f (total_at r) - f r
  pub trues : k.p ≡ f r
  pub lower : k.a ≡ f (lower_size_at r)
  pub upper : k.b ≡ f (upper_size_at r)

-- Whether it holds.
unfoldable pub holds_in : KeptRule → Bool
holds_in k = ltb k.n k.a and ltb k.p k.b

-- A literal of weight w, true where `on`, is one of its literals, and its weights together are a word.
pub record Movable (on : Bool) (w : ℕ) (k : KeptRule) : Type 0 where
  pub part : w ≤ cond on k.p k.n
  pub small : k.n + k.p < 4_294_967_296

-- It is turned over.
pub record Moved (on : Bool) (w : ℕ) (k m : KeptRule) : Type 0 where
  pub falses : m.n ≡ moved (not on) w k.n
  pub trues : m.p ≡ moved on w k.p
  pub lower : m.a ≡ k.a
  pub upper : m.b ≡ k.b
