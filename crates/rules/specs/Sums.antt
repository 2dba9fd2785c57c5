-- The sums of a rule's terms, as the code has them.
-- Assumes nothing.
use Rattle.std.specs.Prelude.{ℕ, ◌+◌, ◌-◌, ◌/◌, ◌%◌, ◌≡◌, Bool, cond, List, nat_abs}
use Rattle.plpb.specs.Plan.{Term, Assignment}
use Rattle.plpb.specs.Normal.{rise, K, P}
use Rattle.words.specs.Words.{signed}
use Rattle.rules.specs.declared.sums.Sums.{Sums}
use Rattle.rules.specs.declared.sums.Running.{Running}

-- These are the sums of some terms.
pub record Summed (a : Assignment) (ts : List Term) (s : Sums) : Type 0 where
  pub whole : s.k ≡ K ts
  pub rises : s.rise ≡ rise ts
  pub trues : s.p ≡ P a ts

-- What one weight more changes of the sums as they are kept: two of them are of words, and wrap.
pub record AddedWeight (weight : ℕ) (value : Bool) (s r : Running) : Type 0 where
  pub sizes : r.sizes ≡ nat_abs (signed weight) + s.sizes
  pub weights : r.weights ≡ (s.weights + weight) % 4_294_967_296
  pub trues : r.trues ≡ (s.trues + cond value weight 0) % 4_294_967_296

-- What the bounds rise by: half of what the sizes are above the weights.
abbrev pub rise_in : Running → ℕ
rise_in s = (s.sizes + (4_294_967_296 - s.weights)) % 4_294_967_296 / 2

-- The sums that these come to.
abbrev pub held_in : Running → Sums
held_in s = record { k = s.sizes; rise = rise_in s; p = (s.trues + rise_in s) % 4_294_967_296 }
