-- Laws of frames: what is not written is as it was.
-- Assumes nothing.
use Prim.Native.Nat.{ℕ, ◌≤◌, ◌<◌}
use native.Mathlib.Omega.{arith}
use mathlib.Core.Path.{refl, ◌∙◌}
use mathlib.Core.List.{List}
use Rattle.words.specs.Writes.{Wrote}
use Rattle.plpb.specs.Plan.{Plan}
use Rattle.order.specs.Order.{term_count}
use Rattle.columns.specs.Layout.{list_count_at, weight_at}
use Rattle.columns.specs.Columns.{Weighed}
use Rattle.columns.specs.Frames.{Only}
use Rattle.format.specs.Layout.{term_room}

pub only_none : (from end : ℕ) (s : List ℕ) → Only from end s s
only_none from end s = record { size = refl; low = λ i h. refl; high = λ i h. refl; ahead = λ n h. refl; beyond = λ n h k. refl }

pub only_next : {from end : ℕ} {s t u : List ℕ} → Only from end s t → Only from end t u → Only from end s u
only_next a b = record {
  size = b.size ∙ a.size;
  low = λ i h. b.low i h ∙ a.low i h;
  high = λ i h. b.high i h ∙ a.high i h;
  ahead = λ n h. b.ahead n h ∙ a.ahead n h;
  beyond = λ n h k. b.beyond n h (omega (arith, a.size)) ∙ a.beyond n h k;
}

-- A word that stands there.
pub wrote_only : {from end i v : ℕ} {s t : List ℕ} → from ≤ i → i < end → Wrote i v s t → Only from end s t
wrote_only {from} {end} {i} {v} {s} {t} l h w = record {
  size = w.size;
  low = λ j k. w.others j (λ e. omega (arith, e));
  high = λ j k. w.others j (λ e. omega (arith, e));
  ahead = λ n k. w.before n (omega arith);
  beyond = λ n k m. w.beyond n (omega arith) m;
}

-- A part of what may change.
pub only_wider : {a b from end : ℕ} {s t : List ℕ} → from ≤ a → b ≤ end → Only a b s t → Only from end s t
only_wider l h o = record {
  size = o.size;
  low = λ i k. o.low i (omega arith);
  high = λ i k. o.high i (omega arith);
  ahead = λ n k. o.ahead n (omega arith);
  beyond = λ n k m. o.beyond n (omega arith) m;
}

-- ---- the columns of the marks under a frame

pub weighed_kept : {p : Plan} {from end : ℕ} {s t : List ℕ} → term_count p ≤ term_room → list_count_at 0 ≤ from → Only from end s t → Weighed p s → Weighed p t
weighed_kept few l o w = record { room = rw o.size w.room; each = λ k h. o.low (weight_at k) (omega (arith, few, l, h)) ∙ w.each k h }
