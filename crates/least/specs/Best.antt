-- The least break count so far, and one variable more.
-- Assumes nothing.
use Rattle.std.specs.Prelude.{ℕ, ◌+◌, ◌≤◌, ◌<◌, min, ◌≡◌, cond, List, ltb}
use Rattle.plpb.specs.Plan.{Plan}
use Rattle.words.specs.Words.{word_at}
use Rattle.columns.specs.Layout.{pick_at}
use Rattle.picks.specs.Picks.{Noted}
use Rattle.least.specs.declared.Best.{Best}

-- Where a variable of count n goes: to the front where n is below the least, else behind those that have it.
unfoldable pub place_for : ℕ → Best → ℕ
place_for n b = cond (ltb n b.least) 0 b.count

-- x, of count n, is offered.
pub record Offered (p : Plan) (n x : ℕ) (b : Best) (s t : List ℕ) (r : Best) : Type 0 where
  pub least : r.least ≡ min b.least n
  pub count : r.count ≡ cond (ltb b.least n) b.count (place_for n b + 1)
  pub kept : b.least ≤ n → (i : ℕ) → i < b.count → word_at t (pick_at i) ≡ word_at s (pick_at i)
  pub new : n ≤ b.least → word_at t (pick_at (place_for n b)) ≡ x
  pub noted : Noted p s t
