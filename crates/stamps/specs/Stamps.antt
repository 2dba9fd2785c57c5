-- The numbers of the variables' last flips in a try, as they are kept behind the marks of the choice.
-- Assumes nothing.
use Rattle.std.specs.Prelude.{ℕ, ◌≤◌, ◌≡◌, List, replicate}
use Rattle.plpb.specs.Novelty.{last_flip}
use Rattle.words.specs.Words.{word_at}
use Rattle.words.specs.Writes.{put}
use Rattle.format.specs.Layout.{stamp_at, stamp_byte, stamp_size}

-- The number that is kept of a variable.
abbrev pub stamp_in : List ℕ → ℕ → ℕ
stamp_in marks x = word_at marks (stamp_at x)

-- What is kept is the number of its last flip among the flips of a try, for each of n variables.
pub record Stamped (n : ℕ) (flips marks : List ℕ) : Type 0 where
  pub last : (x : ℕ) → 1 ≤ x → x ≤ n → stamp_in marks x ≡ last_flip flips x

-- At a try's start none is flipped: 0 is kept of each.
unfoldable pub unstamped : List ℕ → List ℕ
unstamped marks = put stamp_byte (replicate stamp_size 0) marks
