-- What the walk writes, and what it leaves as it was.
-- Assumes nothing.
use Rattle.std.specs.Prelude.{ℕ, ◌≡◌, List, drop}
use Rattle.columns.specs.Layout.{column_size, kept_size}

-- What the walk writes: an assignment, its tallies, and the choice's marks with the numbers of the last flips.
pub record Work : Type 0 where
  pub assignment : List ℕ
  pub tallies : List ℕ
  pub marks : List ℕ

abbrev pub work : List ℕ → List ℕ → List ℕ → Work
work assignment tallies marks = record { assignment = assignment; tallies = tallies; marks = marks }

-- Nothing past the bytes that the walk uses has changed.
pub record Beyond (n : ℕ) (w v : Work) : Type 0 where
  pub assignment : drop n v.assignment ≡ drop n w.assignment
  pub tallies : drop kept_size v.tallies ≡ drop kept_size w.tallies
  pub marks : drop column_size v.marks ≡ drop column_size w.marks
