-- Tables whose base has passed its test: each entry says where its part is, so that what a word of the order names can be read.
-- Assumes nothing.
use Rattle.std.specs.Prelude.{ℕ, ◌≤◌, ◌≡◌, true, List, length}
use Rattle.words.specs.Words.{word_at}
use Rattle.format.specs.Layout.{table_size, term_size}
use Rattle.format.specs.Good.{base_good}

pub record Ready (tables terms : List ℕ) : Type 0 where
  pub base : base_good (word_at tables) (word_at terms) ≡ true
  pub long : table_size ≤ length tables
  pub body : term_size ≤ length terms
