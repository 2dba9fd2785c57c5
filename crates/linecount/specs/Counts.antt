-- What counting a text's lines needs: the entries of clauses and rules stand in the tables.
-- Assumes nothing.
use Rattle.std.specs.Prelude.{ℕ, ◌+◌, ◌*◌, ◌≤◌, ◌<◌, List, length}
use Rattle.words.specs.Words.{word_at}
use Rattle.format.specs.Layout.{clause_first_at, clause_count_at, rule_first_at}

pub record CountsFit (tables : List ℕ) : Type 0 where
  pub entries : 4 * clause_first_at (word_at tables 1) ≤ length tables
  pub variables : word_at tables 0 ≤ 512
  pub clauses : word_at tables 1 ≤ 512
  pub rules : (c : ℕ) → c < word_at tables 1 → word_at tables (clause_first_at c) + word_at tables (clause_count_at c) ≤ 1_024
  pub room : 4 * rule_first_at 1_024 ≤ length tables
