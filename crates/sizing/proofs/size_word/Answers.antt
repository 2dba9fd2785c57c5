-- `size_word` meets its contract, by cases on the size.
-- Assumes nothing.
use borrow.Author.Rules.{rules}
use mathlib.Core.Path.{◌≡◌}
use Rattle.counting.specs.Bound.{bound_of}
use Rattle.counting.proofs.Bounds.{by_bound}
use Rattle.columns.specs.Columns.{size_word}
use Rattle.sizing.proofs.size_word.Goals as goal

pub returns : goal.returns
unfolding size_word
returns c = by_bound (λ b. c.map_or.result ≡ size_word (bound_of b)) c.args.size c.map_or.ensures (λ e. e) (λ k h. search rules)
