-- `list_run` meets its contract. The invariant: the entries before k are gone through. The measure is what is left.
-- Assumes nothing.
use Prim.Native.Nat.{◌-◌, ◌≤◌}
use Rattle.words.specs.Words.{word_at}
use Rattle.format.specs.Layout.{end_at}
use Rattle.recount.specs.Plans.{plan}
use Rattle.columns.specs.Layout.{column_word_count, list_count_at}
use Rattle.columns.specs.Frames.{Only}
use Rattle.listing.specs.Listing.{Listing}
use Rattle.listing.proofs.Variable.list_run.Given as goal

abbrev pub invariant-loop-k : goal.invariant-loop-k
invariant-loop-k l =
    (word_at l.self.plan.tables.now (end_at (l.self.x - 1)) ≤ l.k) × (l.k ≤ l.k-end) × Listing (plan l.self.plan) l.self.x (l.k - word_at l.self.plan.tables.now (end_at (l.self.x - 1))) l.marks
    × Only (list_count_at 0) column_word_count l.initial.marks l.marks
