-- `list_clauses` meets its contract. The invariant: the lists have the variables below x. The measure is what is left.
-- Assumes nothing.
use Prim.Native.Nat.{◌+◌, ◌≤◌}
use Rattle.recount.specs.Plans.{plan}
use Rattle.columns.specs.Layout.{column_word_count, list_count_at}
use Rattle.columns.specs.Frames.{Only}
use Rattle.listing.specs.Listing.{Listing}
use Rattle.listing.proofs.list_clauses.Given as goal

abbrev pub invariant-loop-x : goal.invariant-loop-x
invariant-loop-x l = (1 ≤ l.x) × (l.x ≤ l.n + 1) × Listing (plan l.t) l.x 0 l.marks × Only (list_count_at 0) column_word_count l.initial.marks l.marks
