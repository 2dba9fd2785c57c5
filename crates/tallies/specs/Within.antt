-- "Places past the full limits are neither read nor written." (document 01, "Who can cause which refusal"): what is lent may differ there, and no
-- answer and no byte within the limits tells of it.
-- Assumes nothing.
use Rattle.std.specs.Prelude.{◌≡◌}
use Rattle.plpb.specs.Book.{Call}
use Rattle.words.specs.Writes.{SameWithin}
use Rattle.format.specs.Tables.{table_size, term_size}
use Rattle.tallies.specs.Layout.{assignment_size, tally_size}
use Rattle.tallies.specs.Calls.{Lent, open_refusal, answer, left_by}
use Rattle.tallies.specs.Demand.{opened}

-- What is lent is the same within the full limits.
pub record SameLent (l m : Lent) : Type 0 where
  pub tables : SameWithin table_size l.tables m.tables
  pub terms : SameWithin term_size l.terms m.terms
  pub assignment : SameWithin assignment_size l.assignment m.assignment
  pub tallies : SameWithin tally_size l.tallies m.tallies

abbrev pub OpensWithin : Type 0
OpensWithin = (l m : Lent) → SameLent l m → (open_refusal l ≡ open_refusal m) × SameLent (opened l) (opened m)

-- A flip or a counts call.
abbrev pub CallsWithin : Type 0
CallsWithin = (l m : Lent) (c : Call) → SameLent l m → (answer l c ≡ answer m c) × SameLent (left_by l c) (left_by m c)
