-- `search_core` meets its contract: what the first call comes to decides, and the copied tables hold the plan.
-- Assumes nothing.
use mathlib.Core.Path.{◌∙◌}
use Rattle.finds.proofs.Whole.{searchable_copy, first_called, first_whole, first_table, first_terms, same_room}
use Rattle.walk.proofs.search_core.Goals as goal

pub from_call-requires : goal.from_call-requires
from_call-requires c =
    let pre = c.requires in
    first_called (searchable_copy pre) c.first_call-t.ensures pre.room (same_room pre.work c.tried-1.given c.tallies-1.given c.marks-1.given)

pub returns : goal.returns
returns c =
    let h = searchable_copy c.requires in
    let f = c.first_call-t.ensures in
    let k = c.from_call.ensures in
    (first_whole h f k.0, k.1 ∙ first_table h f, k.2 ∙ first_terms h f)
