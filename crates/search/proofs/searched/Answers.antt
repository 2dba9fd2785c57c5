-- `searched` meets its contract: all that the search rules has been tested.
-- Assumes nothing.
use mathlib.Core.Path.{ap, ◌∙◌}
use mathlib.Core.List.{◌++◌}
use lib.ListN.{replicate}
use mir.Syntax.{w64}
use mir.Val.{SFits}
use Rattle.format.specs.Tables.{table_size, term_size}
use Rattle.search.proofs.Refusing.{accepted, still_long}
use Rattle.search.proofs.Handing.{searched, hands}
use Rattle.search.proofs.searched.Goals as goal

pub clear_work-requires : goal.clear_work-requires
clear_work-requires c =
    let s = accepted _ _ c.requires in (
      still_long s.work_long c.work_tables-1.given,
      still_long s.work_long_terms c.work_terms-1.given,
      still_long s.work.assignment c.work_assignment-1.given,
      still_long s.work.tallies c.work_tallies-1.given,
      still_long s.work.marks c.work_marks-1.given,
    )

pub returns : goal.returns
returns c =
    let z = c.requires in
    let q = c.clear_work.ensures in
    let x = c.search_core-r.ensures in
    let fits : SFits w64 c.search_core-r.result.progress.cost = record { sfits = c.struct_told-1.given.1.0.1.1.0.1 } in record {
      searches = searched _ _ z x.0 c.from.ensures fits
          (q.tables_after ∙ ap (λ s. replicate table_size 0 ++ s) x.1)
          (q.terms_after ∙ ap (λ s. replicate term_size 0 ++ s) x.2)
          q.tried_after
          q.tallies_after
          q.marks_after;
      hands_out = hands _ _ z x.0 c.from.ensures fits;
    }

pub search_core-r-requires : goal.search_core-r-requires
search_core-r-requires c = accepted _ _ c.requires
