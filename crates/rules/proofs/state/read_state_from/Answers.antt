-- `read_state_from` meets its contract: the state read, seen from where the search finds the variable.
-- Assumes nothing.
use mathlib.Core.Path.{◌∙◌, sym, ap}
use Rattle.plpb.specs.Equations.{standing}
use Rattle.rules.proofs.Finding.{found_readable}
use Rattle.rules.proofs.Summing.{summed_below}
use Rattle.rules.proofs.States.{entry_readable, entry_terms, state_read, state_seen}
use Rattle.rules.proofs.state.read_state_from.Goals as goal

pub stands_at-requires : goal.stands_at-requires
stands_at-requires c =
    found_readable c.find.result c.find.ensures.among
    (entry_readable c.read_entry-e.ensures c.requires)

pub of-s-requires : goal.of-s-requires
of-s-requires c = summed_below c.scan.ensures

pub returns : goal.returns
returns c =
    let entry = c.read_entry-e.ensures in
    let stands = c.stands_at.ensures ∙ sym (c.find.ensures.stands _) ∙ ap (standing _ _) (entry_terms _ entry) in
    state_seen (state_read entry c.requires c.scan.ensures c.of-s.ensures) stands c.seen.ensures
