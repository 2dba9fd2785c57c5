-- `opb_read::fill_terms` meets its contract.
-- Assumes nothing.
use Rattle.tables.proofs.Whole.{terms_whole}
use Rattle.opb_fill.proofs.Accepted.{lawful_text}
use Rattle.opb_read.proofs.fill_terms.Goals as goal

pub returns : goal.returns
returns c =
    terms_whole _ (lawful_text _ _ c.args.lawful.says) _ _ c.requires.term_size_in_bounds c.term_section.ensures
