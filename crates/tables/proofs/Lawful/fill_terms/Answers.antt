-- `tables::fill_terms` meets its contract: what stands past the full limits is as before.
-- Assumes nothing.
use Rattle.tables.proofs.Filled.{lawful_file}
use Rattle.tables.proofs.Whole.{terms_whole}
use Rattle.tables.proofs.Lawful.fill_terms.Goals as goal

pub returns : goal.returns
returns c =
    terms_whole _ (lawful_file _ _ c.args.self.accepts) _ _ c.requires.term_size_in_bounds c.term_section.ensures
