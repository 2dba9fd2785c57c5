-- `coefficient` meets its contract: the word that stands for the weight.
-- Assumes nothing.
use Rattle.tables.proofs.Dense.{term_lays}
use Rattle.tables.proofs.sections.coefficient.Goals as goal

pub returns : goal.returns
returns c = term_lays _ _ c.read_size.ensures c.read_u32.ensures (λ i. (c.shared_slice_known-1.given i).fits)
