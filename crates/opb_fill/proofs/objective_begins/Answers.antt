-- `opb_fill::objective_begins` meets its contract.
-- Assumes nothing.
use Rattle.tokens.proofs.Runs.{whole, behind}
use Rattle.opb_fill.proofs.Filled.{first_behind, objective_here_lem, objective_none}
use Rattle.opb_fill.proofs.objective_begins.Goals as goal

pub returns-then-text : goal.returns-then-text
returns-then-text c = objective_here_lem _ _ (first_behind (behind (whole c.from.result c.from.ensures) c.next_line.ensures) c.first_from-text.ensures) c.if-text.true c.objective_sum.ensures

pub returns-else-text : goal.returns-else-text
returns-else-text c = objective_none _ _ (first_behind (behind (whole c.from.result c.from.ensures) c.next_line.ensures) c.first_from-text.ensures) c.if-text.false
