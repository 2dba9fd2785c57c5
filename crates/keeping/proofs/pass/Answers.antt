-- `pass` meets its contract: first the rule, then the clause.
-- Assumes nothing.
use Rattle.keeping.proofs.Turning.{place_turned}
use Rattle.keeping.proofs.pass.Goals as goal

pub returns : goal.returns
returns c =
    let d = rw (c.was_true.ensures, c.rule_in.ensures) at c.turn_rule-change.ensures in
    place_turned c.requires d (rw c.clause_in.ensures at c.pass_change.ensures)
