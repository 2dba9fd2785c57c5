-- `draft::put_term` meets its contract.
-- Assumes nothing.
use native.Mathlib.Omega.{arith}
use Rattle.draft.proofs.Writing.{term_none, term_some}
use Rattle.draft.proofs.put_term.Goals as goal

pub returns-then-weight-eq0 : goal.returns-then-weight-eq0
returns-then-weight-eq0 c = (term_none _ _ _ _ c.if-weight-eq0.true, omega arith)

pub returns : goal.returns
returns c = (term_some _ _ _ _ c.if-weight-eq0.false c.put_term.ensures, omega arith)
