-- `draft::put_rule` meets its contract: the terms, then what stands before them.
-- Assumes nothing.
use native.Mathlib.Omega.{arith}
use Rattle.draft.proofs.Rules.{rule_wrote, bounds_written}
use Rattle.draft.proofs.put_rule.Goals as goal

pub returns : goal.returns
returns c = (
  λ name h. rule_wrote _ _ _ _ _ _ (omega (arith, c.requires)) (c.put_terms-end.ensures.0 name h) (bounds_written _ _ _ _ c.mode_of.ensures c.unwrap_or.ensures c.put_bounds.ensures),
  c.put_terms-end.ensures.1,
)
