-- `entries::site_fault` meets its contract.
-- Assumes nothing.
use mathlib.Core.Path.{sym, ◌∙◌}
use Rattle.entries.proofs.Tests.{site_51, site_by}
use Rattle.entries.proofs.site_fault.Goals as goal

pub returns-then-not-site_formed : goal.returns-then-not-site_formed
returns-then-not-site_formed c x h = site_51 x (sym (c.site_formed.ensures x h) ∙ c.if-not-site_formed.true)

pub returns-then-is_above : goal.returns-then-is_above
returns-then-is_above c x h =
    site_by x _ h.second_is (sym (c.site_formed.ensures x h) ∙ c.if-not-site_formed.false) c.is_above.ensures c.if-is_above.true

pub returns : goal.returns
returns c x h = site_by x _ h.second_is (sym (c.site_formed.ensures x h) ∙ c.if-not-site_formed.false) c.is_above.ensures c.if-is_above.false
