-- `entries::zone_fault` meets its contract.
-- Assumes nothing.
use mathlib.Core.Path.{sym, ◌∙◌}
use Rattle.entries.proofs.Tests.{zone_51, least_52, zone_by}
use Rattle.entries.proofs.zone_fault.Goals as goal

pub returns-then-not-zone_formed : goal.returns-then-not-zone_formed
returns-then-not-zone_formed c x h g = zone_51 x (sym (c.zone_formed.ensures x h g) ∙ c.if-not-zone_formed.true)

pub returns-then-is_above : goal.returns-then-is_above
returns-then-is_above c x h g =
    least_52 x _ h.second_is (sym (c.zone_formed.ensures x h g) ∙ c.if-not-zone_formed.false) c.is_above.ensures c.if-is_above.true

pub returns-then-is_above-2 : goal.returns-then-is_above-2
returns-then-is_above-2 c x h g =
    zone_by x _ h.second_is (sym (c.zone_formed.ensures x h g) ∙ c.if-not-zone_formed.false) c.is_above.ensures _ h.third_is c.if-is_above.false c.is_above-2.ensures c.if-is_above-2.true

pub returns : goal.returns
returns c x h g =
    zone_by x _ h.second_is (sym (c.zone_formed.ensures x h g) ∙ c.if-not-zone_formed.false) c.is_above.ensures _ h.third_is c.if-is_above.false c.is_above-2.ensures c.if-is_above-2.false
