-- `rule::terms` meets its contract: a rule's terms are those of its field.
-- Assumes nothing.
use native.Mathlib.Omega.{arith}
use mathlib.Core.Path.{refl}
use Rattle.fates.proofs.Judging.{rule_room_lem, terms_fit, terms_taken}
use Rattle.fates.proofs.rule.terms.Goals as goal

pub terms_of-count-requires : goal.terms_of-count-requires
terms_of-count-requires c = let r = c.requires in (omega (arith, rule_room_lem r), omega (arith, r.size))

pub overflow_add-result : goal.overflow_add-result
overflow_add-result c = omega (arith, rule_room_lem c.requires)

pub returns : goal.returns
returns c = (refl, terms_taken c.requires c.terms_of-count.ensures)

pub invariant_of-result : goal.invariant_of-result
invariant_of-result c = record { fits = terms_fit c.requires c.terms_of-count.ensures }
