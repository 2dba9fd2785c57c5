-- `Map::code` meets its contract, by the word.
-- Assumes nothing.
use native.Mathlib.Omega.{arith}
use mathlib.Core.Path.{sym, ap, ◌∙◌}
use Rattle.fates.specs.Codes.{decode, decoded}
use Rattle.fates.proofs.Parts.{decode_off, decode_on, decode_other}
use Rattle.fates.proofs.map.Map.code.Goals as goal

pub returns-in-513 : goal.returns-in-513
unfolding decoded
returns-in-513 c = decode_off _ c.in-513.is ∙ ap decode c.word.ensures

pub returns-in-514 : goal.returns-in-514
unfolding decoded
returns-in-514 c = decode_on _ c.in-514.is ∙ ap decode c.word.ensures

pub returns-in_default : goal.returns-in_default
unfolding decoded
returns-in_default c = sym (decode_other _ (λ e. absurd (omega (arith, e))) (λ e. absurd (omega (arith, e)))) ∙ ap decode c.word.ensures
