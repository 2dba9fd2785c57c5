-- `terms::keep_term` meets its contract, by what becomes of the term's variable.
-- Assumes nothing.
use mathlib.Core.Path.{sym, ap, ◌∙◌}
use Rattle.fates.specs.Maps.{codes, becomes}
use Rattle.rewriting.proofs.Termwise.{term_dropped, term_kept}
use Rattle.rewriting.proofs.terms.keep_term.Goals as goal

pub returns-in-Locked : goal.returns-in-Locked
returns-in-Locked c = term_dropped _ _ _ _ (ap (codes c.args.map) (sym c.read_size.ensures) ∙ sym c.code.ensures ∙ ap becomes c.in-Locked.is)

pub returns-in-New : goal.returns-in-New
returns-in-New c =
    term_kept _ _ _ _ (ap (codes c.args.map) (sym c.read_size.ensures) ∙ sym c.code.ensures ∙ ap becomes c.in-New.is)
    c.read_u32-weight.ensures c.read_u32-weight.type_inv c.put_term.ensures
