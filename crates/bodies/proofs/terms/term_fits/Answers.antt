-- `terms::term_fits` meets its contract: the number, then the weight.
-- Assumes nothing.
use mathlib.Core.Path.{sym, ◌∙◌}
use Rattle.bodies.proofs.Ranges.{between}
use Rattle.bodies.proofs.TermLaws.{fit_sized, unfit}
use Rattle.bodies.proofs.terms.term_fits.Goals as goal

pub returns-then-not-takes : goal.returns-then-not-takes
returns-then-not-takes c = unfit _ _ _ _ (sym c.takes.ensures ∙ c.if-not-takes.true)

pub returns : goal.returns
returns c =
    let r = c.new.ensures in
    fit_sized _ _ _ _ (sym c.takes.ensures ∙ c.if-not-takes.false) (between _ r.start r.end r.exhausted c.contains.ensures.value)
