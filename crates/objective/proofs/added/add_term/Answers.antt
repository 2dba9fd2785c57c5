-- `add_term` meets its contract: a word of 0 is no term, any other is written behind its variable.
-- Assumes nothing.
use mathlib.Core.Path.{◌∙◌, sym}
use Rattle.objective.proofs.AddedTerms.{skipped, written}
use Rattle.objective.proofs.added.add_term.Goals as goal

pub returns-then-weight-eq0 : goal.returns-then-weight-eq0
returns-then-weight-eq0 c =
    skipped c.args.tables.now c.args.terms.now c.args.v c.args.at (sym c.word-weight.ensures ∙ c.if-weight-eq0.true)

pub returns : goal.returns
returns c =
    let args = c.args in
    written args.tables.now args.terms.now args.v args.at _ _ _ c.word-weight.ensures c.word-weight.type_inv c.if-weight-eq0.false
    c.narrow.ensures c.write_two.ensures
