-- `loaded::base_good` meets its contract: the parts of the test, one after another. The counts come first, since they bound the loops.
-- Assumes nothing.
use mathlib.Core.Path.{ap}
use mathlib.Core.Bool.{not}
use Rattle.words.specs.Words.{word_at}
use Rattle.format.proofs.Bools.{both}
use Rattle.format.proofs.Good.{zeros_are}
use Rattle.loaded.proofs.Parts.{limited, counts_refused, parts_whole}
use Rattle.loaded.proofs.base_good.Goals as goal

pub returns-then-not-counts_good : goal.returns-then-not-counts_good
returns-then-not-counts_good c =
    counts_refused _ _ c.index-variables.ensures c.index-clauses.ensures c.index-rules.ensures c.index-total.ensures
    c.counts_good.ensures (ap not c.if-not-counts_good.true)

pub invariant_of-counted : goal.invariant_of-counted
invariant_of-counted c =
    let f = word_at c.args.tables.now in
    let w =
    limited f f c.index-variables.ensures c.index-clauses.ensures c.index-rules.ensures c.index-total.ensures
    c.counts_good.ensures (ap not c.if-not-counts_good.false) in
    record {
      long = (c.requires.table_size_in_bounds, c.requires.term_size_in_bounds);
      counts = (c.index-variables.ensures, c.index-clauses.ensures, c.index-rules.ensures, c.index-total.ensures);
      limits = (w.variables_fit, w.clauses_fit, w.rules_fit, w.terms_fit);
    }

pub returns : goal.returns
returns c =
    rw (both, both, both, both)
    (parts_whole _ _ c.index-variables.ensures c.index-clauses.ensures c.index-rules.ensures c.index-total.ensures
    c.counts_good.ensures (ap not c.if-not-counts_good.false) c.objective_good.ensures
    c.clauses_good.ensures c.rules_good.ensures (zeros_are _ _ _ _ c.zeros.ensures)
    c.locks_good.ensures)
