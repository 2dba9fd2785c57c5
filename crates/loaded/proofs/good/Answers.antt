-- `loaded::good` meets its contract: short tables are none that a loading leaves, and of full ones the test by words is the test.
-- Assumes nothing.
use mathlib.Core.Path.{sym, ◌∙◌}
use Rattle.format.specs.Good.{good_by}
use Rattle.format.proofs.Bools.{and_first, and_stop}
use Rattle.format.proofs.IsLoaded.{is_loaded_good, short_tables, short_terms}
use Rattle.loaded.proofs.good.Goals as goal

pub returns-then-tables-lt-TABLES : goal.returns-then-tables-lt-TABLES
returns-then-tables-lt-TABLES c = sym (short_tables _ _ c.if-tables-lt-TABLES.true)

pub returns-then-terms-lt-TERMS : goal.returns-then-terms-lt-TERMS
returns-then-terms-lt-TERMS c = sym (short_terms _ _ c.if-terms-lt-TERMS.true)

pub returns-then-not-base_good : goal.returns-then-not-base_good
unfolding good_by
returns-then-not-base_good c =
    sym (and_stop _ _ (sym c.base_good.ensures ∙ c.if-not-base_good.true))
    ∙ sym (is_loaded_good _ _ (λ i. (c.shared_slice_known-1.given i).fits) (λ i. (c.shared_slice_known-2-1.given i).fits) c.if-tables-lt-TABLES.false c.if-terms-lt-TERMS.false)

pub returns : goal.returns
unfolding good_by
returns c =
    c.order_good.ensures
    ∙ sym (and_first _ _ (sym c.base_good.ensures ∙ c.if-not-base_good.false))
    ∙ sym (is_loaded_good _ _ (λ i. (c.shared_slice_known-1.given i).fits) (λ i. (c.shared_slice_known-2-1.given i).fits) c.if-tables-lt-TABLES.false c.if-terms-lt-TERMS.false)
