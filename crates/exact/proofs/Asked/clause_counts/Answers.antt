-- `clause_counts` meets its contract: a clause that does not name the variable is not changed by its flip; of any other the shares tell the counts.
-- Assumes nothing.
use mathlib.Core.Path.{sym, ◌∙◌}
use Rattle.exact.proofs.Summing.{shares_break, shares_make, none_broken, none_made}
use Rattle.exact.proofs.Asked.clause_counts.Goals as goal

pub returns-then-not-clause_names : goal.returns-then-not-clause_names
returns-then-not-clause_names c =
    let e = sym c.clause_names.ensures ∙ c.if-not-clause_names.true in
    record { breaks = none_broken _ _ _ e; makes = none_made _ _ _ e }

pub returns : goal.returns
returns c =
    let s = c.clause_shares-s.ensures in
    record { breaks = shares_break _ _ _ _ s; makes = shares_make _ _ _ _ s }
