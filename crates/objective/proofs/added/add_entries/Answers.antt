-- `add_entries` meets its contract: three writes, at places that the counts say.
-- Assumes nothing.
use Rattle.objective.proofs.WordWrites.{entries_added}
use Rattle.objective.proofs.added.add_entries.Goals as goal

-- The places behind each call, the last one first.
pub returns : goal.returns
returns c =
    let args = c.args in
    entries_added args.tables.now args.count args.bound c.index-clauses.ensures c.index-rules.ensures c.index-first.ensures
    c.add_clause.ensures c.add_rule.ensures c.write_counts.ensures
