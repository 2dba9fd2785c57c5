-- The goals that the search leaves.
use native.Mathlib.Omega.{arith}
use Rattle.recount.proofs.Laid.{tables_long, variables_word}
use Rattle.columns.proofs.Frames.{only_next}
use Rattle.listing.proofs.Listing.{all_listed}
use Rattle.listing.proofs.list_clauses.Goals as goal

pub index-n-requires : goal.index-n-requires
index-n-requires c = omega (arith, tables_long _ _ c.args.t.now.laid)

pub invariant_of-variable : goal.invariant_of-variable
invariant_of-variable c = record { low = c.loop-x.invariant.0; high = omega (arith, c.loop-x-test.true, c.index-n.ensures, variables_word _ _ c.args.t.now.laid) }

pub returns : goal.returns
returns c = (all_listed c.args.t.now.laid c.index-n.ensures c.loop-x.invariant.1 c.loop-x-test.false c.loop-x.invariant.2, only_next c.clear_counts.ensures.1 c.loop-x.invariant.3)

-- The last variable is listed.
pub returns-2 : goal.returns-2
returns-2 c = (all_listed c.args.t.now.laid c.index-n.ensures (omega arith) (omega arith) c.list.ensures.0, only_next c.clear_counts.ensures.1 (only_next c.loop-x.invariant.3 c.list.ensures.1))
