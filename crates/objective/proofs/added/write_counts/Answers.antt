-- `write_counts` meets its contract: two words and one behind them.
-- Assumes nothing.
use native.Mathlib.Omega.{arith}
use Rattle.objective.proofs.WordWrites.{counts_written}
use Rattle.objective.proofs.added.write_counts.Goals as goal

-- The places behind each call, the last one first.
pub returns : goal.returns
returns c =
    counts_written c.args.tables.now (omega (arith, c.requires)) c.narrow.ensures c.narrow-2.ensures
    c.narrow-3.ensures c.write_two.ensures c.write_word.ensures
