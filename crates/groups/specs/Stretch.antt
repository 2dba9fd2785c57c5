-- How far the places of one clause go in a variable's run.
-- Assumes nothing.
use Rattle.std.specs.Prelude.{ℕ, ◌+◌, get_or}
use Rattle.plpb.specs.Plan.{Plan}
use Rattle.order.specs.Order.{order, run_end, cut}
use Rattle.order.specs.Blocks.{same_clause}
use Rattle.columns.specs.Columns.{no_place}

-- Where the group ends that begins at place k of x's run.
abbrev pub group_end : Plan → ℕ → ℕ → ℕ
group_end p x k = k + same_clause (get_or (order p) k no_place).clause (cut k (run_end p x) (order p))
