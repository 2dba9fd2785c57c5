-- The entries of a field of locks judged one after the other.
-- Assumes nothing.
use Rattle.std.specs.Prelude.{ℕ, not, leb, ltb}
use Rattle.plpb.specs.Lists.{◌and◌}
use Rattle.format.specs.File.{refuse}

-- "5 for a wrong number as in terms" (outside 1 to n or not above the one before, v), "10 for another value (after 5 of that entry)"
unfoldable pub entry_fault : ℕ → ℕ → ℕ → ℕ → ℕ
entry_fault n v variable value = refuse (not (ltb v variable and leb variable n)) 5 (refuse (ltb 1 value) 10 0)
