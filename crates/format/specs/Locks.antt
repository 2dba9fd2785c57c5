-- The lock that a word of the tables tells: 0 for unlocked, 1 for locked at 0, 2 for locked at 1.
-- Assumes nothing.
use Rattle.std.specs.Prelude.{ℕ, Bool, not, cond, eqb, Option, None, Some}

unfoldable pub lock_of : ℕ → Option Bool
lock_of word = cond (eqb word 0) None (Some (not (eqb word 1)))
