-- The bits of a signed number turned over.
-- Assumes nothing.
use Rattle.std.specs.Prelude.{ℤ, pos, negsuc}

unfoldable pub complement : ℤ → ℤ
complement (pos n) = negsuc n
complement (negsuc n) = pos n
