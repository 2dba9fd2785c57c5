-- What a map that is lent says of the variables.
-- Assumes nothing.
use Rattle.std.specs.Prelude.{ℕ}
use Rattle.squeezed.specs.Squeezed.{Becomes, locked, renumbered}
use Rattle.fates.specs.Codes.{decoded}
use Rattle.fates.specs.declared.map.Map.{Map}
use Rattle.fates.specs.declared.map.Code.{Code}
use Rattle.fates.specs.declared.map.Code.TheVariants.{Locked, New}

-- What becomes of each.
abbrev pub codes : Map → ℕ → Becomes
codes m = decoded m.words.now

-- The same of one, as the code answers it.
abbrev pub becomes : Code → Becomes
becomes (Locked v) = locked v
becomes (New k) = renumbered k
