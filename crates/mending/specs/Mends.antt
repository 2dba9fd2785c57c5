-- Whether a flip mends something, told without a count.
-- Assumes nothing.
use Rattle.std.specs.Prelude.{ℕ, Bool, ltb}
use Rattle.plpb.specs.Plan.{Rule, Assignment}
use Rattle.plpb.specs.Equations.{shares_of}

-- The flip mends some part of a rule: 0 < f.
unfoldable pub mends_part : Assignment → ℕ → Rule → Bool
mends_part a x q = ltb 0 (shares_of a x q).f
