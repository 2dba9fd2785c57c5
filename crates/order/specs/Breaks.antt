-- Whether a flip breaks a clause, told without a count.
-- Assumes nothing.
use Rattle.std.specs.Prelude.{ℕ, ◌+◌, Bool, false, List, ltb, leb}
use Rattle.plpb.specs.Lists.{◌and◌, ◌or◌, any, all}
use Rattle.plpb.specs.Plan.{Rule, Assignment, Bound, absent, present}
use Rattle.plpb.specs.Equations.{shares_of}

-- The flip spoils some part of a rule: 0 < e.
unfoldable pub spoils_part : Assignment → ℕ → Rule → Bool
spoils_part a x q = ltb 0 (shares_of a x q).e

-- Some part of it is false after the flip: 0 < e + g.
unfoldable pub false_after : Assignment → ℕ → Rule → Bool
false_after a x q = ltb 0 ((shares_of a x q).e + (shares_of a x q).g)

-- A joined part is spoiled where each rule has a part that is false after the flip, and one of them was true before it: of this rule or of one seen before.
unfoldable pub breaks_along : Assignment → ℕ → Bool → List Rule → Bool
breaks_along a x seen rs = all (false_after a x) rs and (seen or any (spoils_part a x) rs)

-- A bound of size k that m and w more reach, where m alone does not choose as many: the threshold by which a rule is spoiled.
unfoldable pub reaches : ℕ → ℕ → Bound ℕ → Bool
reaches m w absent = false
reaches m w (present k) = ltb 0 k and (ltb 0 w and leb k (m + w))
