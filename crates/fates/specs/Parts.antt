-- The terms that are lent, and what a closure gives of one of them.
-- Assumes nothing.
use Rattle.std.specs.Prelude.{◌≡◌, List, ℤ}
use Rattle.plpb.specs.Plan.{Term}
use Rattle.format.specs.File.{terms_at}
use Rattle.fates.specs.Maps.{becomes}
use Rattle.fates.specs.Sums.{Part, part_of}
use Rattle.fates.specs.declared.map.Code.{Code}
use Rattle.fates.specs.declared.terms.Terms.{Terms}

abbrev pub terms_of : Terms → List Term
terms_of t = terms_at t.file.now t.from t.count

-- What a call may give for a term is its part of a sum.
abbrev pub Gives : (Code → ℤ → ℤ → Type 0) → Part → Type 0
Gives gives part = (code : Code) (w r : ℤ) → gives code w r → r ≡ part_of part (becomes code) w
