-- The terms of a sum that is lent, and what a weight gives to its least or its greatest total.
-- Assumes nothing.
use Rattle.std.specs.Prelude.{◌≡◌, Bool, List, ℤ}
use Rattle.plpb.specs.Plan.{Term}
use Rattle.words.specs.Words.{word_at}
use Rattle.extremes.specs.Terms.{terms_in, part_of}
use Rattle.extremes.specs.declared.sum.Sum.{Sum}

abbrev pub terms_of : Sum → List Term
terms_of s = terms_in (word_at s.terms.now) s.first s.count

-- What a call may give for a weight is what the weight gives.
abbrev pub Parts : (ℤ → ℤ → Type 0) → Bool → Type 0
Parts gives greatest = (w r : ℤ) → gives w r → r ≡ part_of greatest w
