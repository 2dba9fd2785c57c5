-- "The races stand in the lent list as records of stake, first place and length; the call writes the last two, places from 0." (02, T-10)
-- Assumes nothing.
use Rattle.std.specs.Prelude.{ℕ, zero, suc, ◌+◌, ◌*◌, List, [], ◌∷◌, get_or, set}
use Rattle.division.specs.declared.Part.{Part}
use Rattle.races.specs.declared.Race.{Race}

unfoldable pub stakes_of : List Race → List ℕ
stakes_of [] = []
stakes_of (r ∷ rs) = r.stake ∷ stakes_of rs

-- A race with its part, its stake as it was.
unfoldable pub with_part : Part → Race → Race
with_part p r = record { stake = r.stake; first = p.first; length = p.length }

-- The races with these parts, the first with the first. Those past the last part are as they were.
unfoldable pub placed : List Part → List Race → List Race
placed [] rs = rs
placed (p ∷ ps) [] = []
placed (p ∷ ps) (r ∷ rs) = with_part p r ∷ placed ps rs

-- One race of them.
unfoldable pub placed_at : List Part → ℕ → Race → Race
placed_at [] i r = r
placed_at (p ∷ ps) zero r = with_part p r
placed_at (p ∷ ps) (suc i) r = placed_at ps i r

-- The records as plain numbers, three for each race: the stakes, and the list with these parts, the first race with the first. Numbers past the last whole
-- record are no race's.
unfoldable pub stakes_in : List ℕ → List ℕ
stakes_in [] = []
stakes_in (s ∷ []) = []
stakes_in (s ∷ f ∷ []) = []
stakes_in (s ∷ f ∷ l ∷ ns) = s ∷ stakes_in ns

unfoldable pub parts_put : List Part → List ℕ → List ℕ
parts_put [] ns = ns
parts_put (p ∷ ps) [] = []
parts_put (p ∷ ps) (s ∷ []) = s ∷ []
parts_put (p ∷ ps) (s ∷ f ∷ []) = s ∷ f ∷ []
parts_put (p ∷ ps) (s ∷ f ∷ l ∷ ns) = s ∷ p.first ∷ p.length ∷ parts_put ps ns

-- One race's part put there.
unfoldable pub put_at : List Part → ℕ → List ℕ → List ℕ
put_at ps i ns =
    let r = placed_at ps i (record { stake = 0; first = get_or ns (3 * i + 1) 0; length = get_or ns (3 * i + 2) 0 }) in
    set (set ns (3 * i + 1) r.first) (3 * i + 2) r.length
