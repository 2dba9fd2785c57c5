-- The split over an array of 8 stakes, 0 where there is no race: what the code works on. proofs/Plain.antt ties it to the plain list of stakes.
-- Assumes nothing.
use Rattle.std.specs.Prelude.{ℕ, suc, Bool, false, not, cond, List, [], ◌∷◌, ◌++◌, ltb, eqb, length, take, replicate, Result, Ok, Err}
use Rattle.plpb.specs.Lists.{◌or◌}
use Rattle.division.specs.declared.Stakes.{Stakes}
use Rattle.division.specs.declared.Parts.{Parts}
use Rattle.division.specs.declared.Refusal.{Refusal}
use Rattle.division.specs.declared.Refusal.TheVariants.{NoRoom, WrongCount, WrongStake}
use Rattle.division.specs.declared.Part.{Part}
use Rattle.division.specs.Split.{lawful_stake, lengths, parts}

-- The stakes of a list of races: how many there are, and the first 8, 0 where there is no race.
unfoldable pub kept : List ℕ → Stakes
kept ss = record { count = length ss; stakes = take 8 (ss ++ replicate 8 0) }

-- The parts of as many races as there are.
unfoldable pub laid : Parts → List Part
laid p = take p.count p.parts

-- The number of a refusal; what is answered as such a number, 0 for none, and as parts, none for a refusal.
unfoldable pub refusal_number : Refusal → ℕ
refusal_number NoRoom = 21
refusal_number WrongCount = 61
refusal_number WrongStake = 62

unfoldable pub refusal_in : Result Parts Refusal → ℕ
refusal_in (Ok p) = 0
refusal_in (Err r) = refusal_number r

unfoldable pub parts_in : Result Parts Refusal → List Part
parts_in (Ok p) = laid p
parts_in (Err r) = []

-- Whether a stake is outside 1 to 100, or not 0 where there is no race; and whether one of some is.
unfoldable pub bad_at : ℕ → ℕ → ℕ → Bool
bad_at count i s = cond (ltb i count) (not (lawful_stake s)) (not (eqb s 0))

unfoldable pub bad_from : ℕ → ℕ → List ℕ → Bool
bad_from count i [] = false
bad_from count i (s ∷ ss) = bad_at count i s or bad_from count (suc i) ss

-- What a race gets of r numbers that remain.
unfoldable pub extra_at : ℕ → ℕ → ℕ
extra_at i r = cond (ltb i r) 1 0

unfoldable pub lawful_parts : ℕ → List ℕ → ℕ → Parts
lawful_parts count ss numbers = record { count = count; parts = parts 0 (lengths numbers ss) }

-- 61 for no race or more than 8, 62 for a stake.
unfoldable pub divided : Stakes → ℕ → Result Parts Refusal
divided s numbers =
    cond (eqb s.count 0) (Err WrongCount)
    (cond (ltb 8 s.count) (Err WrongCount)
    (cond (not (bad_from s.count 0 s.stakes)) (Ok (lawful_parts s.count s.stakes numbers)) (Err WrongStake)))
