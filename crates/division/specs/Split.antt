-- A list of numbers split among races by their stakes (02, T-10), for any number of races and a list of any length.
-- Assumes nothing.
use Rattle.std.specs.Prelude.{ℕ, zero, suc, ◌+◌, ◌-◌, ◌*◌, ◌/◌, ◌<◌, ◌≡◌, Bool, cond, List, [], ◌∷◌, leb, ltb, eqb, length, get_or, take}
use Rattle.plpb.specs.Lists.{◌and◌, ◌or◌, all}
-- A part of the list: its first place and its length, "places from 0".
use Rattle.division.specs.declared.Part.{Part}

-- All stakes together.
unfoldable pub sum : List ℕ → ℕ
sum [] = 0
sum (s ∷ ss) = s + sum ss

-- "Race i gets the whole part of (numbers times stake over all stakes)"
unfoldable pub whole_parts : ℕ → ℕ → List ℕ → List ℕ
whole_parts numbers total [] = []
whole_parts numbers total (s ∷ ss) = (numbers * s / total) ∷ whole_parts numbers total ss

-- "and what remains goes one each to the first races."
unfoldable pub one_each : ℕ → List ℕ → List ℕ
one_each zero ls = ls
one_each (suc k) [] = []
one_each (suc k) (l ∷ ls) = suc l ∷ one_each k ls

unfoldable pub lengths : ℕ → List ℕ → List ℕ
lengths numbers stakes = let ls = whole_parts numbers (sum stakes) stakes in one_each (numbers - sum ls) ls

-- "The parts follow one another."
unfoldable pub parts : ℕ → List ℕ → List Part
parts from [] = []
parts from (l ∷ ls) = record { first = from; length = l } ∷ parts (from + l) ls

unfoldable pub split : ℕ → List ℕ → List Part
split numbers stakes = parts 0 (lengths numbers stakes)

-- "each race a stake from 1 to 100"
unfoldable pub lawful_stake : ℕ → Bool
lawful_stake s = leb 1 s and leb s 100

-- "Turned away: 61 for a list of no record or more than 8, 62 for a stake, before any search"
unfoldable pub split_refusal : List ℕ → ℕ
split_refusal stakes = cond (eqb (length stakes) 0 or ltb 8 (length stakes)) 61 (cond (all lawful_stake stakes) 0 62)

-- The same behind a refusal that was found before, 0 for none; and the parts, which no races have that are turned away.
unfoldable pub refusal_after : ℕ → List ℕ → ℕ
refusal_after before stakes = cond (eqb before 0) (split_refusal stakes) before

unfoldable pub parts_after : ℕ → ℕ → List ℕ → List Part
parts_after before numbers stakes = cond (eqb (refusal_after before stakes) 0) (split numbers stakes) []

-- Every number is in a part: the lengths come to the whole list, where some stake is not 0.
abbrev pub SplitsAll : Type 0
SplitsAll = (numbers : ℕ) (stakes : List ℕ) → 0 < sum stakes → sum (lengths numbers stakes) ≡ numbers

-- A part begins where those before it end, whatever the lengths are.
abbrev pub FollowOne : Type 0
FollowOne = (ls : List ℕ) (i : ℕ) (p : Part) → i < length ls → get_or (parts 0 ls) i p ≡ record { first = sum (take i ls); length = get_or ls i 0 }
