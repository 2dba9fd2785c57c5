-- Taking numbers from the list drawn beforehand (document 01, "The walk"). A place in the list is how many numbers are used.
-- Assumes nothing.
use Rattle.std.specs.Prelude.{ℕ, ◌+◌, ◌-◌, ◌/◌, ◌%◌, ◌^◌, Bool, cond, List, [], ◌∷◌, map, leb, ltb, eqb, length, get_or, take, drop}
use Rattle.plpb.specs.Lists.{row}
use Rattle.plpb.specs.Plan.{Assignment}

-- What a need is met with, and how many numbers are used after it; or too few are left.
pub data Taken (A : Type 0) : Type 0 where
  taken : A → ℕ → Taken A
  too_few : ℕ → Taken A

-- "When fewer numbers are left than the next need, the search ends and takes none of them."
unfoldable pub take_words : ℕ → List ℕ → ℕ → Taken (List ℕ)
take_words k ns used = cond (leb (used + k) (length ns)) (taken (take k (drop used ns)) (used + k)) (too_few used)

-- A number of the list has 32 bits: it is below 4,294,967,296.
abbrev pub range : ℕ
range = 4_294_967_296

-- "the largest multiple of m up to 4,294,967,296" (T-06)
unfoldable pub fair : ℕ → ℕ
fair m = range - range % m

-- "A pick among m [..] takes place r mod m, from 0"; "A pick now discards each number at or above the largest multiple of m up to 4,294,967,296 and takes
-- the next. [..] Discarded numbers count as used, also when the list ends among them."
unfoldable pub pick_among : ℕ → List ℕ → ℕ → Taken ℕ
pick_among m [] used = too_few used
pick_among m (r ∷ rest) used = cond (ltb r (fair m)) (taken (r % m) (used + 1)) (pick_among m rest (used + 1))

unfoldable pub take_pick : ℕ → List ℕ → ℕ → Taken ℕ
take_pick m ns used = pick_among m (drop used ns) used

-- "for each try, take ⌈n/32⌉ numbers"
unfoldable pub start_words : ℕ → ℕ
start_words n = (n + 31) / 32

unfoldable pub bit : ℕ → ℕ → Bool
bit i r = eqb (r / 2 ^ i % 2) 1

-- "variable i gets bit (i−1) mod 32, bit 0 being the lowest, of number ⌊(i−1)/32⌋, counted from 0"; here i is counted from 0.
unfoldable pub start_of : ℕ → List ℕ → Assignment
start_of n ws = map (λ i. bit (i % 32) (get_or ws (i / 32) 0)) (row 0 n)
