-- How many factors a binomial costs, and the triangle that small binomials come from (document 02, T-03).
-- Assumes nothing.
use Rattle.std.specs.Prelude.{ℕ, zero, suc, ◌+◌, ◌*◌, ◌-◌, ◌/◌, min, cond, List, [], ◌∷◌, ◌++◌, ltb}
use Rattle.plpb.specs.Count.{cap}
use Rattle.plpb.specs.Equations.{binom}

-- "Binomials with upper number 0 to 34 come from Pascal's triangle, a constant of 630 entries"
abbrev pub triangle_rows : ℕ
triangle_rows = 35

-- ".. with its rule shown once over the whole": an entry is the sum of the two above it. For a row y₁, y₂, .. and x before it, these are
-- x + y₁, y₁ + y₂, .. and, last, the row's last entry alone.
unfoldable pub row_below : ℕ → List ℕ → List ℕ
row_below x [] = x ∷ []
row_below x (y ∷ ys) = (x + y) ∷ row_below y ys

-- So many rows, one after another, each by the rule from the one before it.
unfoldable pub rows_from : List ℕ → ℕ → List ℕ
rows_from row zero = []
rows_from row (suc n) = row ++ rows_from (row_below 0 row) n

unfoldable pub triangle : List ℕ
triangle = rows_from (1 ∷ []) triangle_rows

-- Where m over k stands in it.
abbrev pub place_of : ℕ → ℕ → ℕ
place_of m k = m * (m + 1) / 2 + k

-- "the smallest i at which m over i passes the cap": looked for from i on, among so many; where it is none of these, the next.
unfoldable pub passes_at : ℕ → ℕ → ℕ → ℕ
passes_at m i zero = i
passes_at m i (suc left) = cond (ltb cap (binom m i)) i (passes_at m (suc i) left)

-- ".. and report 0. Above that a binomial of m over k reports its factors: the smallest i at which m over i passes the cap, or the smaller
-- of k and m − k if that comes first, and 0 where k exceeds m."
unfoldable pub factors : ℕ → ℕ → ℕ
factors m k = cond (ltb m triangle_rows) 0 (cond (ltb m k) 0 (passes_at m 0 (min k (m - k))))

-- "Table and formula agree wherever both apply": the formula, m over k by its k factors.
unfoldable pub by_factors : ℕ → ℕ → ℕ
by_factors m zero = 1
by_factors m (suc i) = by_factors m i * (m - i) / suc i
