-- Pascal's triangle: made row by row by its rule, each of its entries is the binomial.
-- Assumes nothing.
use Prim.Native.Nat.{ℕ, zero, suc, ◌+◌, ◌*◌, ◌-◌, ◌/◌, ◌≤◌, ◌<◌, min}
use native.Mathlib.Nat.{le_trans, zero-add, add-zero, add-suc, suc-add, add_assoc, div-eq_of_eq-mul_right, mul-le-mul, min-eq_left, min-eq_right}
use native.Mathlib.Decide.{dec_le}
use native.Mathlib.Omega.{arith}
use mathlib.Core.List.{List, [], ◌∷◌, ◌++◌}
use mathlib.Core.Path.{◌≡◌, refl, sym, ◌∙◌, ap}
use lib.Dec.{lit≤}
use lib.ListN.{length, get_or, get_or-append}
use lib.Seq.{get_or-append-add}
use Rattle.plpb.specs.Count.{cap, capped}
use Rattle.plpb.specs.Equations.{binom}
use Rattle.plpb.specs.Factors.{triangle_rows, row_below, rows_from, triangle, place_of, by_factors}
use Rattle.plpb.proofs.Binomial.{binom_vanishes, binom_mono_upper, binom_mono_lower, quick, quick_is, next_quotient, symmetric}
use Rattle.plpb.proofs.Capped.{capped_small}

-- So many binomials of m, from m over i on.
unfoldable binomials : ℕ → ℕ → ℕ → List ℕ
binomials m i zero = []
binomials m i (suc n) = binom m i ∷ binomials m (suc i) n

row_long : (m i n : ℕ) → length (binomials m i n) ≡ n
unfolding binomials
row_long m i zero = refl
row_long m i (suc n) = ap suc (row_long m (suc i) n)

row_entry : (m i n j : ℕ) → j < n → get_or (binomials m i n) j 0 ≡ binom m (i + j)
unfolding binomials
row_entry m i zero j h = omega arith
row_entry m i (suc n) zero h = ap (binom m) (sym (add-zero i))
row_entry m i (suc n) (suc j) h = row_entry m (suc i) n j (omega arith) ∙ ap (binom m) (suc-add i j ∙ sym (add-suc i j))

-- The rule takes the binomials of a row to those of the next.
below_from : (m i n : ℕ) → i + n ≡ m → row_below (binom m i) (binomials m (suc i) n) ≡ binomials (suc m) (suc i) (suc n)
unfolding row_below binomials binom
below_from m i zero h =
    let last : binom m i ≡ binom m i + binom m (suc i) = omega (arith, binom_vanishes m (suc i) (omega arith)) in
    ap (λ (x : ℕ). x ∷ []) last
below_from m i (suc n) h = ap (λ (xs : List ℕ). (binom m i + binom m (suc i)) ∷ xs) (below_from m (suc i) n (omega arith))

below_whole : (m : ℕ) → row_below 0 (binomials m 0 (suc m)) ≡ binomials (suc m) 0 (suc (suc m))
unfolding row_below binomials binom
below_whole m = ap (λ (xs : List ℕ). 1 ∷ xs) (below_from m 0 m (zero-add m))

-- How many entries stand before a row that is d below the m-th.
unfoldable before : ℕ → ℕ → ℕ
before m zero = 0
before m (suc d) = suc m + before (suc m) d

rows_entry : (n m d k : ℕ) → d < n → k ≤ m + d → get_or (rows_from (binomials m 0 (suc m)) n) (before m d + k) 0 ≡ binom (m + d) k
unfolding rows_from before
rows_entry zero m d k h l = omega arith
rows_entry (suc n) m zero k h l =
    rw (zero-add, add-zero)
    (get_or-append (binomials m 0 (suc m)) (rows_from (row_below 0 (binomials m 0 (suc m))) n) 0 k (rw (row_long m 0 (suc m)) (omega arith))
    ∙ row_entry m 0 (suc m) k (omega arith)
    ∙ ap (binom m) (zero-add k))
rows_entry (suc n) m (suc d) k h l =
    let row = binomials m 0 (suc m) in
    let place : suc m + before (suc m) d + k ≡ length row + (before (suc m) d + k) =
    add_assoc (suc m) (before (suc m) d) k ∙ ap (λ (x : ℕ). x + (before (suc m) d + k)) (sym (row_long m 0 (suc m))) in
    ap (λ (x : ℕ). get_or (row ++ rows_from (row_below 0 row) n) x 0) place
    ∙ get_or-append-add row (rows_from (row_below 0 row) n) (before (suc m) d + k) 0
    ∙ ap (λ (r : List ℕ). get_or (rows_from r n) (before (suc m) d + k) 0) (below_whole m)
    ∙ rows_entry n (suc m) d k (omega arith) (omega arith)
    ∙ ap (λ (x : ℕ). binom x k) (suc-add m d ∙ sym (add-suc m d))

-- Before row m there are 1 + 2 + .. + m entries.
twice_before : (m d : ℕ) → 2 * before m d ≡ d * (2 * m + d + 1)
unfolding before
twice_before m zero = omega arith
twice_before m (suc d) = omega (arith, twice_before (suc m) d)

before_place : (m : ℕ) → m * (m + 1) / 2 ≡ before 0 m
before_place m =
    let twice : m * (m + 1) ≡ 2 * before 0 m = sym (twice_before 0 m ∙ ap (λ (x : ℕ). m * (x + 1)) (omega arith)) in
    div-eq_of_eq-mul_right (omega arith) twice

module _ (m k : ℕ) (small : m < triangle_rows) (within : k ≤ m) where
  -- Each entry of the triangle is the binomial ..
  pub triangle_entry : get_or triangle (place_of m k) 0 ≡ binom m k
  unfolding triangle binomials binom
  triangle_entry =
      rw (before_place m)
      (rows_entry triangle_rows 0 m k small (omega arith) ∙ ap (λ (x : ℕ). binom x k) (zero-add m))

  -- .. and stands among the 630.
  pub place_within : place_of m k < 630
  place_within =
      let low : m ≤ 34 = omega arith in
      let next : m + 1 ≤ 35 = omega arith in
      omega (arith, mul-le-mul low next)

-- The formula is the binomial too, from whichever end of the row it counts.
pub by_factors_lem : (m k : ℕ) → by_factors m k ≡ binom m k
unfolding by_factors binom
by_factors_lem m zero = refl
by_factors_lem m (suc k) = rw (by_factors_lem m k) (next_quotient m k)

pub nearer_end : (m k : ℕ) → k ≤ m → binom m (min k (m - k)) ≡ binom m k
nearer_end m k h = go (dec_le k (m - k))
  where
    go : Dec (k ≤ m - k) → binom m (min k (m - k)) ≡ binom m k
    go (yes l) = ap (binom m) (min-eq_left l)
    go (no l) =
        let nearer : m - k ≤ k = omega arith in
        ap (binom m) (min-eq_right nearer) ∙ sym (symmetric m k h)

-- "Table and formula agree wherever both apply."
pub table_formula : (m k : ℕ) → m < triangle_rows → k ≤ m → get_or triangle (place_of m k) 0 ≡ by_factors m (min k (m - k))
table_formula m k small within =
    triangle_entry m k small within ∙ sym (by_factors_lem m (min k (m - k)) ∙ nearer_end m k within)

-- None of its entries is above the cap, so none of them is cut.
last_row : binom 34 17 ≤ cap
unfolding cap quick
last_row = rw (← quick_is 34 17) (lit≤ {m = quick 34 17} {n = cap} tt)

pub row_small : (m k : ℕ) → m < triangle_rows → k ≤ m → capped (binom m k) ≡ binom m k
row_small m k h l =
    let near = min k (m - k) in
    let most : binom m near ≤ binom 34 17 =
    le_trans (binom_mono_upper near {m = m} {n = 34} (omega arith)) (binom_mono_lower 34 near 17 (omega arith) (omega arith)) in
    capped_small (binom m k) (omega (arith, nearer_end m k l, most, last_row))
