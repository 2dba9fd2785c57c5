-- A turn of each loop over the races.
-- Assumes nothing.
use Prim.Native.Nat.{ℕ, zero, suc, ◌+◌, ◌*◌, ◌/◌, ◌≤◌, ◌<◌}
use mathlib.Core.Path.{◌≡◌, refl, sym, ap, ◌∙◌}
use mathlib.Core.List.{List, [], ◌∷◌, ◌++◌}
use native.Mathlib.Nat.{mul-div-le, mod-lt, mod-add-div, not-suc-le-zero, le_of_suc-le-suc}
use native.Mathlib.Numerals.{add-one}
use native.Mathlib.Omega.{arith}
use lib.ListN.{length, get_or, set, take, length-append, replicate}
use lib.Seq.{take-nil, set-get_or, length-take-le}
use Rattle.std.specs.Prelude.{None, Some}
use Rattle.std.specs.List.{slice_get}
use Rattle.std.specs.Simd.{first_chunks}
use Rattle.std.proofs.lemmas.Option.{none-some, same_Some}
use Rattle.division.proofs.Stepwise.{mixed as filled, mixed_next, mixed_last}
use Rattle.division.specs.declared.Part.{Part}
use Rattle.division.specs.Eight.{kept}
use Rattle.races.specs.declared.Race.{Race}
use Rattle.races.specs.Races.{stakes_of, with_part, placed, placed_at, stakes_in, parts_put, put_at}

-- ---- stakes taken out of the list

-- The first 8 of some stakes, 0 where there is none.
abbrev pub eight : List ℕ → List ℕ
eight ss = take 8 (ss ++ replicate 8 0)

pub length_eight : (ss : List ℕ) → length (eight ss) ≡ 8
length_eight ss = length-take-le 8 (ss ++ replicate 8 0) (omega (arith, length-append ss (replicate {A = ℕ} 8 0)))

zero_at : (k n i : ℕ) → get_or (take k (replicate {A = ℕ} n 0)) i 0 ≡ 0
zero_at zero n i = refl
zero_at (suc k) zero i = refl
zero_at (suc k) (suc n) zero = refl
zero_at (suc k) (suc n) (suc i) = zero_at k n i

stake_among : (k n : ℕ) (ss : List ℕ) (i : ℕ) → i < k → get_or (take k (ss ++ replicate n 0)) i 0 ≡ get_or ss i 0
stake_among k n [] i h = zero_at k n i
stake_among zero n (s ∷ ss) i h = absurd (not-suc-le-zero h)
stake_among (suc k) n (s ∷ ss) zero h = refl
stake_among (suc k) n (s ∷ ss) (suc i) h = stake_among k n ss i (le_of_suc-le-suc h)

-- One place of the array.
pub stake_next : (ss : List ℕ) (i x : ℕ) {l : List ℕ} → i < 8 → l ≡ filled (eight ss) (replicate 8 0) i → x ≡ get_or ss i 0
    → set l i x ≡ filled (eight ss) (replicate 8 0) (i + 1)
stake_next ss i x h is e = mixed_next 0 (eight ss) (replicate 8 0) i h (length_eight ss) is (e ∙ sym (stake_among 8 8 ss i h))

pub stakes_all : (ss : List ℕ) (i count : ℕ) {l : List ℕ} → 8 ≤ i → length ss ≡ count → l ≡ filled (eight ss) (replicate 8 0) i
    → record { count = count; stakes = l } ≡ kept ss
unfolding kept
stakes_all ss i count h e is = rw (← e, mixed_last (eight ss) (replicate 8 0) i h (length_eight ss) is) refl

-- Past the last stake there is none.
pub none_past : (ss : List ℕ) (i : ℕ) → length ss ≤ i → 0 ≡ get_or ss i 0
none_past [] i h = refl
none_past (s ∷ ss) zero h = absurd (not-suc-le-zero h)
none_past (s ∷ ss) (suc i) h = none_past ss i (le_of_suc-le-suc h)

-- The stakes of records, and those among plain numbers, place by place.
pub length_stakes : (rs : List Race) → length (stakes_of rs) ≡ length rs
unfolding stakes_of
length_stakes [] = refl
length_stakes (r ∷ rs) = ap suc (length_stakes rs)

pub stake_at : (rs : List Race) (i : ℕ) (d : Race) → i < length rs → (get_or rs i d).stake ≡ get_or (stakes_of rs) i 0
unfolding stakes_of
stake_at [] i d h = absurd (not-suc-le-zero h)
stake_at (r ∷ rs) zero d h = refl
stake_at (r ∷ rs) (suc i) d h = stake_at rs i d (le_of_suc-le-suc h)

pub length_numbers : (ns : List ℕ) → length (stakes_in ns) ≡ length ns / 3
unfolding stakes_in
length_numbers [] = refl
length_numbers (a ∷ []) = refl
length_numbers (a ∷ b ∷ []) = refl
length_numbers (a ∷ b ∷ c ∷ ns) = ap suc (length_numbers ns) ∙ omega arith

third_more : (n : ℕ) → suc (suc (suc n)) / 3 ≡ suc (n / 3)
third_more n = omega arith

pub record_at : (ns : List ℕ) (i : ℕ) → get_or (get_or (first_chunks 3 (length ns / 3) ns) i []) 0 0 ≡ get_or (stakes_in ns) i 0
unfolding stakes_in
record_at [] i = refl
record_at (a ∷ []) i = refl
record_at (a ∷ b ∷ []) i = refl
record_at (a ∷ b ∷ c ∷ ns) zero = ap (λ (k : ℕ). get_or (get_or (first_chunks 3 k (a ∷ b ∷ c ∷ ns)) 0 []) 0 0) (third_more (length ns))
record_at (a ∷ b ∷ c ∷ ns) (suc i) =
    ap (λ (k : ℕ). get_or (get_or (first_chunks 3 k (a ∷ b ∷ c ∷ ns)) (suc i) []) 0 0) (third_more (length ns)) ∙ record_at ns i

-- ---- parts put into it

-- The races with the first i parts.
pub mix : List Part → ℕ → List Race → List Race
mix ps i rs = placed (take i ps) rs

mixes : (ps : List Part) (i : ℕ) (rs : List Race) (d : Race) → i < length rs
    → set (placed (take i ps) rs) i (placed_at ps i (get_or (placed (take i ps) rs) i d)) ≡ placed (take (suc i) ps) rs
unfolding placed placed_at
mixes ps i [] d l = absurd (not-suc-le-zero l)
mixes [] i (r ∷ rs) d l = rw (take-nil {A = Part} i) (set-get_or (r ∷ rs) i d)
mixes (p ∷ ps) zero (r ∷ rs) d l = refl
mixes (p ∷ ps) (suc i) (r ∷ rs) d l = ap (λ (zs : List Race). with_part p r ∷ zs) (mixes ps i rs d (le_of_suc-le-suc l))

pub mix_next : (ps : List Part) (i : ℕ) (rs : List Race) (d : Race) → i < length rs
    → set (mix ps i rs) i (placed_at ps i (get_or (mix ps i rs) i d)) ≡ mix ps (i + 1) rs
unfolding mix
mix_next ps i rs d l = mixes ps i rs d l ∙ ap (λ (m : ℕ). placed (take m ps) rs) (sym (add-one i))

pub mix_start : (ps : List Part) (rs : List Race) → rs ≡ mix ps 0 rs
unfolding mix placed
mix_start ps rs = refl

mixed : (ps : List Part) (i : ℕ) (rs : List Race) → length rs ≤ i → placed (take i ps) rs ≡ placed ps rs
unfolding placed
mixed [] i rs h = rw (take-nil {A = Part} i)
mixed (p ∷ ps) zero [] h = refl
mixed (p ∷ ps) zero (r ∷ rs) h = absurd (not-suc-le-zero h)
mixed (p ∷ ps) (suc i) [] h = refl
mixed (p ∷ ps) (suc i) (r ∷ rs) h = ap (λ (zs : List Race). with_part p r ∷ zs) (mixed ps i rs (le_of_suc-le-suc h))

pub mix_end : (ps : List Part) (i : ℕ) (rs : List Race) → length rs ≤ i → mix ps i rs ≡ placed ps rs
unfolding mix
mix_end ps i rs h = mixed ps i rs h

-- ---- one race's part out of the array

pub no_part : (c : ℕ) (ps : List Part) (i : ℕ) → c ≤ i → slice_get (take c ps) i ≡ None
no_part zero ps i h = refl
no_part (suc c) ps zero h = absurd (not-suc-le-zero h)
no_part (suc c) [] (suc i) h = refl
no_part (suc c) (p ∷ ps) (suc i) h = no_part c ps i (le_of_suc-le-suc h)

pub no_place : (c : ℕ) (ps : List Part) (i : ℕ) → length ps ≤ i → slice_get (take c ps) i ≡ None
no_place zero ps i h = refl
no_place (suc c) [] i h = refl
no_place (suc c) (p ∷ ps) zero h = absurd (not-suc-le-zero h)
no_place (suc c) (p ∷ ps) (suc i) h = no_place c ps i (le_of_suc-le-suc h)

pub one_part : (c : ℕ) (ps : List Part) (i : ℕ) (none : Part) → i < c → i < length ps → slice_get (take c ps) i ≡ Some (get_or ps i none)
one_part zero ps i none h k = absurd (not-suc-le-zero h)
one_part (suc c) [] i none h k = absurd (not-suc-le-zero k)
one_part (suc c) (p ∷ ps) zero none h k = refl
one_part (suc c) (p ∷ ps) (suc i) none h k = one_part c ps i none (le_of_suc-le-suc h) (le_of_suc-le-suc k)

-- A race with the part that is there, and as it was where there is none.
pub placed_none : (ps : List Part) (i : ℕ) (r : Race) → None ≡ slice_get ps i → placed_at ps i r ≡ r
unfolding placed_at
placed_none [] i r e = refl
placed_none (p ∷ ps) zero r e = absurd (none-some _ e)
placed_none (p ∷ ps) (suc i) r e = placed_none ps i r e

pub placed_some : (ps : List Part) (i : ℕ) (p : Part) (r : Race) → Some p ≡ slice_get ps i → placed_at ps i r ≡ with_part p r
unfolding placed_at
placed_some [] i p r e = absurd (none-some _ (sym e))
placed_some (q ∷ ps) zero p r e = ap (λ (x : Part). with_part x r) (sym (same_Some _ _ e))
placed_some (q ∷ ps) (suc i) p r e = placed_some ps i p r e

-- ---- the same records as plain numbers

three : 0 < 3
three = omega arith

-- Parts put one after another.
putting : (ps : List Part) (i : ℕ) (ns : List ℕ) → 3 * i + 3 ≤ length ns → put_at ps i (parts_put (take i ps) ns) ≡ parts_put (take (suc i) ps) ns
unfolding put_at parts_put placed_at with_part
putting [] i ns h =
    rw (take-nil {A = Part} i)
    (ap (λ (xs : List ℕ). set xs (3 * i + 2) (get_or ns (3 * i + 2) 0)) (set-get_or ns (3 * i + 1) 0) ∙ set-get_or ns (3 * i + 2) 0)
putting (p ∷ ps) i [] h = absurd (omega (arith, h))
putting (p ∷ ps) i (a ∷ []) h = absurd (omega (arith, h))
putting (p ∷ ps) i (a ∷ b ∷ []) h = absurd (omega (arith, h))
putting (p ∷ ps) zero (a ∷ b ∷ c ∷ ns) h = refl
putting (p ∷ ps) (suc i) (a ∷ b ∷ c ∷ ns) h =
    let one : 3 * suc i + 1 ≡ suc (suc (suc (3 * i + 1))) = omega arith in
    let two : 3 * suc i + 2 ≡ suc (suc (suc (3 * i + 2))) = omega arith in
    rw (one, two) (ap (λ (xs : List ℕ). a ∷ p.first ∷ p.length ∷ xs) (putting ps i ns (omega (arith, h))))

pub putting_first : (ps : List Part) (ns : List ℕ) → ns ≡ parts_put (take 0 ps) ns
unfolding parts_put
putting_first ps ns = refl

pub putting_next : (ps : List Part) (ns : List ℕ) (i : ℕ) {xs ys : List ℕ} → 3 * i + 3 ≤ length ns → xs ≡ parts_put (take i ps) ns → ys ≡ put_at ps i xs
    → ys ≡ parts_put (take (i + 1) ps) ns
putting_next ps ns i h is e =
    e ∙ ap (put_at ps i) is ∙ putting ps i ns h ∙ ap (λ (k : ℕ). parts_put (take k ps) ns) (sym (add-one i))

put_all : (ps : List Part) (i : ℕ) (ns : List ℕ) → length ns < 3 * i + 3 → parts_put (take i ps) ns ≡ parts_put ps ns
unfolding parts_put
put_all [] i ns h = rw (take-nil {A = Part} i)
put_all (p ∷ ps) zero [] h = refl
put_all (p ∷ ps) zero (a ∷ []) h = refl
put_all (p ∷ ps) zero (a ∷ b ∷ []) h = refl
put_all (p ∷ ps) zero (a ∷ b ∷ c ∷ ns) h = absurd (omega (arith, h))
put_all (p ∷ ps) (suc i) [] h = refl
put_all (p ∷ ps) (suc i) (a ∷ []) h = refl
put_all (p ∷ ps) (suc i) (a ∷ b ∷ []) h = refl
put_all (p ∷ ps) (suc i) (a ∷ b ∷ c ∷ ns) h = ap (λ (xs : List ℕ). a ∷ p.first ∷ p.length ∷ xs) (put_all ps i ns (omega (arith, h)))

pub putting_last : (ps : List Part) (ns : List ℕ) (i : ℕ) {xs : List ℕ} → length ns / 3 ≤ i → xs ≡ parts_put (take i ps) ns → xs ≡ parts_put ps ns
putting_last ps ns i h is = is ∙ put_all ps i ns (omega (arith, h, mod-add-div (length ns) 3, mod-lt (length ns) three))

-- A record's numbers lie within the list.
pub in_list : (n i : ℕ) → i < n / 3 → 3 * i + 3 ≤ n
in_list n i h = omega (arith, h, mul-div-le n 3)
