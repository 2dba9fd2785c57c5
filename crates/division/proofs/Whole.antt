-- The parts make up the whole list: what remains is at most one for each race, and a part begins where those before it end.
-- Assumes nothing.
use Prim.Native.Nat.{ℕ, zero, suc, ◌+◌, ◌-◌, ◌*◌, ◌/◌, ◌≤◌, ◌<◌}
use mathlib.Core.Path.{◌≡◌, refl, sym, ap, ◌∙◌}
use mathlib.Core.List.{List, [], ◌∷◌}
use native.Mathlib.Nat.{add-zero, zero-add, add_assoc, mod-lt, mod-add-div, mul-add, mul_comm, le_of_mul-le-mul_left, le_of_suc-le-suc, not-suc-le-zero}
use native.Mathlib.Omega.{arith}
use lib.ListN.{length, get_or, take}
use Rattle.division.specs.declared.Part.{Part}
use Rattle.division.specs.Split.{sum, whole_parts, one_each, lengths, parts, SplitsAll, FollowOne}
use Rattle.division.proofs.Laws.{whole_parts_fit}

-- The whole parts lack less than one for each race.
lacking : (n t : ℕ) (ss : List ℕ) → 0 < t → n * sum ss ≤ t * sum (whole_parts n t ss) + t * length ss
unfolding sum whole_parts
lacking n t [] h = omega arith
lacking n t (s ∷ ss) h =
    omega (
      arith,
      lacking n t ss h,
      mod-lt (n * s) h,
      mod-add-div (n * s) t,
      mul-add t (n * s / t) (sum (whole_parts n t ss)),
      mul-add n s (sum ss),
      mul-add t 1 (length ss),
    )

remains : (n : ℕ) (ss : List ℕ) → 0 < sum ss → n ≤ sum (whole_parts n (sum ss) ss) + length ss
remains n ss h =
    let t = sum ss in
    let w = sum (whole_parts n t ss) in
    le_of_mul-le-mul_left (omega (arith, lacking n t ss h, mul_comm t n, mul-add t w (length ss))) h

pub whole_parts_length : (n t : ℕ) (ss : List ℕ) → length (whole_parts n t ss) ≡ length ss
unfolding whole_parts
whole_parts_length n t [] = refl
whole_parts_length n t (s ∷ ss) = ap suc (whole_parts_length n t ss)

pub few_remain : (n : ℕ) (ss : List ℕ) → 0 < sum ss → n - sum (whole_parts n (sum ss) ss) ≤ length (whole_parts n (sum ss) ss)
few_remain n ss h = omega (arith, remains n ss h, whole_parts_length n (sum ss) ss)

-- All of what remains is given out.
given : (r : ℕ) (ls : List ℕ) → r ≤ length ls → sum (one_each r ls) ≡ sum ls + r
unfolding sum one_each
given zero ls h = sym (add-zero (sum ls))
given (suc r) [] h = absurd (not-suc-le-zero h)
given (suc r) (l ∷ ls) h = omega (arith, given r ls (le_of_suc-le-suc h))

pub splits_all : SplitsAll
unfolding lengths
splits_all n ss h =
    let w = whole_parts n (sum ss) ss in omega (arith, given (n - sum w) w (few_remain n ss h), whole_parts_fit n (sum ss) ss h (omega arith))

follows : (at : ℕ) (ls : List ℕ) (i : ℕ) (p : Part) → i < length ls
    → get_or (parts at ls) i p ≡ record { first = at + sum (take i ls); length = get_or ls i 0 }
unfolding parts sum
follows at [] i p h = absurd (not-suc-le-zero h)
follows at (l ∷ ls) zero p h = ap (λ (k : ℕ). record { first = k; length = l }) (sym (add-zero at))
follows at (l ∷ ls) (suc i) p h =
    follows (at + l) ls i p (le_of_suc-le-suc h)
    ∙ ap (λ (k : ℕ). record { first = k; length = get_or ls i 0 }) (add_assoc at l (sum (take i ls)))

pub follow_one : FollowOne
follow_one ls i p h = follows 0 ls i p h ∙ ap (λ (k : ℕ). record { first = k; length = get_or ls i 0 }) (zero-add (sum (take i ls)))
