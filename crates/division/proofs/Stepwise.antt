-- An array whose elements are written one after the other: those before a place are new, the others old.
-- Assumes nothing.
use Prim.Native.Nat.{ℕ, zero, suc, ◌+◌, ◌*◌, ◌/◌, ◌≤◌, ◌<◌}
use mathlib.Core.Path.{◌≡◌, refl, sym, ap, ◌∙◌}
use mathlib.Core.List.{List, [], ◌∷◌, ◌++◌, append-nil}
use native.Mathlib.Nat.{add-zero, sub-zero, le_of_suc-le-suc, not-suc-le-zero}
use native.Mathlib.Numerals.{add-one}
use native.Mathlib.Omega.{arith}
use lib.ListN.{length, get_or, set, take, drop, drop_of_length-le}
use lib.Seq.{take_all}
use mathlib.Core.Bool.{Bool, true, false}
use Rattle.std.specs.Prelude.{◌||◌}
use Rattle.std.specs.List.{list_any, enumerate_from}
use Rattle.plpb.specs.Lists.{◌or◌}
use Rattle.division.specs.declared.Part.{Part}
use Rattle.division.specs.Split.{sum, whole_parts, one_each, parts}
use Rattle.division.proofs.Whole.{follow_one}
use Rattle.division.specs.Eight.{bad_at, bad_from, extra_at}
use Rattle.division.proofs.Laws.{topped_from, one_each_lem}

-- The new elements up to a place, the old ones from it on.
unfoldable pub mixed : {A : Type 0} → List A → List A → ℕ → List A
mixed new old i = take i new ++ drop i old

module _ {A : Type 0} where
  pub mixed_first : (new old : List A) → old ≡ mixed new old 0
  unfolding mixed
  mixed_first new old = refl

  pub mixed_here : (d : A) (new old : List A) (i : ℕ) → i < length old → length new ≡ length old → get_or (mixed new old i) i d ≡ get_or old i d
  unfolding mixed
  mixed_here d new [] i h e = absurd (not-suc-le-zero h)
  mixed_here d [] (o ∷ old) i h e = absurd (omega (arith, e))
  mixed_here d (n ∷ new) (o ∷ old) zero h e = refl
  mixed_here d (n ∷ new) (o ∷ old) (suc i) h e = mixed_here d new old i (le_of_suc-le-suc h) (omega (arith, e))

  next_by : (d : A) (new old : List A) (i : ℕ) → i < length old → length new ≡ length old → set (mixed new old i) i (get_or new i d) ≡ mixed new old (suc i)
  unfolding mixed
  next_by d new [] i h e = absurd (not-suc-le-zero h)
  next_by d [] (o ∷ old) i h e = absurd (omega (arith, e))
  next_by d (n ∷ new) (o ∷ old) zero h e = refl
  next_by d (n ∷ new) (o ∷ old) (suc i) h e = ap (λ (l : List A). n ∷ l) (next_by d new old i (le_of_suc-le-suc h) (omega (arith, e)))

  pub mixed_next : (d : A) (new old : List A) (i : ℕ) {x : A} {l : List A} → i < length old → length new ≡ length old → l ≡ mixed new old i → x ≡ get_or new i d
      → set l i x ≡ mixed new old (i + 1)
  mixed_next d new old i h e is new_is = rw (is, new_is, add-one i) (next_by d new old i h e)

  pub mixed_last : (new old : List A) (i : ℕ) {l : List A} → length old ≤ i → length new ≡ length old → l ≡ mixed new old i → l ≡ new
  unfolding mixed
  mixed_last new old i h e is = is ∙ rw (take_all i new (omega (arith, h, e)), drop_of_length-le old {i = i} h) (append-nil new)

-- ---- bad stakes

-- Each stake is asked with its place.
or_same : (b c : Bool) → (b || c) ≡ (b or c)
unfolding ◌or◌
or_same true c = refl
or_same false c = refl

pub bad_each : (count i : ℕ) (ss : List ℕ) → list_any (λ (p : ℕ × ℕ). bad_at count p.0 p.1) (enumerate_from i ss) ≡ bad_from count i ss
unfolding bad_from
bad_each count i [] = refl
bad_each count i (s ∷ ss) = or_same _ _ ∙ ap (λ (b : Bool). bad_at count i s or b) (ap (λ (j : ℕ). list_any (λ (p : ℕ × ℕ). bad_at count p.0 p.1) (enumerate_from j ss)) (add-one i) ∙ bad_each count (suc i) ss)

-- ---- the elements of the three lists

pub whole_at : (n t : ℕ) (ss : List ℕ) (i : ℕ) → i < length ss → get_or (whole_parts n t ss) i 0 ≡ n * get_or ss i 0 / t
unfolding whole_parts
whole_at n t [] i h = absurd (not-suc-le-zero h)
whole_at n t (s ∷ ss) zero h = refl
whole_at n t (s ∷ ss) (suc i) h = whole_at n t ss i (le_of_suc-le-suc h)

topped_at : (j r : ℕ) (bs : List ℕ) (i : ℕ) → i < length bs → get_or (topped_from j r bs) i 0 ≡ get_or bs i 0 + extra_at (j + i) r
unfolding topped_from
topped_at j r [] i h = absurd (not-suc-le-zero h)
topped_at j r (b ∷ bs) zero h = ap (λ (k : ℕ). b + extra_at k r) (sym (add-zero j))
topped_at j r (b ∷ bs) (suc i) h =
    topped_at (suc j) r bs i (le_of_suc-le-suc h) ∙ ap (λ (k : ℕ). get_or bs i 0 + extra_at k r) (omega arith)

pub ones_at : (r : ℕ) (bs : List ℕ) (i : ℕ) → i < length bs → get_or (one_each r bs) i 0 ≡ get_or bs i 0 + extra_at i r
ones_at r bs i h =
    ap (λ (k : ℕ). get_or (one_each k bs) i 0) (sym (sub-zero r)) ∙ ap (λ (l : List ℕ). get_or l i 0) (sym (one_each_lem 0 r bs))
    ∙ topped_at 0 r bs i h ∙ ap (λ (k : ℕ). get_or bs i 0 + extra_at k r) (omega arith)

-- ---- parts and sums

pub parts_length : (at : ℕ) (ls : List ℕ) → length (parts at ls) ≡ length ls
unfolding parts
parts_length at [] = refl
parts_length at (l ∷ ls) = ap suc (parts_length (at + l) ls)

pub part_at : (ls : List ℕ) (i : ℕ) (none : Part) {at x : ℕ} → i < length ls → at ≡ sum (take i ls) → x ≡ get_or ls i 0
    → record { first = at; length = x } ≡ get_or (parts 0 ls) i none
part_at ls i none h e f = rw (e, f) (sym (follow_one ls i none h))

sums_by : (ls : List ℕ) (i : ℕ) → sum (take (suc i) ls) ≡ sum (take i ls) + get_or ls i 0
unfolding sum
sums_by [] zero = refl
sums_by [] (suc i) = refl
sums_by (l ∷ ls) zero = omega arith
sums_by (l ∷ ls) (suc i) = omega (arith, sums_by ls i)

-- The lengths up to a place, with one more.
pub sum_next : (ls : List ℕ) (i : ℕ) {at x : ℕ} → at ≡ sum (take i ls) → x ≡ get_or ls i 0 → at + x ≡ sum (take (i + 1) ls)
sum_next ls i e f = rw (e, f, add-one i) (sym (sums_by ls i))

sums_within : (ls : List ℕ) (i : ℕ) → sum (take i ls) + get_or ls i 0 ≤ sum ls
unfolding sum
sums_within [] zero = omega arith
sums_within [] (suc i) = omega arith
sums_within (l ∷ ls) zero = omega arith
sums_within (l ∷ ls) (suc i) = omega (arith, sums_within ls i)

pub sum_room : (ls : List ℕ) (i : ℕ) {at x : ℕ} → at ≡ sum (take i ls) → x ≡ get_or ls i 0 → at + x ≤ sum ls
sum_room ls i e f = rw (e, f) (sums_within ls i)
