-- What terms give to sums, by the codes of their variables, and the sums one term after the other.
-- Assumes nothing.
use Prim.Native.Nat.{ℕ, suc, ◌+◌, ◌*◌, ◌-◌, ◌≤◌, ◌<◌, zero-le}
use native.Mathlib.Nat.{le_refl}
use native.Mathlib.Omega.{arith}
use mathlib.Core.Path.{◌≡◌, refl, sym, ap, ap₂, ◌∙◌}
use mathlib.Core.Bool.{true, false}
use mathlib.Core.List.{List, [], ◌∷◌}
use lib.ListN.{length}
use lib.IntN.{ℤ, pos, nat_abs, ◌+ℤ◌, +ℤ_idl, +ℤ_idr, +ℤ_assoc}
use borrow.Author.Tests.{ne_eqb, leb-true}
use Rattle.plpb.specs.Lists.{all}
use Rattle.plpb.specs.Plan.{Term, least_total}
use Rattle.words.specs.Words.{num_at, signed}
use Rattle.format.specs.File.{term_at, terms_at}
use Rattle.format.proofs.Bools.{and_left, and_right}
use Rattle.format.proofs.Lawful.{weight_small}
use Rattle.counting.proofs.Signed.{size_sum}
use Rattle.squeezed.specs.Squeezed.{Becomes, locked, renumbered, given, given_total, stays, terms_left, greatest_total}
use Rattle.squeezed.proofs.Lawful.{negative_size, positive_size}
use Rattle.fates.specs.Codes.{decode, decoded}
use Rattle.fates.specs.Sums.{Part, Given, Least, Greatest, part_of, part_total, small_terms}

-- ---- codes

pub decode_other : (w : ℕ) → (w ≡ 513 → ⊥) → (w ≡ 514 → ⊥) → decode w ≡ renumbered w
unfolding decode
decode_other w h k = rw (ne_eqb w 513 h, ne_eqb w 514 k)

pub decode_off : (w : ℕ) → w ≡ 513 → locked false ≡ decode w
unfolding decode
decode_off w e = rw e

pub decode_on : (w : ℕ) → w ≡ 514 → locked true ≡ decode w
unfolding decode
decode_on w e = rw e

-- ---- sums

-- A part is no larger than the weight.
part_size : (part : Part) (m : Becomes) (w : ℤ) → nat_abs (part_of part m w) ≤ nat_abs w
unfolding part_of given
part_size Given (locked true) w = le_refl (nat_abs w)
part_size Given (locked false) w = zero-le
part_size Given (renumbered k) w = zero-le
part_size Least (locked v) w = zero-le
part_size Least (renumbered k) w = negative_size w
part_size Greatest (locked v) w = zero-le
part_size Greatest (renumbered k) w = positive_size w

-- A field's terms: the one at a place.
module _ (s : List ℕ) where
  pub record Small (at : ℕ) : Type 0 where
    pub variable : num_at 2 s at ≤ 512
    pub weight : nat_abs (signed (num_at 4 s (at + 2))) ≤ 1_000_000

  small_here : (at left : ℕ) → small_terms (terms_at s at (suc left)) ≡ true → Small at
  unfolding small_terms all terms_at term_at
  small_here at left h =
      let a = and_left _ _ h in
      record { variable = leb-true _ _ (and_left _ _ a); weight = weight_small _ (and_right _ _ a) }

  pub small_at : (at left : ℕ) → 0 < left → small_terms (terms_at s at left) ≡ true → Small at
  small_at at left some h = let e : left ≡ suc (left - 1) = omega arith in small_here at (left - 1) (rw e at h)

module _ (s map : List ℕ) (part : Part) (from count : ℕ) where
  -- With the terms from a place on still to come.
  pub record Summing (at left : ℕ) (sum : ℤ) : Type 0 where
    pub few : left ≤ count
    pub place : at + 6 * left ≡ from + 6 * count
    pub small : small_terms (terms_at s at left) ≡ true
    pub summed : sum +ℤ part_total part (decoded map) (terms_at s at left) ≡ part_total part (decoded map) (terms_at s from count)
    pub size : nat_abs sum + 1_000_000 * left ≤ 1_000_000 * count

  pub summing_none : {at left : ℕ} → at ≡ from → left ≡ count → small_terms (terms_at s from count) ≡ true → Summing at left (pos 0)
  summing_none a l h =
      rw (a, l) (record { few = le_refl count; place = refl; small = h; summed = +ℤ_idl _; size = omega arith })

module _ {s map : List ℕ} {part : Part} {from count : ℕ} where
  pub summing_all : {at left : ℕ} {sum : ℤ} → left ≤ 0 → Summing s map part from count at left sum
      → sum ≡ part_total part (decoded map) (terms_at s from count)
  unfolding part_total terms_at
  summing_all {at} {left} l r =
      let e : left ≡ 0 = omega arith in
      sym (+ℤ_idr _) ∙ (rw e at r.summed)

  -- One term more, as the code reads it: x is its variable, v its weight, r what it gives, t the new sum.
  module _ {at left x : ℕ} {sum v r : ℤ} {code : Becomes} (some : 0 < left) (run : Summing s map part from count at left sum)
      (xs : x ≡ num_at 2 s at) (codes : code ≡ decoded map x) (vs : v ≡ signed (num_at 4 s (at + 2))) (is : r ≡ part_of part code v) where
    gives : r ≡ part_of part (decoded map (num_at 2 s at)) (signed (num_at 4 s (at + 2)))
    gives = is ∙ ap₂ (part_of part) (codes ∙ ap (decoded map) xs) vs

    r_small : nat_abs r ≤ 1_000_000
    r_small =
        rw gives
        (omega (arith, part_size part (decoded map (num_at 2 s at)) (signed (num_at 4 s (at + 2))), (small_at s at left some run.small).weight))

    pub sum_room : count ≤ 512 → nat_abs sum + nat_abs r < 2_147_483_648
    sum_room h = omega (arith, r_small, run.size)

    pub summing_more : {at' left' : ℕ} {t : ℤ} → at' ≡ at + 6 → left' ≡ left - 1 → t ≡ sum +ℤ r → Summing s map part from count at' left' t
    unfolding small_terms all terms_at term_at part_total
    summing_more {at'} {left'} {t} a l e =
        let n : left ≡ suc (left - 1) = omega arith in
        rw (a, l)
        (record {
          few = omega (arith, run.few);
          place = omega (arith, run.place);
          small = and_right _ _ (rw n at run.small);
          summed = rw (e, gives) (+ℤ_assoc sum _ _ ∙ (rw n at run.summed));
          size = rw e (omega (arith, run.size, r_small, size_sum sum r));
        })

-- ---- the three sums

module _ (f : ℕ → Becomes) where
  pub given_total_lem : (ts : List Term) → part_total Given f ts ≡ given_total f ts
  unfolding part_total part_of given_total
  given_total_lem [] = refl
  given_total_lem (t ∷ ts) = ap (λ z. given (f t.variable) t.weight +ℤ z) (given_total_lem ts)

  least_part : (m : Becomes) (w : ℤ) (ts : List Term) → part_of Least m w +ℤ least_total ts ≡ least_total (stays m w ts)
  unfolding part_of least_total stays
  least_part (locked v) w ts = +ℤ_idl _
  least_part (renumbered k) w ts = refl

  pub least_total_lem : (ts : List Term) → part_total Least f ts ≡ least_total (terms_left f ts)
  unfolding part_total least_total terms_left
  least_total_lem [] = refl
  least_total_lem (t ∷ ts) =
      ap (λ z. part_of Least (f t.variable) t.weight +ℤ z) (least_total_lem ts) ∙ least_part (f t.variable) t.weight (terms_left f ts)

  greatest_part : (m : Becomes) (w : ℤ) (ts : List Term) → part_of Greatest m w +ℤ greatest_total ts ≡ greatest_total (stays m w ts)
  unfolding part_of greatest_total stays
  greatest_part (locked v) w ts = +ℤ_idl _
  greatest_part (renumbered k) w ts = refl

  pub greatest_total_lem : (ts : List Term) → part_total Greatest f ts ≡ greatest_total (terms_left f ts)
  unfolding part_total greatest_total terms_left
  greatest_total_lem [] = refl
  greatest_total_lem (t ∷ ts) =
      ap (λ z. part_of Greatest (f t.variable) t.weight +ℤ z) (greatest_total_lem ts)
      ∙ greatest_part (f t.variable) t.weight (terms_left f ts)

  pub total_size : (part : Part) (ts : List Term) → small_terms ts ≡ true → nat_abs (part_total part f ts) ≤ 1_000_000 * length ts
  unfolding small_terms all part_total
  total_size part [] h = zero-le
  total_size part (t ∷ ts) h =
      let w = weight_small t.weight (and_right _ _ (and_left _ _ h)) in
      omega (
        arith,
        w,
        part_size part (f t.variable) t.weight,
        total_size part ts (and_right _ _ h),
        size_sum (part_of part (f t.variable) t.weight) (part_total part f ts),
      )
