-- The least or the greatest sum, one term after the other, from the last to the first.
-- Assumes nothing.
use Prim.Native.Nat.{ℕ, suc, ◌+◌, ◌*◌, ◌-◌, ◌≤◌, ◌<◌, zero-le}
use native.Mathlib.Nat.{le_refl}
use native.Mathlib.Omega.{arith}
use mathlib.Core.Path.{◌≡◌, refl, sym, ap, ap₂, ◌∙◌}
use mathlib.Core.Bool.{Bool, true, false}
use mathlib.Core.List.{List, [], ◌∷◌}
use lib.IntN.{ℤ, pos, negsuc, nat_abs, ◌+ℤ◌}
use mir.Facts.{to_z-of_z}
use mir.Syntax.{w32}
use mir.Val.{SFits, to_z, of_z}
use Rattle.plpb.specs.Lists.{all}
use Rattle.plpb.specs.Plan.{Term, negative_part, positive_part, least_total, greatest_total}
use Rattle.words.specs.Words.{signed}
use Rattle.format.specs.Limits.{weight_lawful}
use Rattle.format.specs.Tables.{term_of}
use Rattle.counting.proofs.Signed.{size_sum}
use Rattle.extremes.specs.Terms.{terms_in, part_of, extreme_of}
use Rattle.extremes.proofs.Terms.{terms_none, terms_cons, term_small}

extreme_none : (b : Bool) → extreme_of b [] ≡ pos 0
unfolding extreme_of least_total greatest_total
extreme_none true = refl
extreme_none false = refl

pub extreme_cons : (b : Bool) (t : Term) (ts : List Term) → extreme_of b (t ∷ ts) ≡ part_of b t.weight +ℤ extreme_of b ts
unfolding extreme_of part_of least_total greatest_total
extreme_cons true t ts = refl
extreme_cons false t ts = refl

part_size : (b : Bool) (w : ℤ) → nat_abs (part_of b w) ≤ nat_abs w
unfolding part_of positive_part negative_part
part_size true (pos n) = le_refl n
part_size true (negsuc n) = zero-le
part_size false (pos n) = zero-le
part_size false (negsuc n) = le_refl (suc n)

-- The sum of the terms from the one numbered `left` on, counted within the rule.
pub record Summing (b : Bool) (g : ℕ → ℕ) (first count left : ℕ) (sum : ℤ) : Type 0 where
  pub within : left ≤ count
  pub is : sum ≡ extreme_of b (terms_in g (first + left) (count - left))
  pub size : nat_abs sum ≤ 1_000_000 * (count - left)

module _ (b : Bool) (g : ℕ → ℕ) (first count : ℕ) where
  pub summing_none : Summing b g first count count (pos 0)
  summing_none =
      let e : count - count ≡ 0 = omega arith in
      record { within = le_refl count; is = sym (ap (λ n. extreme_of b (terms_in g (first + count) n)) e ∙ ap (extreme_of b) (terms_none g (first + count)) ∙ extreme_none b); size = zero-le }

  pub summing_all : {sum : ℤ} {left : ℕ} → count ≤ 512 → left ≤ 0 → Summing b g first count left sum → (sum ≡ extreme_of b (terms_in g first count)) × (nat_abs sum ≤ 512_000_000)
  summing_all {sum} {left} few h s =
      let e : first + left ≡ first = omega arith in
      let f : count - left ≡ count = omega arith in
      (s.is ∙ ap₂ (λ i k. extreme_of b (terms_in g i k)) e f, omega (arith, s.size))

  module _ {left : ℕ} {sum p : ℤ} (small : all (λ t. weight_lawful t.weight) (terms_in g first count) ≡ true) (h : 0 < left)
      (s : Summing b g first count left sum) (is-part : p ≡ part_of b (signed (g (2 * (first + (left - 1)) + 1)))) where
    term_part : p ≡ part_of b (term_of g (first + (left - 1))).weight
    unfolding term_of
    term_part = is-part

    part_small : nat_abs p ≤ 1_000_000
    part_small =
        omega (arith, part_size b (term_of g (first + (left - 1))).weight, ap nat_abs term_part, term_small g first count (left - 1) small (omega (arith, h, s.within)))

    pub sum_small : count ≤ 512 → nat_abs p + nat_abs sum < 2_147_483_648
    sum_small few = omega (arith, part_small, s.size)

    pub summing_more : {r : ℤ} → r ≡ p +ℤ sum → Summing b g first count (left - 1) r
    summing_more {r} e =
        let next : suc (first + (left - 1)) ≡ first + left = omega arith in
        let more : count - (left - 1) ≡ suc (count - left) = omega (arith, h, s.within) in
        record {
          within = omega (arith, s.within);
          is = e
              ∙ ap₂ (λ v z. v +ℤ z) term_part (s.is ∙ ap (λ i. extreme_of b (terms_in g i (count - left))) (sym next))
              ∙ sym (extreme_cons b (term_of g (first + (left - 1))) (terms_in g (suc (first + (left - 1))) (count - left)))
              ∙ ap (extreme_of b) (sym (terms_cons g (first + (left - 1)) (count - left)))
              ∙ ap (λ k. extreme_of b (terms_in g (first + (left - 1)) k)) (sym more);
          size = omega (arith, ap nat_abs e, size_sum p sum, part_small, s.size, more);
        }

-- What a weight that was read gives, as the machine holds it.
pub part_read :
    (b : Bool) {w p : ℤ} {m n : ℕ} → SFits w32 w → w ≡ signed n → n ≡ m → SFits w32 p → p ≡ part_of b (to_z w32 (of_z w32 w))
    → to_z w32 (of_z w32 p) ≡ part_of b (signed m)
part_read b f e n g h = to_z-of_z g ∙ h ∙ ap (part_of b) (to_z-of_z f ∙ e ∙ ap signed n)
