-- The sizes A and B worked out without a sign are those of the normal form: a sum of integers raised to 0 is a difference of naturals.
-- Assumes nothing.
use Prim.Native.Nat.{ℕ, zero, suc, ◌+◌, ◌-◌, ◌≤◌, ◌<◌, ◌^◌}
use native.Mathlib.Omega.{arith}
use mathlib.Core.Path.{◌≡◌, refl, sym, ap, ◌∙◌}
use mathlib.Core.Bool.{Bool, true, false, not, cond, beq}
use lib.Dec.{ltb, eqb}
use lib.IntN.{ℤ, pos, negsuc, neg_ℤ, nat_abs, sub_ℕ, ◌+ℤ◌, ◌-ℤ◌, +ℤ_assoc, +ℤ_comm, neg_ℤ-+ℤ}
use borrow.Author.Tests.{ltb-true}
use mir.Syntax.{w64}
use Rattle.plpb.specs.Plan.{Bound, absent, present, map_bound, Rule}
use Rattle.std.specs.Bool.{then_some}
use Rattle.std.specs.Int.{is_negative as signed_below, saturate_unsigned}
use Rattle.plpb.specs.Normal.{is_negative, rise, raised, K, size_a, size_b}
use Rattle.std.specs.Prelude.{Option, Some, None}
use Rattle.counting.specs.Bound.{bound_of}
use Rattle.format.specs.File.{bound_of as bound_in}
use Rattle.rules.specs.Rules.{reach, lower_size, upper_size}
use Rattle.rules.proofs.Summing.{rise_at_most_K}

-- The library's test of a sign is the project's.
pub signs : (z : ℤ) → signed_below z ≡ is_negative z
unfolding is_negative
signs (pos n) = at (ltb n 0) refl
  where
    at : (b : Bool) → ltb n 0 ≡ b → b ≡ false
    at true e = absurd (omega (arith, ltb-true n 0 e))
    at false e = refl
signs (negsuc n) = refl

-- A literal is true where its sign and its variable's value differ.
pub differs : {r : Bool} (negated value : Bool) → r ≡ not (beq value negated) → r ≡ cond negated (not value) value
differs true true e = e
differs true false e = e
differs false true e = e
differs false false e = e

-- ---- sums of integers, raised to 0

raised_sub : (a b : ℕ) → raised (sub_ℕ a b) ≡ a - b
unfolding raised
raised_sub a b = at (ltb a b) refl
  where
    at : (t : Bool) → ltb a b ≡ t → raised (cond t (negsuc (b - suc a)) (pos (a - b))) ≡ a - b
    at true e = omega (arith, ltb-true a b e)
    at false e = refl

raised_plus : (m : ℕ) (z : ℤ) → raised (pos m +ℤ z) ≡ cond (is_negative z) (m - nat_abs z) (m + nat_abs z)
unfolding raised is_negative
raised_plus m (pos n) = refl
raised_plus m (negsuc n) = raised_sub m (suc n)

raised_minus : (m : ℕ) (z : ℤ) → raised (pos m -ℤ z) ≡ cond (is_negative z) (m + nat_abs z) (m - nat_abs z)
unfolding raised is_negative
raised_minus m (pos zero) = omega arith
raised_minus m (pos (suc n)) = raised_sub m (suc n)
raised_minus m (negsuc n) = refl

-- `reach` is such a sum, and the library's, which is cut at 0 too: a size and a bound of 32 bits do not come to the upper end of 64.
reach_minus : (base : ℕ) (l : ℤ) → raised (pos (base + 1) -ℤ l) ≡ reach base (is_negative l) (nat_abs l)
unfolding reach
reach_minus base l = raised_minus (base + 1) l

reach_plus : (base : ℕ) (u : ℤ) → raised (pos (base + 1) +ℤ u) ≡ reach base (not (is_negative u)) (nat_abs u)
unfolding reach
reach_plus base u = raised_plus (base + 1) u ∙ turned (is_negative u)
  where
    turned : (t : Bool) → cond t (base + 1 - nat_abs u) (base + 1 + nat_abs u) ≡ cond (not t) (base + 1 + nat_abs u) (base + 1 - nat_abs u)
    turned true = refl
    turned false = refl

reach_small : (base m : ℕ) → base < 2 ^ 32 → m ≤ 2 ^ 32 → (up : Bool) → reach base up m < 2 ^ 64
unfolding reach
reach_small base m b h true = omega arith
reach_small base m b h false = omega arith

near : (z : ℤ) {r : ℕ} → raised z ≡ r → r < 2 ^ 64 → saturate_unsigned w64 z ≡ r
unfolding raised
near (pos n) e h = omega arith
near (negsuc n) e h = omega arith

pub lower_reached : (base : ℕ) (l : ℤ) → base < 2 ^ 32 → nat_abs l ≤ 2 ^ 32 → saturate_unsigned w64 (pos (base + 1) -ℤ l) ≡ reach base (is_negative l) (nat_abs l)
lower_reached base l b h = near (pos (base + 1) -ℤ l) (reach_minus base l) (reach_small base (nat_abs l) b h (is_negative l))

pub upper_reached : (base : ℕ) (u : ℤ) → base < 2 ^ 32 → nat_abs u ≤ 2 ^ 32 → saturate_unsigned w64 (pos (base + 1) +ℤ u) ≡ reach base (not (is_negative u)) (nat_abs u)
upper_reached base u b h = near (pos (base + 1) +ℤ u) (reach_plus base u) (reach_small base (nat_abs u) b h (not (is_negative u)))

pos_minus : (k d : ℕ) → d ≤ k → pos k -ℤ pos d ≡ pos (k - d)
pos_minus k zero h = ap pos (omega arith)
pos_minus k (suc d) h = at (ltb k (suc d)) refl
  where
    at : (t : Bool) → ltb k (suc d) ≡ t → cond t (negsuc (suc d - suc k)) (pos (k - suc d)) ≡ pos (k - suc d)
    at true e = absurd (omega (arith, ltb-true k (suc d) e))
    at false e = refl

swap_last : (x y z : ℤ) → x +ℤ y +ℤ z ≡ x +ℤ z +ℤ y
swap_last x y z = +ℤ_assoc x y z ∙ ap (λ s. x +ℤ s) (+ℤ_comm y z) ∙ sym (+ℤ_assoc x z y)

-- K − (l + d) + 1 with the positive weights K − d.
lower_number : (k d : ℕ) (l : ℤ) → d ≤ k → reach (k - d) (is_negative l) (nat_abs l) ≡ raised (pos k -ℤ (l +ℤ pos d) +ℤ pos 1)
lower_number k d l h = sym (ap raised apart ∙ reach_minus (k - d) l)
  where
    without : pos k -ℤ (l +ℤ pos d) ≡ pos (k - d) -ℤ l
    without =
        ap (λ z. pos k +ℤ z) (neg_ℤ-+ℤ l (pos d) ∙ +ℤ_comm (neg_ℤ l) (neg_ℤ (pos d)))
        ∙ sym (+ℤ_assoc (pos k) (neg_ℤ (pos d)) (neg_ℤ l))
        ∙ ap (λ z. z -ℤ l) (pos_minus k d h)

    apart : pos k -ℤ (l +ℤ pos d) +ℤ pos 1 ≡ pos (k - d + 1) -ℤ l
    apart = ap (λ z. z +ℤ pos 1) without ∙ swap_last (pos (k - d)) (neg_ℤ l) (pos 1)

-- u + d + 1
upper_number : (d : ℕ) (u : ℤ) → reach d (not (is_negative u)) (nat_abs u) ≡ raised (u +ℤ pos d +ℤ pos 1)
upper_number d u = sym (ap raised apart ∙ reach_plus d u)
  where
    apart : u +ℤ pos d +ℤ pos 1 ≡ pos (d + 1) +ℤ u
    apart = +ℤ_assoc u (pos d) (pos 1) ∙ +ℤ_comm u (pos (d + 1))

-- ---- of a rule

pub rule_lower : (q : Rule) → lower_size (K q.terms - rise q.terms) q.lower ≡ size_a q
unfolding lower_size size_a map_bound
rule_lower q = at q.lower
  where
    at : (b : Bound ℤ) → map_bound (λ l. reach (K q.terms - rise q.terms) (is_negative l) (nat_abs l)) b ≡ map_bound (λ l. raised (pos (K q.terms) -ℤ (l +ℤ pos (rise q.terms)) +ℤ pos 1)) b
    at absent = refl
    at (present l) = ap present (lower_number (K q.terms) (rise q.terms) l (rise_at_most_K q.terms))

pub rule_upper : (q : Rule) → upper_size (rise q.terms) q.upper ≡ size_b q
unfolding upper_size size_b map_bound
rule_upper q = at q.upper
  where
    at : (b : Bound ℤ) → map_bound (λ u. reach (rise q.terms) (not (is_negative u)) (nat_abs u)) b ≡ map_bound (λ u. raised (u +ℤ pos (rise q.terms) +ℤ pos 1)) b
    at absent = refl
    at (present u) = ap present (upper_number (rise q.terms) u)

-- ---- as the code works them out

pub lower_absent : (base : ℕ) {b : Option ℤ} → b ≡ None → absent ≡ lower_size base (bound_of b)
unfolding lower_size map_bound
lower_absent base e = rw e refl

pub lower_present : (base : ℕ) (l : ℤ) {b : Option ℤ} {r : ℕ} → b ≡ Some l → r ≡ reach base (is_negative l) (nat_abs l) → present r ≡ lower_size base (bound_of b)
unfolding lower_size map_bound
lower_present base l e h = rw e (ap present h)

pub upper_absent : (base : ℕ) {b : Option ℤ} → b ≡ None → absent ≡ upper_size base (bound_of b)
unfolding upper_size map_bound
upper_absent base e = rw e refl

pub upper_present : (base : ℕ) (u : ℤ) {b : Option ℤ} {r : ℕ} → b ≡ Some u → r ≡ reach base (not (is_negative u)) (nat_abs u) → present r ≡ upper_size base (bound_of b)
unfolding upper_size map_bound
upper_present base u e h = rw e (ap present h)

-- A bound is read, unless the rule's mode is the one without it.
pub bound_read : (without mode : ℕ) (v : ℤ) {r : Option ℤ} → r ≡ then_some (not (eqb mode without)) v → bound_of r ≡ bound_in without mode v
unfolding bound_in
bound_read without mode v e = ap bound_of e ∙ by (eqb mode without)
  where
    by : (b : Bool) → bound_of (then_some (not b) v) ≡ cond b absent (present v)
    by true = refl
    by false = refl
