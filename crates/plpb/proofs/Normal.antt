-- P, N and K of the normal form are what the signed sum says: raising the bounds by the negative weights raises the sum by as much.
use Prim.Native.Nat.{ℕ, suc, ◌+◌, ◌≤◌, zero-le}
use native.Mathlib.Nat.{zero-add, add-zero}
use native.Mathlib.Omega.{arith}
use mathlib.Core.Path.{◌≡◌, refl, sym, ap, ap₂, ◌∙◌}
use mathlib.Core.Bool.{Bool, true, false, not, cond}
use mathlib.Core.List.{List, [], ◌∷◌}
use lib.Dec.{ltb, leb-suc-zero}
use lib.IntN.{ℤ, pos, negsuc, neg_ℤ, nat_abs, ◌+ℤ◌, ◌-ℤ◌, +ℤ_assoc, +ℤ_comm, +ℤ_invl, +ℤ_one, -ℤ-+ℤ_cancel}
use lib.Signed.{le_z}
use Rattle.plpb.specs.Lists.{sum_by}
use Rattle.plpb.specs.Plan.{Bound, absent, present, map_bound, Term, Rule, Assignment, value, total, at_least, at_most}
use Rattle.plpb.specs.Normal.{literal, literal_true, is_negative, size, rise, raised, K, P, N, size_a, size_b, below_size}
use Rattle.plpb.proofs.Integers.{le_z_suc, le_z_plus_both}

-- ---- N and P together are K

pub at_most_lem : (b : Bool) (n : ℕ) → cond b n 0 ≤ n
at_most_lem true n = omega arith
at_most_lem false n = zero-le

pub P_at_most_K : (a : Assignment) (ts : List Term) → P a ts ≤ K ts
unfolding P K sum_by
P_at_most_K a [] = zero-le
P_at_most_K a (t ∷ ts) = omega (arith, at_most_lem (literal_true a (literal t)) (size t), P_at_most_K a ts)

pub N_and_P : (a : Assignment) (ts : List Term) → N a ts + P a ts ≡ K ts
unfolding N
N_and_P a ts = omega (arith, P_at_most_K a ts)

-- ---- the raised sum

-- One term: its share of the signed sum, raised where its weight is negative, is its literal's.
raised_term : (b : Bool) (w : ℤ) → cond b w (pos 0) +ℤ pos (cond (is_negative w) (nat_abs w) 0) ≡ pos (cond (cond (is_negative w) (not b) b) (nat_abs w) 0)
unfolding is_negative
raised_term true (pos n) = ap pos (add-zero n)
raised_term false (pos n) = refl
raised_term true (negsuc n) = +ℤ_invl (pos (suc n))
raised_term false (negsuc n) = ap pos (zero-add (suc n))

swap_last : (x y z : ℤ) → x +ℤ y +ℤ z ≡ x +ℤ z +ℤ y
swap_last x y z = +ℤ_assoc x y z ∙ ap (λ s. x +ℤ s) (+ℤ_comm y z) ∙ sym (+ℤ_assoc x z y)

swap_middle : (x y : ℤ) (c d : ℕ) → x +ℤ y +ℤ pos (c + d) ≡ (x +ℤ pos c) +ℤ (y +ℤ pos d)
swap_middle x y c d =
    sym (+ℤ_assoc (x +ℤ y) (pos c) (pos d)) ∙ ap (λ s. s +ℤ pos d) (swap_last x y (pos c)) ∙ +ℤ_assoc (x +ℤ pos c) y (pos d)

pub raised_total : (a : Assignment) (ts : List Term) → total a ts +ℤ pos (rise ts) ≡ pos (P a ts)
unfolding total rise P sum_by literal_true literal size
raised_total a [] = refl
raised_total a (t ∷ ts) =
    swap_middle (cond (value a t.variable) t.weight (pos 0)) (total a ts) (cond (is_negative t.weight) (size t) 0) (rise ts) ∙ ap₂ ◌+ℤ◌ (raised_term (value a t.variable) t.weight) (raised_total a ts)

-- The sum meets a bound exactly where P meets the raised bound.
pub meets_lower : (a : Assignment) (ts : List Term) (l : ℤ) → le_z l (total a ts) ≡ le_z (l +ℤ pos (rise ts)) (pos (P a ts))
meets_lower a ts l = sym (le_z_plus_both l (total a ts) (pos (rise ts))) ∙ ap (le_z (l +ℤ pos (rise ts))) (raised_total a ts)

pub meets_upper : (a : Assignment) (ts : List Term) (u : ℤ) → le_z (total a ts) u ≡ le_z (pos (P a ts)) (u +ℤ pos (rise ts))
meets_upper a ts u = sym (le_z_plus_both (total a ts) u (pos (rise ts))) ∙ ap (λ z. le_z z (u +ℤ pos (rise ts))) (raised_total a ts)

-- ---- in terms of the sizes

below_raised : (n : ℕ) (z : ℤ) → ltb n (raised z) ≡ le_z (pos (suc n)) z
unfolding raised
below_raised n (pos m) = refl
below_raised n (negsuc m) = leb-suc-zero n

-- N below K − l + 1 says that P is at least l.
below_A : (n p k : ℕ) (l : ℤ) → n + p ≡ k → le_z l (pos p) ≡ ltb n (raised (pos k -ℤ l +ℤ pos 1))
below_A n p k l e =
    sym (le_z_plus_both l (pos p) (pos (suc n) -ℤ l)) ∙ ap₂ le_z left right ∙ sym (below_raised n (pos k -ℤ l +ℤ pos 1))
  where
    left : l +ℤ (pos (suc n) -ℤ l) ≡ pos (suc n)
    left = +ℤ_comm l (pos (suc n) -ℤ l) ∙ -ℤ-+ℤ_cancel (pos (suc n)) l

    one_more : p + suc n ≡ k + 1
    one_more = omega arith

    right : pos p +ℤ (pos (suc n) -ℤ l) ≡ pos k -ℤ l +ℤ pos 1
    right = sym (+ℤ_assoc (pos p) (pos (suc n)) (neg_ℤ l)) ∙ ap (λ m. pos m -ℤ l) one_more ∙ swap_last (pos k) (pos 1) (neg_ℤ l)

-- P below u + 1 says that it is at most u.
below_B : (p : ℕ) (u : ℤ) → le_z (pos p) u ≡ ltb p (raised (u +ℤ pos 1))
below_B p u = sym (le_z_suc (pos p) u) ∙ ap (le_z (pos (suc p))) (sym (+ℤ_one u)) ∙ sym (below_raised p (u +ℤ pos 1))

-- A rule's lower bound is met exactly where N is below A, its upper one where P is below B.
pub lower_by_size : (a : Assignment) (r : Rule) → at_least r.lower (total a r.terms) ≡ below_size (N a r.terms) (size_a r)
unfolding size_a map_bound at_least below_size
lower_by_size a r = at r.lower
  where
    ts : List Term
    ts = r.terms

    at : (b : Bound ℤ) → at_least b (total a ts) ≡ below_size (N a ts) (map_bound (λ l. raised (pos (K ts) -ℤ (l +ℤ pos (rise ts)) +ℤ pos 1)) b)
    at absent = refl
    at (present l) = meets_lower a ts l ∙ below_A (N a ts) (P a ts) (K ts) (l +ℤ pos (rise ts)) (N_and_P a ts)

pub upper_by_size : (a : Assignment) (r : Rule) → at_most r.upper (total a r.terms) ≡ below_size (P a r.terms) (size_b r)
unfolding size_b map_bound at_most below_size
upper_by_size a r = at r.upper
  where
    ts : List Term
    ts = r.terms

    at : (b : Bound ℤ) → at_most b (total a ts) ≡ below_size (P a ts) (map_bound (λ u. raised (u +ℤ pos (rise ts) +ℤ pos 1)) b)
    at absent = refl
    at (present u) = meets_upper a ts u ∙ below_B (P a ts) (u +ℤ pos (rise ts))
