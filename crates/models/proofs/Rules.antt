-- Paper 004, section 4: (16) and (17) say W⁻ ≡ [w₁a₁, .., wₘaₘ]u, (18) and (19) say W⁺ ≡ l[w₁a₁, .., wₘaₘ], (20) to (22) say W ≡ W⁺ ∧ W⁻, and (15) says
-- that some W is true.
-- Assumes nothing.
use Prim.Native.Nat.{ℕ, zero, suc, ◌+◌, zero-le}
use native.Mathlib.Omega.{arith}
use mathlib.Core.Path.{◌≡◌, refl, sym, ap, ap₂, ◌∙◌}
use mathlib.Core.Bool.{Bool, true, false, not, cond}
use mathlib.Core.List.{List, [], ◌∷◌, ◌++◌}
use lib.Dec.{leb-suc-zero, le→leb}
use lib.IntN.{ℤ, pos, negsuc, neg_ℤ, ◌+ℤ◌, ◌-ℤ◌, +ℤ_idl, +ℤ_idr, +ℤ_assoc, +ℤ_comm, +ℤ_invr, -ℤ-+ℤ_cancel}
use lib.Signed.{le_z}
use borrow.Author.Tests.{lt-ltb}
use Rattle.plpb.specs.Lists.{◌and◌, ◌or◌, all}
use Rattle.plpb.specs.Plan.{Bound, absent, present, Term, Rule, Clause, Lock, Assignment, value, agrees, total, at_least, at_most, rule_holds, least_total, greatest_total}
use Rattle.plpb.proofs.Lists.{is_true, and_true, true_and, not_not, all_append}
use Rattle.plpb.proofs.Integers.{le_z_shift}
use Rattle.plpb.proofs.Costs.{least_total_lem, greatest_total_lem}
use Rattle.opb.specs.Opb.{Line, meets}
use Rattle.opb.specs.Tau.{weighted, geq, leq, fixed, minus_lines, plus_lines, both_lines, rule_lines, rule_atoms, lock_line, lower_line, upper_line, straight}
use Rattle.models.proofs.Sums.{meets_geq, meets_leq, total_snoc}

-- Two truth values are the same.
unfoldable pub same : Bool → Bool → Bool
same true t = t
same false t = not t

-- ---- the order of integers

-- A number is above another where it is not at most that one.
above_zero : (z : ℤ) → le_z (z +ℤ pos 1) (pos 0) ≡ not (le_z (pos 0) z)
above_zero (pos n) = one n
  where
    one : (n : ℕ) → le_z (pos n +ℤ pos 1) (pos 0) ≡ not (le_z (pos 0) (pos n))
    one n = let e : n + 1 ≡ suc n = omega arith in ap (λ m. le_z (pos m) (pos 0)) e ∙ leb-suc-zero n ∙ sym (ap not (is_true (le_z (pos 0) (pos n)) (le→leb 0 n zero-le)))
above_zero (negsuc zero) = refl
above_zero (negsuc (suc n)) = rw (lt-ltb 1 (suc (suc n)) (omega arith)) refl

pub above : (s u : ℤ) → le_z (u +ℤ pos 1) s ≡ not (le_z s u)
above s u =
    sym (le_z_shift (neg_ℤ s) (u +ℤ pos 1) s)
    ∙ ap₂ le_z (sym (+ℤ_assoc (neg_ℤ s) u (pos 1))) (+ℤ_comm (neg_ℤ s) s ∙ +ℤ_invr s)
    ∙ above_zero (neg_ℤ s +ℤ u)
    ∙ ap not (ap (λ z. le_z z (neg_ℤ s +ℤ u)) (sym (+ℤ_comm (neg_ℤ s) s ∙ +ℤ_invr s)) ∙ le_z_shift (neg_ℤ s) s u)

-- A sum with p − q added against p is the sum against q.
up_to : (s p q : ℤ) → le_z (s +ℤ (p -ℤ q)) p ≡ le_z s q
up_to s p q = ap₂ le_z (+ℤ_comm s (p -ℤ q)) (sym (-ℤ-+ℤ_cancel p q)) ∙ le_z_shift (p -ℤ q) s q

from : (s p q : ℤ) → le_z p (s +ℤ (p -ℤ q)) ≡ le_z q s
from s p q = ap₂ le_z (sym (-ℤ-+ℤ_cancel p q)) (+ℤ_comm s (p -ℤ q)) ∙ le_z_shift (p -ℤ q) q s

-- ---- (16) to (19)

module _ (b : Assignment) where
  all_two : (c d : Line) → all (meets b) (c ∷ d ∷ []) ≡ meets b c and meets b d
  unfolding all
  all_two c d = ap (λ z. meets b c and z) (and_true (meets b d))

  all_one : (c : Line) → all (meets b) (c ∷ []) ≡ meets b c
  unfolding all
  all_one c = and_true (meets b c)

  bit_least : (v : Bool) → le_z (pos 1) (cond v (pos 1) (pos 0) +ℤ pos 0) ≡ v
  bit_least true = refl
  bit_least false = refl

  fixed_says : (x : ℕ) → all (meets b) (fixed x) ≡ same (value b x) true
  unfolding fixed
  fixed_says x = all_one (geq (weighted (pos 1) x ∷ []) (pos 1)) ∙ meets_geq b (weighted (pos 1) x ∷ []) (pos 1) ∙ one
    where
      bit : (v : Bool) → v ≡ same v true
      bit true = unfold same in refl
      bit false = unfold same in refl

      one : le_z (pos 1) (total b (weighted (pos 1) x ∷ [])) ≡ same (value b x) true
      one = unfold total in (bit_least (value b x) ∙ bit (value b x))

  module _ (ts : List Term) (x : ℕ) where
    minus_says : (u : Bound ℤ) → all (meets b) (minus_lines x u ts) ≡ same (value b x) (at_most u (total b ts))
    unfolding minus_lines at_most
    minus_says absent = fixed_says x
    minus_says (present u) =
        all_two _ _
        ∙ ap₂ ◌and◌ (meets_leq b (ts ++ (weighted (greatest_total ts -ℤ u) x ∷ [])) (greatest_total ts)) (meets_geq b (ts ++ (weighted (u +ℤ pos 1 -ℤ least_total ts) x ∷ [])) (u +ℤ pos 1))
        ∙ ap₂ (λ (y z : ℤ). le_z y (greatest_total ts) and le_z (u +ℤ pos 1) z) (total_snoc b ts (weighted (greatest_total ts -ℤ u) x)) (total_snoc b ts (weighted (u +ℤ pos 1 -ℤ least_total ts) x))
        ∙ by (value b x)
      where
        by : (v : Bool)
            → le_z (total b ts +ℤ cond v (greatest_total ts -ℤ u) (pos 0)) (greatest_total ts) and le_z (u +ℤ pos 1) (total b ts +ℤ cond v (u +ℤ pos 1 -ℤ least_total ts) (pos 0))
            ≡ same v (le_z (total b ts) u)
        by true = unfold same in
            (ap₂ ◌and◌ (up_to (total b ts) (greatest_total ts) u) (from (total b ts) (u +ℤ pos 1) (least_total ts) ∙ is_true _ (least_total_lem b ts)) ∙ and_true (le_z (total b ts) u))
        by false = unfold same in
            (ap₂ (λ (y z : ℤ). le_z y (greatest_total ts) and le_z (u +ℤ pos 1) z) (+ℤ_idr (total b ts)) (+ℤ_idr (total b ts))
            ∙ ap₂ ◌and◌ (is_true _ (greatest_total_lem b ts)) (above (total b ts) u) ∙ true_and (not (le_z (total b ts) u)))

    plus_says : (l : Bound ℤ) → all (meets b) (plus_lines x l ts) ≡ same (value b x) (at_least l (total b ts))
    unfolding plus_lines at_least
    plus_says absent = fixed_says x
    plus_says (present l) =
        all_two _ _
        ∙ ap₂ ◌and◌ (meets_geq b (ts ++ (weighted (least_total ts -ℤ l) x ∷ [])) (least_total ts)) (meets_leq b (ts ++ (weighted (l -ℤ pos 1 -ℤ greatest_total ts) x ∷ [])) (l -ℤ pos 1))
        ∙ ap₂ (λ (y z : ℤ). le_z (least_total ts) y and le_z z (l -ℤ pos 1)) (total_snoc b ts (weighted (least_total ts -ℤ l) x)) (total_snoc b ts (weighted (l -ℤ pos 1 -ℤ greatest_total ts) x))
        ∙ by (value b x)
      where
        below : le_z (total b ts) (l -ℤ pos 1) ≡ not (le_z l (total b ts))
        below = sym (not_not (le_z (total b ts) (l -ℤ pos 1))) ∙ ap not (sym (above (total b ts) (l -ℤ pos 1)) ∙ ap (λ z. le_z z (total b ts)) (-ℤ-+ℤ_cancel l (pos 1)))

        by : (v : Bool)
            → le_z (least_total ts) (total b ts +ℤ cond v (least_total ts -ℤ l) (pos 0)) and le_z (total b ts +ℤ cond v (l -ℤ pos 1 -ℤ greatest_total ts) (pos 0)) (l -ℤ pos 1)
            ≡ same v (le_z l (total b ts))
        by true = unfold same in
            (ap₂ ◌and◌ (from (total b ts) (least_total ts) l) (up_to (total b ts) (l -ℤ pos 1) (greatest_total ts) ∙ is_true _ (greatest_total_lem b ts)) ∙ and_true (le_z l (total b ts)))
        by false = unfold same in
            (ap₂ (λ (y z : ℤ). le_z (least_total ts) y and le_z z (l -ℤ pos 1)) (+ℤ_idr (total b ts)) (+ℤ_idr (total b ts))
            ∙ ap₂ ◌and◌ (is_true _ (least_total_lem b ts)) below ∙ true_and (not (le_z l (total b ts))))

  -- ---- (20) to (22)

  both_says : (k : ℕ) → all (meets b) (both_lines k) ≡ same (value b (k + 3)) (value b (k + 1) and value b (k + 2))
  unfolding both_lines all
  both_says k =
      ap₂ (λ (y z : Bool). y and z) (meets_geq b (weighted (pos 1) (k + 1) ∷ weighted (negsuc 0) (k + 3) ∷ []) (pos 0))
      (ap₂ (λ (y z : Bool). y and (z and true)) (meets_geq b (weighted (pos 1) (k + 2) ∷ weighted (negsuc 0) (k + 3) ∷ []) (pos 0))
      (meets_geq b (weighted (negsuc 0) (k + 1) ∷ weighted (negsuc 0) (k + 2) ∷ weighted (pos 1) (k + 3) ∷ []) (negsuc 0)))
      ∙ cases
    where
      by : (p m w : Bool)
          → le_z (pos 0) (cond p (pos 1) (pos 0) +ℤ (cond w (negsuc 0) (pos 0) +ℤ pos 0))
          and (le_z (pos 0) (cond m (pos 1) (pos 0) +ℤ (cond w (negsuc 0) (pos 0) +ℤ pos 0))
          and (le_z (negsuc 0) (cond p (negsuc 0) (pos 0) +ℤ (cond m (negsuc 0) (pos 0) +ℤ (cond w (pos 1) (pos 0) +ℤ pos 0))) and true))
          ≡ same w (p and m)
      by true true true = unfold same ◌and◌ in refl
      by true true false = unfold same ◌and◌ in refl
      by true false true = unfold same ◌and◌ in refl
      by true false false = unfold same ◌and◌ in refl
      by false true true = unfold same ◌and◌ in refl
      by false true false = unfold same ◌and◌ in refl
      by false false true = unfold same ◌and◌ in refl
      by false false false = unfold same ◌and◌ in refl

      cases : le_z (pos 0) (total b (weighted (pos 1) (k + 1) ∷ weighted (negsuc 0) (k + 3) ∷ []))
          and (le_z (pos 0) (total b (weighted (pos 1) (k + 2) ∷ weighted (negsuc 0) (k + 3) ∷ []))
          and (le_z (negsuc 0) (total b (weighted (negsuc 0) (k + 1) ∷ weighted (negsuc 0) (k + 2) ∷ weighted (pos 1) (k + 3) ∷ [])) and true))
          ≡ same (value b (k + 3)) (value b (k + 1) and value b (k + 2))
      cases = unfold total in by (value b (k + 1)) (value b (k + 2)) (value b (k + 3))

  -- A rule's lines say what its three new variables are.
  pub rule_says :
      (k : ℕ) (r : Rule) → all (meets b) (rule_lines k r)
      ≡ same (value b (k + 2)) (at_most r.upper (total b r.terms))
      and (same (value b (k + 1)) (at_least r.lower (total b r.terms)) and same (value b (k + 3)) (value b (k + 1) and value b (k + 2)))
  unfolding rule_lines
  rule_says k r =
      all_append (meets b) (minus_lines (k + 2) r.upper r.terms) (plus_lines (k + 1) r.lower r.terms ++ both_lines k)
      ∙ ap₂ ◌and◌ (minus_says r.terms (k + 2) r.upper)
      (all_append (meets b) (plus_lines (k + 1) r.lower r.terms) (both_lines k) ∙ ap₂ ◌and◌ (plus_says r.terms (k + 1) r.lower) (both_says k))

  -- A rule written straight.
  pub straight_says : (r : Rule) → all (meets b) (straight r) ≡ rule_holds b r
  unfolding straight rule_holds
  straight_says r =
      all_append (meets b) (lower_line r.lower r.terms) (upper_line r.upper r.terms) ∙ ap₂ ◌and◌ (lower r.lower) (upper r.upper)
    where
      lower : (l : Bound ℤ) → all (meets b) (lower_line l r.terms) ≡ at_least l (total b r.terms)
      lower absent = unfold lower_line at_least all in refl
      lower (present l) = unfold lower_line at_least in (all_one (geq r.terms l) ∙ meets_geq b r.terms l)

      upper : (u : Bound ℤ) → all (meets b) (upper_line u r.terms) ≡ at_most u (total b r.terms)
      upper absent = unfold upper_line at_most all in refl
      upper (present u) = unfold upper_line at_most in (all_one (leq r.terms u) ∙ meets_leq b r.terms u)

  -- A lock's line says that the variable has the value.
  pub lock_says : (k : Lock) → meets b (lock_line k) ≡ agrees (present k.value) (value b k.variable)
  unfolding meets lock_line total agrees
  lock_says k = by k.value (value b k.variable)
    where
      by : (w v : Bool)
          → le_z (cond w (pos 1) (pos 0)) (cond v (pos 1) (pos 0) +ℤ pos 0) and le_z (cond v (pos 1) (pos 0) +ℤ pos 0) (cond w (pos 1) (pos 0)) ≡ cond w v (not v)
      by true true = unfold ◌and◌ in refl
      by true false = unfold ◌and◌ in refl
      by false true = unfold ◌and◌ in refl
      by false false = unfold ◌and◌ in refl

  -- ---- (15)

  unfoldable pub some_rule : ℕ → Clause → Bool
  some_rule k [] = false
  some_rule k (r ∷ rs) = value b (k + 3) or some_rule (k + 3) rs

  abbrev Counted : ℕ → Clause → Type 0
  Counted k c = (n : ℕ) × (total b (rule_atoms k c) ≡ pos n) × (le_z (pos 1) (pos n) ≡ some_rule k c)

  counted : (k : ℕ) (c : Clause) → Counted k c
  unfolding rule_atoms total some_rule ◌or◌
  counted k [] = (0, refl, refl)
  counted k (r ∷ rs) = more (value b (k + 3)) (counted (k + 3) rs)
    where
      more : (v : Bool) → Counted (k + 3) rs
          → (n : ℕ) × (cond v (pos 1) (pos 0) +ℤ total b (rule_atoms (k + 3) rs) ≡ pos n) × (le_z (pos 1) (pos n) ≡ v or some_rule (k + 3) rs)
      more true (n, e, h) = (suc n, ap (λ z. pos 1 +ℤ z) e ∙ (let m : 1 + n ≡ suc n = omega arith in ap pos m), is_true _ (le→leb 1 (suc n) (omega arith)))
      more false (n, e, h) = (n, ap (λ z. pos 0 +ℤ z) e ∙ +ℤ_idl (pos n), h)

  pub some_says : (k : ℕ) (c : Clause) → meets b (geq (rule_atoms k c) (pos 1)) ≡ some_rule k c
  some_says k c = let (n, e, h) = counted k c in meets_geq b (rule_atoms k c) (pos 1) ∙ ap (le_z (pos 1)) e ∙ h
