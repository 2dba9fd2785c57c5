-- The order of ℤ: adding a number on both sides keeps it, so a ≤ b says that b is a plus a natural number.
use Prim.Native.Nat.{ℕ, zero, suc, ◌+◌, zero-le}
use mathlib.Core.Path.{◌≡◌, refl, sym, ◌∙◌, ap, ap₂, subst}
use native.Mathlib.Omega.{arith}
use lib.Dec.{T, leb, leb→le, le→leb, leb-zero, leb-suc-zero, leb-suc-suc}
use lib.IntN.{ℤ, pos, negsuc, nat_abs, suc_ℤ, pred_ℤ, neg_ℤ, suc-pred, ◌+ℤ◌, ◌-ℤ◌, suc_ℤ-+ℤ, pred_ℤ-+ℤ, +ℤ-suc_ℤ, +ℤ_idl, +ℤ_idr, +ℤ_assoc, +ℤ_comm, +ℤ_invl, -ℤ-+ℤ_cancel}
use lib.Signed.{le_z, lt_z, non_neg, pos-nat_abs, ≤ℤ_refl}

pub le_z_suc : (a b : ℤ) → le_z (suc_ℤ a) (suc_ℤ b) ≡ le_z a b
le_z_suc (pos a) (pos b) = leb-suc-suc a b
le_z_suc (pos a) (negsuc zero) = leb-suc-zero a
le_z_suc (pos a) (negsuc (suc b)) = refl
le_z_suc (negsuc zero) (pos b) = leb-zero (suc b)
le_z_suc (negsuc (suc a)) (pos b) = refl
le_z_suc (negsuc zero) (negsuc zero) = refl
le_z_suc (negsuc zero) (negsuc (suc b)) = sym (leb-suc-zero b)
le_z_suc (negsuc (suc a)) (negsuc zero) = sym (leb-zero (suc a))
le_z_suc (negsuc (suc a)) (negsuc (suc b)) = sym (leb-suc-suc b a)

le_z_pred : (a b : ℤ) → le_z (pred_ℤ a) (pred_ℤ b) ≡ le_z a b
le_z_pred a b = sym (le_z_suc (pred_ℤ a) (pred_ℤ b)) ∙ ap₂ le_z (suc-pred a) (suc-pred b)

-- a < b says a + 1 ≤ b.
pub lt_z_suc : (a b : ℤ) → lt_z a b ≡ le_z (suc_ℤ a) b
lt_z_suc (pos a) (pos b) = refl
lt_z_suc (pos a) (negsuc b) = refl
lt_z_suc (negsuc zero) (pos b) = sym (leb-zero b)
lt_z_suc (negsuc (suc a)) (pos b) = refl
lt_z_suc (negsuc zero) (negsuc b) = leb-suc-zero b
lt_z_suc (negsuc (suc a)) (negsuc b) = leb-suc-suc b a

pub le_z_shift : (c a b : ℤ) → le_z (c +ℤ a) (c +ℤ b) ≡ le_z a b
le_z_shift (pos zero) a b = ap₂ le_z (+ℤ_idl a) (+ℤ_idl b)
le_z_shift (pos (suc n)) a b =
    ap₂ le_z (suc_ℤ-+ℤ (pos n) a) (suc_ℤ-+ℤ (pos n) b) ∙ le_z_suc (pos n +ℤ a) (pos n +ℤ b) ∙ le_z_shift (pos n) a b
le_z_shift (negsuc zero) a b =
    ap₂ le_z (pred_ℤ-+ℤ (pos 0) a) (pred_ℤ-+ℤ (pos 0) b) ∙ le_z_pred (pos 0 +ℤ a) (pos 0 +ℤ b) ∙ ap₂ le_z (+ℤ_idl a) (+ℤ_idl b)
le_z_shift (negsuc (suc n)) a b =
    ap₂ le_z (pred_ℤ-+ℤ (negsuc n) a) (pred_ℤ-+ℤ (negsuc n) b) ∙ le_z_pred (negsuc n +ℤ a) (negsuc n +ℤ b) ∙ le_z_shift (negsuc n) a b

pub le_z_plus_both : (a b c : ℤ) → le_z (a +ℤ c) (b +ℤ c) ≡ le_z a b
le_z_plus_both a b c = ap₂ le_z (+ℤ_comm a c) (+ℤ_comm b c) ∙ le_z_shift c a b

pub lt_z_shift : (c a b : ℤ) → lt_z (c +ℤ a) (c +ℤ b) ≡ lt_z a b
lt_z_shift c a b =
    lt_z_suc (c +ℤ a) (c +ℤ b) ∙ ap (λ z. le_z z (c +ℤ b)) (sym (+ℤ-suc_ℤ c a)) ∙ le_z_shift c (suc_ℤ a) b ∙ sym (lt_z_suc a b)

not_negative : (z : ℤ) → T (le_z (pos 0) z) → T (non_neg z)
not_negative (pos n) t = tt
not_negative (negsuc n) t = t

-- The difference of two numbers in order, as a natural number.
pub le_z_difference : (a b : ℤ) → T (le_z a b) → a +ℤ pos (nat_abs (b -ℤ a)) ≡ b
le_z_difference a b h =
    let e : le_z a b ≡ le_z (pos 0) (b -ℤ a) = sym (le_z_shift (neg_ℤ a) a b) ∙ ap₂ le_z (+ℤ_invl a) (+ℤ_comm (neg_ℤ a) b) in
    ap (λ z. a +ℤ z) (pos-nat_abs (b -ℤ a) (not_negative (b -ℤ a) (subst T e h))) ∙ +ℤ_comm a (b -ℤ a) ∙ -ℤ-+ℤ_cancel b a

pub le_z_plus : (a : ℤ) (k : ℕ) → T (le_z a (a +ℤ pos k))
le_z_plus a k = subst T (sym (le_z_shift a (pos 0) (pos k)) ∙ ap (λ z. le_z z (a +ℤ pos k)) (+ℤ_idr a)) (le→leb 0 k zero-le)

pub le_z_refl : (a : ℤ) → T (le_z a a)
le_z_refl a = (≤ℤ_refl a).le

pub le_z_trans : (a b c : ℤ) → T (le_z a b) → T (le_z b c) → T (le_z a c)
le_z_trans a b c h k =
    let j = nat_abs (b -ℤ a) in
    let i = nat_abs (c -ℤ b) in
    let e : a +ℤ pos (j + i) ≡ c =
    sym (+ℤ_assoc a (pos j) (pos i)) ∙ ap (λ z. z +ℤ pos i) (le_z_difference a b h) ∙ le_z_difference b c k in
    subst (λ z. T (le_z a z)) e (le_z_plus a (j + i))

pub le_z_antisym : (a b : ℤ) → T (le_z a b) → T (le_z b a) → a ≡ b
le_z_antisym a b h k =
    let j = nat_abs (b -ℤ a) in
    let e : le_z b a ≡ leb j 0 =
    ap₂ le_z (sym (le_z_difference a b h)) (sym (+ℤ_idr a)) ∙ le_z_shift a (pos j) (pos 0) in
    let z : j ≡ 0 = omega (arith, leb→le j 0 (subst T e k)) in
    sym (+ℤ_idr a) ∙ ap (λ n. a +ℤ pos n) (sym z) ∙ le_z_difference a b h

pub le_z_add : (a b c d : ℤ) → T (le_z a b) → T (le_z c d) → T (le_z (a +ℤ c) (b +ℤ d))
le_z_add a b c d h k =
    le_z_trans (a +ℤ c) (a +ℤ d) (b +ℤ d) (rw (le_z_shift a c d) k)
    (rw (+ℤ_comm a d, +ℤ_comm b d, le_z_shift d a b) h)

pub le_z_lt_z_trans : (a b c : ℤ) → T (le_z a b) → T (lt_z b c) → T (lt_z a c)
le_z_lt_z_trans a b c h k =
    rw (lt_z_suc a c) (le_z_trans (suc_ℤ a) (suc_ℤ b) c (rw (le_z_suc a b) h) (rw (lt_z_suc b c) at k))
