-- The goals that the search leaves.
use Prim.Native.Nat.{ℕ, ◌≤◌, ◌<◌}
use native.Mathlib.Omega.{arith}
use native.Mathlib.Decide.{dec_lt}
use mathlib.Core.Path.{◌≡◌, refl, ◌∙◌}
use mathlib.Core.Bool.{Bool, true, false, not, cond}
use lib.Dec.{ltb, eqb}
use borrow.Author.Tests.{lt-ltb, le-ltb, eq-eqb, ne_eqb}
use Rattle.std.proofs.Common.{Some, Less, Equal, Greater}
use Rattle.std.specs.Ordering.{nat_cmp, is_lt, partial_lt, partial_ordering_then}
use Rattle.plpb.specs.Lists.{◌and◌, ◌or◌}
use Rattle.ranking.specs.Ranking.{comes_before, older_than}
use Rattle.ranking.proofs.comes_before.Goals as goal

less_of : (b c : Bool) → is_lt (cond b Less (cond c Equal Greater)) ≡ b
less_of true c = refl
less_of false true = refl
less_of false false = refl

-- The first difference decides.
then_less : (t s l m v w : ℕ) → partial_lt {X = ℕ × ℕ × ℕ} (λ x y. partial_ordering_then (partial_ordering_then (Some (nat_cmp x.0 y.0)) (Some (nat_cmp x.1 y.1))) (Some (nat_cmp x.2 y.2))) (t, l, v) (s, m, w) ≡ (ltb t s or (not (ltb s t) and (ltb l m or (eqb l m and ltb v w))))
unfolding ◌or◌ ◌and◌
then_less t s l m v w = at (dec_lt t s) (dec_lt s t) (dec_lt l m) (dec_lt m l)
  where
    at : Dec (t < s) → Dec (s < t) → Dec (l < m) → Dec (m < l) → partial_lt {X = ℕ × ℕ × ℕ} (λ x y. partial_ordering_then (partial_ordering_then (Some (nat_cmp x.0 y.0)) (Some (nat_cmp x.1 y.1))) (Some (nat_cmp x.2 y.2))) (t, l, v) (s, m, w) ≡ (ltb t s or (not (ltb s t) and (ltb l m or (eqb l m and ltb v w))))
    at (yes h) j k i = rw (lt-ltb t s h) refl
    at (no h) (yes j) k i =
        let a : s ≤ t = omega (arith, h) in
        rw (le-ltb t s a, ne_eqb t s (λ e. omega (arith, e, j)), lt-ltb s t j) refl
    at (no h) (no j) (yes k) i =
        let a : t ≡ s = omega (arith, h, j) in
        rw (a, le-ltb s s (omega arith), eq-eqb s s refl, lt-ltb l m k) refl
    at (no h) (no j) (no k) (yes i) =
        let a : t ≡ s = omega (arith, h, j) in
        rw (a, le-ltb s s (omega arith), eq-eqb s s refl, le-ltb l m (omega (arith, i)), ne_eqb l m (λ e. omega (arith, e, i))) refl
    at (no h) (no j) (no k) (no i) =
        let a : t ≡ s = omega (arith, h, j) in
        let b : l ≡ m = omega (arith, k, i) in
        rw (a, b, le-ltb s s (omega arith), eq-eqb s s refl, le-ltb m m (omega arith), eq-eqb m m refl) (less_of (ltb v w) (eqb v w))

pub returns : goal.returns
unfolding comes_before older_than
returns c = c.lt.ensures ∙ then_less _ _ _ _ _ _
