-- Laws of a field's terms judged one after the other.
-- Assumes nothing.
use Prim.Native.Nat.{ℕ, suc, ◌+◌, ◌*◌, ◌-◌, ◌≤◌, ◌<◌}
use native.Mathlib.Omega.{arith}
use mathlib.Core.Path.{◌≡◌, refl, sym, ap, ap₂, ◌∙◌}
use mathlib.Core.Bool.{Bool, true, false}
use mathlib.Core.List.{List}
use lib.Dec.{leb, ltb, eqb}
use lib.IntN.{ℤ, pos, nat_abs}
use native.Mathlib.Decide.{dec_lt}
use borrow.Author.Rules.{rules}
use borrow.Author.Tests.{le-leb, lt-leb, tests}
use Rattle.std.specs.Prelude.{None}
use Rattle.format.specs.declared.Mode.TheVariants.{Lower, Upper, Both}
use Rattle.format.specs.Modes.{Moded}
use Rattle.format.proofs.Bools.{and_stop, and_false}
use Rattle.plpb.specs.Lists.{◌and◌, ◌or◌, all}
use Rattle.plpb.specs.Plan.{Term, rising, rising_above}
use Rattle.words.specs.Words.{num_at}
use Rattle.format.specs.Limits.{weight_lawful, terms_lawful}
use Rattle.format.specs.File.{term_at, terms_at, bounds_lawful}
use Rattle.bodies.specs.Terms.{term_lawful, lawful_above}

and_true : (b : Bool) → b ≡ (b and true)
unfolding ◌and◌
and_true true = refl
and_true false = refl

and_assoc : (a b c : Bool) → (a and (b and c)) ≡ ((a and b) and c)
unfolding ◌and◌
and_assoc true b c = refl
and_assoc false b c = refl

-- A mode that lacks a bound asks of it that it is 0.
pub lacks_lower : (m l u : ℕ) → m ≡ 2 → l ≤ 1_000_000_000 → u ≤ 1_000_000_000 → eqb l 0 ≡ bounds_lawful m (pos l) (pos u)
unfolding bounds_lawful ◌and◌ ◌or◌
lacks_lower m l u e a b = rw (e, le-leb l 1_000_000_000 a, le-leb u 1_000_000_000 b) (and_true (eqb l 0))

pub lacks_upper : (m l u : ℕ) → m ≡ 1 → l ≤ 1_000_000_000 → u ≤ 1_000_000_000 → eqb u 0 ≡ bounds_lawful m (pos l) (pos u)
unfolding bounds_lawful ◌and◌ ◌or◌
lacks_upper m l u e a b = rw (e, le-leb l 1_000_000_000 a, le-leb u 1_000_000_000 b)

module _ (m l u : ℕ) where
  pub wide_lower : 1_000_000_000 < l → false ≡ bounds_lawful m (pos l) (pos u)
  unfolding bounds_lawful
  wide_lower h = sym (and_stop _ _ (and_stop _ _ (and_stop _ _ (and_false _ _ (lt-leb l 1_000_000_000 h)))))

  pub wide_upper : 1_000_000_000 < u → false ≡ bounds_lawful m (pos l) (pos u)
  unfolding bounds_lawful
  wide_upper h = sym (and_stop _ _ (and_stop _ _ (and_false _ _ (lt-leb u 1_000_000_000 h))))

  -- Mode 3 has both bounds.
  pub lacks_none : m ≡ 3 → l ≤ 1_000_000_000 → u ≤ 1_000_000_000 → true ≡ bounds_lawful m (pos l) (pos u)
  unfolding bounds_lawful ◌and◌ ◌or◌
  lacks_none e a b = rw (e, le-leb l 1_000_000_000 a, le-leb u 1_000_000_000 b)

-- A byte that is no mode.
pub no_mode : (m : ℕ) (l u : ℤ) → Moded m None → false ≡ bounds_lawful m l u
unfolding bounds_lawful
no_mode m l u n = sym (and_stop _ _ (and_stop _ _ (and_stop _ _ (and_stop _ _ (by (dec_lt 3 m))))))
  where
    by : Dec (3 < m) → (leb 1 m and leb m 3) ≡ false
    by (yes h) = and_false _ _ (lt-leb m 3 h)
    by (no k) = and_stop _ _ (lt-leb 1 m (omega (arith, λ (e : 1 ≡ m). n Lower e, λ (e : 2 ≡ m). n Upper e, λ (e : 3 ≡ m). n Both e, k)))

-- Only the sizes of bounds and weights are judged.
bounds_size : (mode : ℕ) (l u : ℤ) → bounds_lawful mode (pos (nat_abs l)) (pos (nat_abs u)) ≡ bounds_lawful mode l u
unfolding bounds_lawful
bounds_size mode l u = refl

pub by_sizes :
    (mode : ℕ) {l u x y : ℤ} {a b : ℕ} → a ≡ nat_abs x → x ≡ l → b ≡ nat_abs y → y ≡ u → {r : Bool} → r ≡ bounds_lawful mode (pos a) (pos b)
    → r ≡ bounds_lawful mode l u
by_sizes mode {l} {u} e p f q h = h ∙ rw (e, p, f, q) (bounds_size mode l u)

pub term_size_lem : (n v : ℕ) (x : ℕ) (w : ℤ) → term_lawful n v (record { variable = x; weight = pos (nat_abs w) }) ≡ term_lawful n v (record { variable = x; weight = w })
unfolding term_lawful weight_lawful
term_size_lem n v x w = refl

-- The two tests that a size is 1 at least.
some_test : (k : ℕ) → leb 1 k ≡ ltb 0 k
some_test k = search (rules, tests)

-- A term's number is judged first, then its weight.
module _ (n v x k : ℕ) where
  pub unfit : (ltb v x and leb x n) ≡ false → false ≡ term_lawful n v (record { variable = x; weight = pos k })
  unfolding term_lawful
  unfit e = sym (and_assoc (ltb v x) (leb x n) _ ∙ and_stop _ _ e)

  module _ (e : (ltb v x and leb x n) ≡ true) where
    fit : weight_lawful (pos k) ≡ term_lawful n v (record { variable = x; weight = pos k })
    unfolding term_lawful ◌and◌
    fit = sym (and_assoc (ltb v x) (leb x n) _ ∙ rw e)

    pub fit_sized : {b : Bool} → b ≡ (leb 1 k and leb k 1_000_000) → b ≡ term_lawful n v (record { variable = x; weight = pos k })
    unfolding weight_lawful
    fit_sized h = h ∙ rw (some_test k) fit

pub lawful_start : (n : ℕ) (ts : List Term) → lawful_above n 0 ts ≡ terms_lawful n ts
unfolding lawful_above terms_lawful rising
lawful_start n ts = refl

pub lawful_first : (s : List ℕ) (n count : ℕ) → lawful_above n 0 (terms_at s (6 * 0) (count - 0)) ≡ terms_lawful n (terms_at s 0 count)
lawful_first s n count = lawful_start n (terms_at s (6 * 0) (count - 0)) ∙ ap₂ (λ (a k : ℕ). terms_lawful n (terms_at s a k)) first all_left
  where
    first : 6 * 0 ≡ 0
    first = refl

    all_left : count - 0 ≡ count
    all_left = omega arith

-- No term is left.
pub lawful_end : (s : List ℕ) (n v count i : ℕ) → count ≤ i → lawful_above n v (terms_at s (6 * i) (count - i)) ≡ true
unfolding lawful_above terms_at rising_above all ◌and◌
lawful_end s n v count i h = ap (λ (m : ℕ). lawful_above n v (terms_at s (6 * i) m)) none
  where
    none : count - i ≡ 0
    none = omega arith

cross : (a b c d : Bool) → ((a and c) and (b and d)) ≡ ((a and b) and (c and d))
unfolding ◌and◌
cross true true c d = refl
cross true false true d = refl
cross true false false d = refl
cross false b c d = refl

-- A term judged, and those behind it.
lawful_more : (s : List ℕ) (n v at k : ℕ) → lawful_above n v (terms_at s at (suc k)) ≡ (term_lawful n v (term_at s at) and lawful_above n (term_at s at).variable (terms_at s (at + 6) k))
unfolding lawful_above terms_at rising_above all term_lawful
lawful_more s n v at k = cross (ltb v (term_at s at).variable) _ _ _

-- Term i of a field's.
module _ (s : List ℕ) (n v count i : ℕ) (some : i < count) where
  less : count - i ≡ suc (count - (i + 1))
  less = omega (arith, some)

  next : 6 * i + 6 ≡ 6 * (i + 1)
  next = omega arith

  pub lawful_go :
      (x : ℕ) → term_lawful n v (term_at s (6 * i)) ≡ true → x ≡ num_at 2 s (6 * i)
      → lawful_above n v (terms_at s (6 * i) (count - i)) ≡ lawful_above n x (terms_at s (6 * (i + 1)) (count - (i + 1)))
  unfolding ◌and◌ term_at
  lawful_go x e q =
      ap (λ (m : ℕ). lawful_above n v (terms_at s (6 * i) m)) less
      ∙ lawful_more s n v (6 * i) (count - (i + 1))
      ∙ rw e (ap₂ (λ (m a : ℕ). lawful_above n m (terms_at s a (count - (i + 1)))) (sym q) next)

  pub lawful_stop : term_lawful n v (term_at s (6 * i)) ≡ false → lawful_above n v (terms_at s (6 * i) (count - i)) ≡ false
  unfolding ◌and◌
  lawful_stop e =
      ap (λ (m : ℕ). lawful_above n v (terms_at s (6 * i) m)) less ∙ lawful_more s n v (6 * i) (count - (i + 1)) ∙ rw e
