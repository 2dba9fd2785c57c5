-- What the numbers that a value is gathered into say of its bytes: its length, whether it is a name or a number, which number, and whether two values
-- of at most 16 bytes are the same.
-- Assumes nothing.
use Prim.Native.Nat.{ℕ, suc, ◌+◌, ◌*◌, ◌-◌, ◌%◌, ◌^◌, ◌≤◌, ◌<◌}
use native.Mathlib.Omega.{arith}
use native.Mathlib.Nat.{pow-le-pow_right}
use native.Mathlib.Decide.{dec_lt}
use mathlib.Core.Path.{◌≡◌, refl, sym, ap, ap₂, ◌∙◌}
use mathlib.Core.Bool.{Bool, true, false, cond}
use Rattle.std.proofs.Common.{Option, Some, None}
use Rattle.std.specs.Option.{is_some}
use mathlib.Core.List.{List, [], ◌∷◌}
use lib.Dec.{leb, ltb}
use lib.ListN.{length}
use borrow.Author.Tests.{le-leb, lt-leb, lt-ltb, le-ltb, leb-true, ltb-true, eqb-true, eq-eqb}
use Rattle.plpb.specs.Lists.{◌and◌, all}
use Rattle.plpb.proofs.Lists.{and_assoc, and_true}
use Rattle.format.proofs.Bools.{and_left, and_right, and_join, same_test, and_false}
use Rattle.cells.specs.declared.value.Value.{Value}
use Rattle.cells.specs.Grammar.{same_bytes}
use Rattle.cells.specs.Values.{no_bytes as empty, too_long, with_byte, with_digit, is_digit, more_digits, added, gather_from, gather, same_value}
use Rattle.lists.specs.Refusals.{is_name, is_number, number_from, number_of}
use Rattle.lists.proofs.Bytes.{same_eq, eq_same}

-- ---- one byte more

added_long : (u : Value) (b : ℕ) → 16 ≤ u.length → added u b ≡ too_long
unfolding added
added_long u b h = rw (le-leb 16 u.length h)

added_low :
    (u : Value) (b : ℕ) → u.length < 8
    → added u b ≡ record { length = u.length + 1; low = with_byte u.low b; high = u.high; number = more_digits u.number b }
unfolding added
added_low u b h = rw (lt-leb 16 u.length (omega arith), lt-ltb u.length 8 h)

added_high :
    (u : Value) (b : ℕ) → 8 ≤ u.length → u.length < 16
    → added u b ≡ record { length = u.length + 1; low = u.low; high = with_byte u.high b; number = more_digits u.number b }
unfolding added
added_high u b h l = rw (lt-leb 16 u.length l, le-ltb u.length 8 h)

module _ (u : Value) (b : ℕ) (l : u.length < 16) where
  added_length : (added u b).length ≡ u.length + 1
  unfolding added
  added_length = rw (lt-leb 16 u.length l)

  added_number : (added u b).number ≡ more_digits u.number b
  unfolding added
  added_number = rw (lt-leb 16 u.length l)

-- ---- its length

length_from : (u : Value) (v : List ℕ) → u.length + length v ≤ 16 → (gather_from u v).length ≡ u.length + length v
unfolding gather_from
length_from u [] h = omega arith
length_from u (b ∷ bs) h =
    let e = added_length u b (omega arith) in
    omega (arith, e, length_from (added u b) bs (omega (arith, e)))

long_stays : (v : List ℕ) → gather_from too_long v ≡ too_long
unfolding gather_from
long_stays [] = refl
long_stays (b ∷ bs) = ap (λ (u : Value). gather_from u bs) (added_long too_long b (omega arith)) ∙ long_stays bs

long_from : (u : Value) (v : List ℕ) → u.length ≤ 16 → 16 < u.length + length v → (gather_from u v).length ≡ 17
unfolding gather_from
long_from u [] h l = absurd (omega arith)
long_from u (b ∷ bs) h l = go (dec_lt u.length 16) (λ m. long_from (added u b) bs (omega (arith, added_length u b m)) (omega (arith, added_length u b m)))
  where
    go : Dec (u.length < 16) → (u.length < 16 → (gather_from (added u b) bs).length ≡ 17) → (gather_from (added u b) bs).length ≡ 17
    go (yes m) f = f m
    go (no m) f = ap (λ (x : Value). (gather_from x bs).length) (added_long u b (omega arith)) ∙ ap (λ (x : Value). x.length) (long_stays bs)

pub short_length : (v : List ℕ) → length v ≤ 16 → (gather v).length ≡ length v
short_length v h = length_from empty v (omega arith) ∙ omega arith

pub long_length : (v : List ℕ) → 16 < length v → (gather v).length ≡ 17
long_length v h = long_from empty v (omega arith) (omega arith)

-- A test of the length up to 16 says the same of both.
pub length_alike : (v : List ℕ) (k : ℕ) → k ≤ 16 → leb (gather v).length k ≡ leb (length v) k
length_alike v k h = go (dec_lt 16 (length v))
  where
    go : Dec (16 < length v) → leb (gather v).length k ≡ leb (length v) k
    go (yes l) = rw (long_length v l) (lt-leb 17 k (omega arith) ∙ sym (lt-leb (length v) k (omega arith)))
    go (no l) = ap (λ (n : ℕ). leb n k) (short_length v (omega arith))

pub length_some : (v : List ℕ) → leb 1 (gather v).length ≡ leb 1 (length v)
length_some v = go (dec_lt 16 (length v))
  where
    go : Dec (16 < length v) → leb 1 (gather v).length ≡ leb 1 (length v)
    go (yes l) = rw (long_length v l) (sym (le-leb 1 (length v) (omega arith)))
    go (no l) = ap (leb 1) (short_length v (omega arith))

-- ---- names and numbers

unfoldable pub name_value : Value → Bool
name_value u = leb 1 u.length and leb u.length 16

pub name_alike : (v : List ℕ) → name_value (gather v) ≡ is_name v
unfolding name_value is_name
name_alike v = ap₂ ◌and◌ (length_some v) (length_alike v 16 (omega arith))

-- Where all bytes are digits there is a number, and elsewhere none.
more_some : (o : Option ℕ) (b : ℕ) → is_some (more_digits o b) ≡ (is_some o and is_digit b)
unfolding more_digits ◌and◌
more_some None b = refl
more_some (Some n) b = go (is_digit b)
  where
    go : (t : Bool) → is_some (cond t (Some (with_digit n b)) None) ≡ t
    go true = refl
    go false = refl

digits_from : (u : Value) (v : List ℕ) → u.length + length v ≤ 16 → is_some (gather_from u v).number ≡ (is_some u.number and all is_digit v)
unfolding gather_from all
digits_from u [] h = sym (and_true (is_some u.number))
digits_from u (b ∷ bs) h =
    digits_from (added u b) bs (omega (arith, added_length u b (omega arith)))
    ∙ ap (λ (t : Bool). t and all is_digit bs) (ap is_some (added_number u b (omega arith)) ∙ more_some u.number b)
    ∙ and_assoc (is_some u.number) (is_digit b) (all is_digit bs)

unfoldable pub number_value : Value → Bool
number_value u = leb 1 u.length and leb u.length 7 and is_some u.number

pub number_alike : (v : List ℕ) → number_value (gather v) ≡ is_number v
unfolding number_value is_number ◌and◌
number_alike v =
    ap₂ (λ (x y : Bool). x and y and is_some (gather v).number) (length_some v) (length_alike v 7 (omega arith)) ∙ go (dec_lt 7 (length v))
  where
    go : Dec (7 < length v) → (leb 1 (length v) and leb (length v) 7 and is_some (gather v).number) ≡ (leb 1 (length v) and leb (length v) 7 and all is_digit v)
    go (yes l) =
        let e = and_false (leb 1 (length v)) (leb (length v) 7) (lt-leb (length v) 7 l) in
        ap (λ (x : Bool). x and is_some (gather v).number) e ∙ sym (ap (λ (x : Bool). x and all is_digit v) e)
    go (no l) = ap (λ (x : Bool). leb 1 (length v) and leb (length v) 7 and x) (digits_from empty v (omega arith))

digit_more : (n b : ℕ) → n < 4_294_967_296 → 48 ≤ b → b ≤ 57 → with_digit n b ≡ 10 * n + (b - 48)
digit_more n b h l m = omega arith

one_more : (n b : ℕ) → is_digit b ≡ true → more_digits (Some n) b ≡ Some (with_digit n b)
unfolding more_digits
one_more n b h = rw h

digit_range : (b : ℕ) → is_digit b ≡ true → (48 ≤ b) × (b ≤ 57)
unfolding is_digit
digit_range b h = (leb-true 48 b (and_left _ _ h), leb-true b 57 (and_right _ _ h))

-- The digits say the number.
number_from_lem :
    (k n : ℕ) (u : Value) (v : List ℕ) → u.number ≡ Some n → n < 10 ^ k → k + length v ≤ 8 → u.length + length v ≤ 16 → all is_digit v ≡ true
    → (gather_from u v).number ≡ Some (number_from n v)
unfolding gather_from number_from all
number_from_lem k n u [] s h m l d = s
number_from_lem k n u (b ∷ bs) s h m l d =
    let k8 : k ≤ 8 = omega arith in
    let few : 10 ^ k ≤ 10 ^ 8 = pow-le-pow_right {n = 10} (omega arith) {i = k} {j = 8} k8 in
    let digit : is_digit b ≡ true = and_left _ _ d in
    let r = digit_range b digit in
    let r0 : 48 ≤ b = r.0 in
    let r1 : b ≤ 57 = r.1 in
    let big : n < 4_294_967_296 = omega (arith, h, few) in
    let next : 10 * n + (b - 48) < 10 ^ suc k = omega (arith, h, r0, r1) in
    number_from_lem (suc k) (10 * n + (b - 48)) (added u b) bs
    (added_number u b (omega arith) ∙ ap (λ o. more_digits o b) s ∙ one_more n b digit ∙ ap Some (digit_more n b big r0 r1)) next (omega arith)
    (omega (arith, added_length u b (omega arith))) (and_right _ _ d)

pub number_says : (v : List ℕ) → is_number v ≡ true → (gather v).number ≡ Some (number_of v)
unfolding is_number
number_says v h =
    let l : length v ≤ 7 = leb-true _ _ (and_right _ _ (and_left _ _ h)) in
    number_from_lem 0 0 empty v refl (omega arith) (omega arith) (omega arith) (and_right _ _ h)

-- ---- two values

abbrev pub Bytes : List ℕ → Type 0
Bytes v = all (λ b. ltb b 256) v ≡ true

-- The two numbers have room for one byte more where the next one goes.
record Packed (u : Value) : Type 0 where
  low_fits : u.low < 256 ^ u.length
  high_fits : u.high < 256 ^ (u.length - 8)

low_room : (u : Value) → Packed u → u.length < 8 → u.low < 72_057_594_037_927_936
low_room u h l =
    let m : u.length ≤ 7 = omega arith in
    let p : 256 ^ u.length ≤ 256 ^ 7 = pow-le-pow_right {n = 256} (omega arith) {i = u.length} {j = 7} m in
    omega (arith, h.low_fits, p)

high_room : (u : Value) → Packed u → u.length < 16 → u.high < 72_057_594_037_927_936
high_room u h l =
    let m : u.length - 8 ≤ 7 = omega arith in
    let p : 256 ^ (u.length - 8) ≤ 256 ^ 7 = pow-le-pow_right {n = 256} (omega arith) {i = u.length - 8} {j = 7} m in
    omega (arith, h.high_fits, p)

byte_more : (n b k : ℕ) → n < 256 ^ k → b < 256 → with_byte n b < 256 ^ suc k
byte_more n b k h l =
    let a : n % 72_057_594_037_927_936 ≤ n = omega arith in
    omega (arith, h, l, a)

packed_low : (u : Value) (b : ℕ) → Packed u → b < 256 → u.length < 8 → Packed (added u b)
packed_low u b h l m =
    let e : suc u.length ≡ u.length + 1 = omega arith in
    let f : u.length - 8 ≡ u.length + 1 - 8 = omega arith in
    rw (added_low u b m)
    (record { low_fits = rw e at (byte_more u.low b u.length h.low_fits l); high_fits = rw f at h.high_fits })

packed_high : (u : Value) (b : ℕ) → Packed u → b < 256 → 8 ≤ u.length → u.length < 16 → Packed (added u b)
packed_high u b h l k m =
    let e : suc u.length ≡ u.length + 1 = omega arith in
    let f : suc (u.length - 8) ≡ u.length + 1 - 8 = omega arith in
    let more : u.low < 256 ^ suc u.length = omega (arith, h.low_fits) in
    rw (added_high u b k m)
    (record { low_fits = rw e at more; high_fits = rw f at (byte_more u.high b (u.length - 8) h.high_fits l) })

packed_added : (u : Value) (b : ℕ) → Packed u → b < 256 → u.length < 16 → Packed (added u b)
packed_added u b h l m = go (dec_lt u.length 8)
  where
    go : Dec (u.length < 8) → Packed (added u b)
    go (yes k) = packed_low u b h l k
    go (no k) = packed_high u b h l (omega arith) m

-- One byte more is told apart.
byte_apart : (n m b c : ℕ) → n < 72_057_594_037_927_936 → m < 72_057_594_037_927_936 → b < 256 → c < 256 → with_byte n b ≡ with_byte m c → (n ≡ m) × (b ≡ c)
byte_apart n m b c p q k l e = (omega arith, omega arith)

module _ (u t : Value) (b c : ℕ) (n : u.length ≡ t.length) (p : Packed u) (q : Packed t) (k : b < 256) (l : c < 256) (m : u.length < 16) where
  abbrev Alike : Type 0
  Alike = (u.low ≡ t.low) × (u.high ≡ t.high) × (b ≡ c)

  added_apart : (added u b).low ≡ (added t c).low → (added u b).high ≡ (added t c).high → Alike
  added_apart e f = go (dec_lt u.length 8)
    where
      go : Dec (u.length < 8) → Alike
      go (yes s) =
          let s2 : t.length < 8 = omega arith in
          let low : with_byte u.low b ≡ with_byte t.low c =
          sym (ap (λ (x : Value). x.low) (added_low u b s)) ∙ e ∙ ap (λ (x : Value). x.low) (added_low t c s2) in
          let high : u.high ≡ t.high = sym (ap (λ (x : Value). x.high) (added_low u b s)) ∙ f ∙ ap (λ (x : Value). x.high) (added_low t c s2) in
          let both = byte_apart u.low t.low b c (low_room u p s) (low_room t q s2) k l low in
          (both.0, high, both.1)
      go (no s) =
          let s1 : 8 ≤ u.length = omega arith in
          let s2 : 8 ≤ t.length = omega arith in
          let m2 : t.length < 16 = omega arith in
          let high : with_byte u.high b ≡ with_byte t.high c =
          sym (ap (λ (x : Value). x.high) (added_high u b s1 m)) ∙ f ∙ ap (λ (x : Value). x.high) (added_high t c s2 m2) in
          let low : u.low ≡ t.low = sym (ap (λ (x : Value). x.low) (added_high u b s1 m)) ∙ e ∙ ap (λ (x : Value). x.low) (added_high t c s2 m2) in
          let both = byte_apart u.high t.high b c (high_room u p m) (high_room t q m2) k l high in
          (low, both.0, both.1)

apart_from :
    (u t : Value) (v w : List ℕ) → u.length ≡ t.length → length v ≡ length w → u.length + length v ≤ 16 → Packed u → Packed t → Bytes v → Bytes w
    → (gather_from u v).low ≡ (gather_from t w).low → (gather_from u v).high ≡ (gather_from t w).high → (u.low ≡ t.low) × (u.high ≡ t.high) × (v ≡ w)
unfolding gather_from all
apart_from u t [] [] n l m p q k h e f = (e, f, refl)
apart_from u t [] (c ∷ w) n l m p q k h e f = absurd (omega arith)
apart_from u t (b ∷ v) [] n l m p q k h e f = absurd (omega arith)
apart_from u t (b ∷ v) (c ∷ w) n l m p q k h e f =
    let s : u.length < 16 = omega arith in
    let s2 : t.length < 16 = omega arith in
    let b1 : b < 256 = ltb-true b 256 (and_left _ _ k) in
    let c1 : c < 256 = ltb-true c 256 (and_left _ _ h) in
    let i = added_length u b s in
    let j = added_length t c s2 in
    let more =
    apart_from (added u b) (added t c) v w (omega (arith, i, j, n)) (omega arith) (omega (arith, i)) (packed_added u b p b1 s) (packed_added t c q c1 s2)
    (and_right _ _ k) (and_right _ _ h) e f in
    let one = added_apart u t b c n p q b1 c1 s more.0 more.1 in
    (one.0, one.1, ap₂ (λ (x : ℕ) (xs : List ℕ). x ∷ xs) one.2 more.2)

empty_packed : Packed empty
empty_packed = record { low_fits = omega arith; high_fits = omega arith }

short_alike : (v w : List ℕ) → length v ≤ 16 → length w ≤ 16 → Bytes v → Bytes w → same_value (gather v) (gather w) ≡ true → v ≡ w
unfolding same_value
short_alike v w l m p q h =
    let n : (gather v).length ≡ (gather w).length = eqb-true _ _ (and_left _ _ (and_left _ _ h)) in
    let len : length v ≡ length w = sym (short_length v l) ∙ n ∙ short_length w m in
    let e = eqb-true _ _ (and_right _ _ (and_left _ _ h)) in
    let f = eqb-true _ _ (and_right _ _ h) in
    (apart_from empty empty v w refl len (omega arith) empty_packed empty_packed p q e f).2

-- One of at most 16 bytes is told from every other.
pub same_alike : (v w : List ℕ) → length w ≤ 16 → Bytes v → Bytes w → same_value (gather v) (gather w) ≡ same_bytes v w
unfolding same_value
same_alike v w m p q = same_test _ _ (to (dec_lt 16 (length v))) from
  where
    to : Dec (16 < length v) → same_value (gather v) (gather w) ≡ true → same_bytes v w ≡ true
    to (yes l) h =
        let n : (gather v).length ≡ (gather w).length = eqb-true _ _ (and_left _ _ (and_left _ _ h)) in
        absurd (omega (arith, n, long_length v l, short_length w m, m))
    to (no l) h = eq_same v w (short_alike v w (omega arith) m p q h)

    from : same_bytes v w ≡ true → same_value (gather v) (gather w) ≡ true
    from h =
        rw (same_eq v w h)
        (and_join _ _ (and_join _ _ (eq-eqb (gather w).length _ refl) (eq-eqb (gather w).low _ refl)) (eq-eqb (gather w).high _ refl))
