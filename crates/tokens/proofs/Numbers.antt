-- What is seen of a number while its digits are read.
-- Assumes nothing.
use Prim.Native.Nat.{ℕ, ◌+◌, ◌*◌, ◌-◌, ◌≤◌, ◌<◌}
use native.Mathlib.Omega.{arith}
use mathlib.Core.Path.{◌≡◌, refl, sym, ap, ◌∙◌}
use mathlib.Core.Bool.{Bool, true, false, cond}
use mathlib.Core.List.{List, [], ◌∷◌}
use lib.Dec.{leb, ltb, eqb}
use lib.ListN.{length, get_or, drop, drop_of_length-le}
use borrow.Author.Tests.{lt-ltb, le-ltb, lt-leb, ltb-true, ltb-false, leb-true, ne_eqb}
use Rattle.plpb.specs.Lists.{◌and◌}
use Rattle.tokens.specs.Tokens.{is_digit, number, most, seen}
use Rattle.std.specs.Char.{is_ascii_digit}
use Rattle.tokens.proofs.Runs.{both_is, here}

-- A number up to the most is seen as it is, and one above it as the most.
pub seen_small : (v : ℕ) → v ≤ most → seen v ≡ v
unfolding seen
seen_small v h = rw (le-ltb most v h)

pub seen_large : (v : ℕ) → most ≤ v → seen v ≡ most
unfolding seen
seen_large v h = go (ltb most v) refl
  where
    go : (t : Bool) → ltb most v ≡ t → seen v ≡ most
    go true e = rw e
    go false e = rw e (let n = ltb-false most v e in omega arith)

pub seen_most : (v : ℕ) → seen v ≤ most
unfolding seen
seen_most v = go (ltb most v) refl
  where
    go : (t : Bool) → ltb most v ≡ t → seen v ≤ most
    go true e = rw e (omega arith)
    go false e = rw e (ltb-false most v e)

-- What is seen is never more, and what is seen below the most is the number.
pub seen_le : (v : ℕ) → seen v ≤ v
unfolding seen
seen_le v = go (ltb most v) refl
  where
    go : (t : Bool) → ltb most v ≡ t → seen v ≤ v
    go true e = let n = ltb-true most v e in rw e (omega arith)
    go false e = rw e (omega arith)

pub seen_below : (v : ℕ) → seen v < most → seen v ≡ v
seen_below v h = go (ltb most v) refl
  where
    go : (t : Bool) → ltb most v ≡ t → seen v ≡ v
    go true e = let n = ltb-true most v e in absurd (omega (arith, seen_large v (omega arith)))
    go false e = seen_small v (ltb-false most v e)

-- What is below the most tells a number from what is seen of it nowhere.
module _ (m v : ℕ) (h : m < most) where
  pub seen_ltb : ltb m (seen v) ≡ ltb m v
  seen_ltb = go (ltb most v) refl
    where
      go : (t : Bool) → ltb most v ≡ t → ltb m (seen v) ≡ ltb m v
      go true e =
          let n = ltb-true most v e in
          rw (seen_large v (omega arith)) (lt-ltb m most h ∙ sym (lt-ltb m v (omega arith)))
      go false e = rw (seen_small v (ltb-false most v e))

  pub seen_leb : leb (seen v) m ≡ leb v m
  seen_leb = go (ltb most v) refl
    where
      go : (t : Bool) → ltb most v ≡ t → leb (seen v) m ≡ leb v m
      go true e =
          let n = ltb-true most v e in
          rw (seen_large v (omega arith)) (lt-leb most m h ∙ sym (lt-leb v m (omega arith)))
      go false e = rw (seen_small v (ltb-false most v e))

  pub seen_eqb : eqb m (seen v) ≡ eqb m v
  seen_eqb = go (ltb most v) refl
    where
      go : (t : Bool) → ltb most v ≡ t → eqb m (seen v) ≡ eqb m v
      go true e =
          let n = ltb-true most v e in
          rw (seen_large v (omega arith)) (ne_eqb m most (λ q. omega arith) ∙ sym (ne_eqb m v (λ q. omega arith)))
      go false e = rw (seen_small v (ltb-false most v e))

-- More digits of what is seen are more digits of the number.
seen_digit : (v d : ℕ) → seen (10 * seen v + d) ≡ seen (10 * v + d)
seen_digit v d = go (ltb most v) refl
  where
    go : (t : Bool) → ltb most v ≡ t → seen (10 * seen v + d) ≡ seen (10 * v + d)
    go true e =
        let h = ltb-true most v e in
        let q : seen v ≡ most = seen_large v (omega arith) in
        rw q (seen_large (10 * most + d) (omega arith) ∙ sym (seen_large (10 * v + d) (omega arith)))
    go false e = rw (seen_small v (ltb-false most v e)) refl

seen_seen : (v : ℕ) → seen (seen v) ≡ seen v
seen_seen v = seen_small (seen v) (seen_most v)

seen_by : (t : Bool) (x y v : ℕ) → seen x ≡ seen y → seen (cond t x (seen v)) ≡ seen (cond t y v)
seen_by true x y v e = e
seen_by false x y v e = seen_seen v

pub seen_number : (bs : List ℕ) (v : ℕ) → seen (number (seen v) bs) ≡ seen (number v bs)
unfolding number
seen_number [] v = seen_seen v
seen_number (b ∷ bs) v =
    seen_by (is_digit b) (number (10 * seen v + (b - 48)) bs) (number (10 * v + (b - 48)) bs) v
    (sym (seen_number bs (10 * seen v + (b - 48)))
    ∙ ap (λ k. seen (number k bs)) (seen_digit v (b - 48))
    ∙ seen_number bs (10 * v + (b - 48)))

-- The library's test of a digit.
pub digit_ascii : (b : ℕ) {r : Bool} → r ≡ is_ascii_digit b → is_digit b ≡ r
unfolding is_digit
digit_ascii b e = sym (e ∙ both_is (leb 48 b) (leb b 57))

-- A digit's byte.
pub digit_range : (b : ℕ) → is_digit b ≡ true → (48 ≤ b) × (b ≤ 57)
unfolding is_digit ◌and◌
digit_range b e = go (leb 48 b) refl
  where
    go : (t : Bool) → leb 48 b ≡ t → (48 ≤ b) × (b ≤ 57)
    go true q = (leb-true 48 b q, leb-true b 57 (rw q at e))
    go false q = let z : false ≡ true = rw q at e in absurd (let n : ◌≡◌ {A = ℕ} 0 1 = cc in omega arith)

module _ (s : List ℕ) (v at : ℕ) where
  pub number_end : length s ≤ at → v ≡ number v (drop at s)
  unfolding number
  number_end h = rw (drop_of_length-le s h)

  module _ (l : at < length s) where
    pub number_stop : is_digit (get_or s at 0) ≡ false → v ≡ number v (drop at s)
    unfolding number
    number_stop h = rw (here s at l, h)

    pub number_go : is_digit (get_or s at 0) ≡ true → {w : ℕ} → w ≡ seen (10 * v + (get_or s at 0 - 48)) → seen (number w (drop (at + 1) s)) ≡ seen (number v (drop at s))
    unfolding number
    number_go h {w} e = rw (here s at l, h, e) (seen_number (drop (at + 1) s) (10 * v + (get_or s at 0 - 48)))
