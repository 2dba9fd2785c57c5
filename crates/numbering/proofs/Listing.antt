-- The variables with a new number listed one after the other.
-- Assumes nothing.
use Prim.Native.Nat.{ℕ, suc, ◌+◌, ◌*◌, ◌-◌, ◌≤◌, ◌<◌}
use native.Mathlib.Omega.{arith}
use mathlib.Core.Path.{◌≡◌, refl, sym, ap, ◌∙◌, subst}
use mathlib.Core.Bool.{Bool, true, false, not, cond}
use mathlib.Core.List.{List, [], ◌∷◌, ◌++◌}
use lib.ListN.{length, replicate, length-append}
use lib.Dec.{eqb}
use borrow.Rule.Slice.PartMut.{mid_of, put_mid}
use Rattle.plpb.specs.Lists.{◌and◌, keep, count, row}
use Rattle.plpb.proofs.Lists.{count_le, length_row}
use Rattle.words.specs.Words.{word_at, word_bytes}
use Rattle.words.specs.Writes.{front, put_words}
use Rattle.words.proofs.Words.{length_word_bytes}
use Rattle.words.proofs.Writes.{no_words, words_behind, length_front, front_none}
use Rattle.format.specs.Tables.{pad_to}
use Rattle.tables.proofs.Filled.{rest_lent}
use Rattle.squeezed.proofs.Numbers.{keep_pass, keep_fail}
use Rattle.squeezed.specs.Squeezed.{Becomes, locked, renumbered}
use Rattle.fates.specs.Codes.{decode, decoded}
use Rattle.numbering.specs.Numbered.{is_number, list_one}

-- ---- one variable, by its code

abbrev is_new : Becomes → Bool
is_new (locked v) = false
is_new (renumbered k) = true

number_by : (w : ℕ) → is_number w ≡ is_new (decode w)
unfolding is_number decode ◌and◌
number_by w = go (eqb w 513) (eqb w 514)
  where
    go : (a b : Bool) → (not a and not b) ≡ is_new (cond a (locked false) (cond b (locked true) (renumbered w)))
    go true b = refl
    go false true = refl
    go false false = refl

module _ (m : List ℕ) (x : ℕ) where
  list_none : {v : Bool} → decoded m x ≡ locked v → list_one m x ≡ []
  unfolding list_one decoded
  list_none h = rw (number_by (word_at m x), h)

  list_new : {k : ℕ} → decoded m x ≡ renumbered k → x ∷ [] ≡ list_one m x
  unfolding list_one decoded
  list_new h = rw (number_by (word_at m x), h)

  pub listed_none : (i : ℕ) (l : List ℕ) {v : Bool} → decoded m x ≡ locked v → (l ≡ put_words i (list_one m x) l) × (i ≡ i + length (list_one m x))
  listed_none i l e = let n = list_none e in (sym (no_words i l) ∙ ap (λ ws. put_words i ws l) (sym n), omega (arith, ap length n))

  pub listed_new : (i : ℕ) (l : List ℕ) {k y : ℕ} {t : List ℕ} → decoded m x ≡ renumbered k → y ≡ x → t ≡ put_words i (y ∷ []) l
      → (t ≡ put_words i (list_one m x) l) × (i + 1 ≡ i + length (list_one m x))
  listed_new i l h e p =
      let n = list_new h in
      (p ∙ ap (λ v. put_words i (v ∷ []) l) e ∙ ap (λ ws. put_words i ws l) n, omega (arith, ap length n))

-- ---- one after the other

module _ (m : List ℕ) where
  abbrev pub new : ℕ → Bool
  new = λ x. is_number (word_at m x)

  few : (x : ℕ) → length (keep new (row 1 x)) ≤ x
  unfolding count
  few x = omega (arith, count_le new (row 1 x), length_row 1 x)

  one_by : (x : ℕ) (t : Bool) → new (suc x) ≡ t → keep new (row 1 (suc x)) ≡ keep new (row 1 x) ++ list_one m (suc x)
  unfolding list_one
  one_by x true e = keep_pass new x e ∙ (let n : cond (new (suc x)) (suc x ∷ []) [] ≡ suc x ∷ [] = rw e in ap (λ l. keep new (row 1 x) ++ l) (sym n))
  one_by x false e = keep_fail new x e ∙ (let n : cond (new (suc x)) (suc x ∷ []) [] ≡ [] = rw e in ap (λ l. keep new (row 1 x) ++ l) (sym n))

  one_more : (x : ℕ) → 1 ≤ x → keep new (row 1 x) ≡ keep new (row 1 (x - 1)) ++ list_one m x
  one_more x h = let e : suc (x - 1) ≡ x = omega arith in subst (λ y. keep new (row 1 y) ≡ keep new (row 1 (x - 1)) ++ list_one m y) e (one_by (x - 1) _ refl)

  module _ (n : ℕ) (o : List ℕ) where
    pub record Listing (l : List ℕ) (x i : ℕ) : Type 0 where
      pub low : 1 ≤ x
      pub high : x ≤ suc n
      pub laid : l ≡ front (word_bytes (keep new (row 1 (x - 1)))) o
      pub index : i ≡ length (keep new (row 1 (x - 1)))

    pub listing_start : Listing o 1 0
    unfolding keep row word_bytes
    listing_start = record { low = omega arith; high = omega arith; laid = sym (front_none o); index = refl }

    module _ (l : List ℕ) (x i : ℕ) (h : Listing l x i) (high : n ≤ 512) (size : length o ≡ 2_048) where
      pub listing_few : i ≤ x - 1
      listing_few = omega (arith, few (x - 1), h.index)

      pub listing_same : length l ≡ length o
      listing_same =
          ap length h.laid
          ∙ length_front (word_bytes (keep new (row 1 (x - 1)))) o (omega (arith, length_word_bytes (keep new (row 1 (x - 1))), few (x - 1), h.high))

      pub listing_room : 4 * i ≤ length l
      listing_room = omega (arith, listing_same, listing_few, h.high)

      pub listing_more : {t : List ℕ} {j : ℕ} → t ≡ put_words i (list_one m x) l → j ≡ i + length (list_one m x) → x ≤ n → Listing t (x + 1) j
      listing_more {t} {j} p q u =
          let back : x + 1 - 1 ≡ x = omega arith in
          let us = keep new (row 1 (x - 1)) in
          let is = sym (one_more x h.low) in
          record {
            low = omega arith;
            high = omega arith;
            laid = words_behind o us (list_one m x) i h.laid h.index p ∙ ap (λ ws. front (word_bytes ws) o) (is ∙ ap (λ y. keep new (row 1 y)) (sym back));
            index = q ∙ omega (arith, h.index, length-append us (list_one m x)) ∙ ap length (is ∙ ap (λ y. keep new (row 1 y)) (sym back));
          }

      -- Behind the last variable, or where there is none.
      pub listing_past : {t : List ℕ} {j : ℕ} → n < x → t ≡ l → j ≡ i → Listing t (suc n) j
      listing_past u p q = let e : x ≡ suc n = omega (arith, h.high) in rw (p, q, ← e) h

      pub listing_last : {t v : List ℕ} {j k : ℕ} → t ≡ put_words i (list_one m x) l → j ≡ i + length (list_one m x) → x ≤ n → n ≤ x → v ≡ t → k ≡ j → Listing v (suc n) k
      listing_last p q u w f g = let e : x + 1 ≡ suc n = omega arith in rw (f, g, ← e) (listing_more p q u)

      pub listing_end : n < x → (at : ℕ) (ys : List ℕ) → at ≡ 4 * i → ys ≡ replicate (length (mid_of at (length l - at) l)) 0
          → put_mid at (length l - at) l ys ≡ word_bytes (pad_to 512 (keep new (row 1 n)))
      listing_end u at ys e z =
          let back : x - 1 ≡ n = omega (arith, h.high) in
          let us = keep new (row 1 (x - 1)) in
          rest_lent o l us 512 at ys h.laid (e ∙ ap (λ k. 4 * k) h.index) listing_same (omega arith) (omega (arith, few (x - 1), h.high)) z
          ∙ ap (λ y. word_bytes (pad_to 512 (keep new (row 1 y)))) back
