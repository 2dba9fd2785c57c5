-- Laws that join what the code writes, item by item, to the lines of the definitions.
-- Assumes nothing.
use Prim.Native.Nat.{ℕ, suc, ◌+◌, ◌^◌, ◌≤◌, ◌<◌}
use native.Mathlib.Omega.{arith}
use mathlib.Core.Path.{◌≡◌, sym, ap, ap₂, ◌∙◌}
use mathlib.Core.List.{List, [], ◌∷◌, ◌++◌, append_assoc, map}
use Rattle.std.proofs.Common.{Some, None}
use lib.IntN.{ℤ, nat_abs}
use lib.ListN.{length, length-append, length-map, set}
use mir.Syntax.{w64}
use mir.Val.{SFits}
use mir.Facts.{to_z-of_z}
use borrow.Author.Tests.{ne_eqb}
use Rattle.plpb.specs.Search.{Ending, floor, ended, none, short_found, short_none}
use Rattle.words.specs.Writes.{front, put}
use Rattle.words.proofs.Writes.{front_put, put_put}
use Rattle.lines.specs.Text.{text, decimal, signed_decimal, line, ending_of, ending_word, result_line, bits_line, refusal_line}
use Rattle.texts.proofs.Decimal.{twenty}
use Rattle.lines.proofs.Signs.{read, Negative, Natural}
use Rattle.lines.proofs.Writing.{stored, front_more, put_more, character}

-- A number with what ends it.
pub number_written :
    (o : List ℕ) {t : List ℕ} (at n last end : ℕ) → n < 2 ^ 64 → at + 21 ≤ length o → t ≡ put at (decimal n) o → last ≡ at + length (decimal n)
    → (set t last end ≡ put at (decimal n ++ (end ∷ [])) o) × (last + 1 ≡ at + length (decimal n ++ (end ∷ []))) × (last + 1 ≤ at + 21)
number_written o at n last end f room e l =
    let few = twenty n f in (
      put_more o at (decimal n) last end e l (omega (arith, few)),
      omega (arith, l, length-append (decimal n) (end ∷ [])),
      omega (arith, l, few),
    )

-- A signed number, by its sign.
module _ (o : List ℕ) (at : ℕ) (v : ℤ) (n end : ℕ) (size : n ≡ nat_abs v) where
  pub signed_negative :
      {u : List ℕ} {r : ℕ} → Negative v → at < length o → u ≡ put (at + 1) (decimal n ++ (end ∷ [])) (set o at 45)
      → r ≡ at + 1 + length (decimal n ++ (end ∷ []))
      → (u ≡ put at (signed_decimal v ++ (end ∷ [])) o) × (r ≡ at + length (signed_decimal v ++ (end ∷ [])))
  unfolding signed_decimal text
  signed_negative h l e q =
      let ys = decimal n ++ (end ∷ []) in
      let m : n ≡ suc h.0 = size ∙ ap nat_abs h.1 in
      let is : 45 ∷ ys ≡ signed_decimal v ++ (end ∷ []) = rw (h.1, m) in (
        e ∙ ap (put (at + 1) ys) (stored o at 45 l) ∙ put_put at (45 ∷ []) ys o (omega arith) ∙ ap (λ (x : List ℕ). put at x o) is,
        (let long : suc (length ys) ≡ length (signed_decimal v ++ (end ∷ [])) = ap length is in omega (arith, q, long)),
      )

  pub signed_natural :
      {u : List ℕ} {r : ℕ} → Natural v → u ≡ put at (decimal n ++ (end ∷ [])) o → r ≡ at + length (decimal n ++ (end ∷ []))
      → (u ≡ put at (signed_decimal v ++ (end ∷ [])) o) × (r ≡ at + length (signed_decimal v ++ (end ∷ [])))
  unfolding signed_decimal
  signed_natural h e q =
      let m : n ≡ h.0 = size ∙ ap nat_abs h.1 in
      let is : decimal n ≡ signed_decimal v = rw (h.1, m) in
      (e ∙ ap (λ (x : List ℕ). put at (x ++ (end ∷ [])) o) is, q ∙ ap (λ (x : List ℕ). at + length (x ++ (end ∷ []))) is)

pub ending_last : (n : ℕ) → (n ≡ 1 → ⊥) → (n ≡ 2 → ⊥) → (n ≡ 3 → ⊥) → (n ≡ 4 → ⊥) → ending_of n ≡ short_none
unfolding ending_of
ending_last n a b c d = rw (ne_eqb n 1 a, ne_eqb n 2 b, ne_eqb n 3 c, ne_eqb n 4 d)

word_short : (e : Ending) → length (ending_word e) ≤ 11
unfolding ending_word text
word_short floor = omega arith
word_short ended = omega arith
word_short none = omega arith
word_short short_found = omega arith
word_short short_none = omega arith

pub ending_written :
    (o : List ℕ) (e : Ending) (n : ℕ) (ws : List ℕ) {t : List ℕ} {r : ℕ} → ending_of n ≡ e → ws ≡ ending_word e
    → t ≡ front (ws ++ (32 ∷ [])) o → r ≡ length ws + 1
    → (t ≡ front (ending_word (ending_of n) ++ (32 ∷ [])) o) × (r ≡ length (ending_word (ending_of n) ++ (32 ∷ []))) × (r ≤ 12)
ending_written o e n ws p q f l =
    let is : ws ≡ ending_word (ending_of n) = q ∙ sym (ap ending_word p) in
    let w = ending_word (ending_of n) in
    let long : length ws ≡ length w = ap length is in (
      f ∙ ap (λ (x : List ℕ). front (x ++ (32 ∷ [])) o) is,
      omega (arith, l, long, length-append w (32 ∷ [])),
      omega (arith, l, long, word_short (ending_of n)),
    )

-- An item behind those at the front.
pub next_item :
    (o : List ℕ) {t u : List ℕ} (xs ys : List ℕ) {at r : ℕ} → (t ≡ front xs o) × (at ≡ length xs) → u ≡ put at ys t → r ≡ at + length ys
    → (u ≡ front (xs ++ ys) o) × (r ≡ length (xs ++ ys))
next_item o xs ys h e l = (
  e ∙ ap₂ (λ (k : ℕ) (s : List ℕ). put k ys s) h.1 h.0 ∙ front_put xs ys o,
  l ∙ ap (λ (k : ℕ). k + length ys) h.1 ∙ sym (length-append xs ys),
)

-- The same of a signed number as the machine holds it.
pub next_signed :
    (o : List ℕ) {t u : List ℕ} (xs : List ℕ) (v : ℤ) {at r : ℕ} → SFits w64 v → (t ≡ front xs o) × (at ≡ length xs)
    → u ≡ put at (signed_decimal (read v) ++ (32 ∷ [])) t → r ≡ at + length (signed_decimal (read v) ++ (32 ∷ []))
    → (u ≡ front (xs ++ (signed_decimal v ++ (32 ∷ []))) o) × (r ≡ length (xs ++ (signed_decimal v ++ (32 ∷ []))))
next_signed o {t} xs v {at} f h e l =
    let ys : ℤ → List ℕ = λ (z : ℤ). signed_decimal z ++ (32 ∷ []) in
    next_item o xs (ys v) h (e ∙ ap (λ (z : ℤ). put at (ys z) t) (to_z-of_z f)) (l ∙ ap (λ (z : ℤ). at + length (ys z)) (to_z-of_z f))

-- The items with a space or a line feed behind each are the line.
abbrev item : List ℕ → ℕ → List ℕ
item xs end = xs ++ (end ∷ [])

pub result_items :
    (e : Ending) (cost : ℤ) (finds flips used : ℕ)
    → item (ending_word e) 32 ++ item (signed_decimal cost) 32 ++ item (decimal finds) 32 ++ item (decimal flips) 32 ++ item (decimal used) 10
    ≡ result_line e cost finds flips used
unfolding result_line line text
result_items e cost finds flips used = simp append_assoc

pub refusal_items : (number offset : ℕ) → item (text "refused") 32 ++ item (decimal number) 32 ++ item (decimal offset) 10 ≡ refusal_line number offset
unfolding refusal_line line text
refusal_items number offset = simp append_assoc

-- The second line.
pub none_written : (o : List ℕ) {t : List ℕ} {r : ℕ} → t ≡ front (45 ∷ 10 ∷ []) o → r ≡ 2 → (t ≡ front (bits_line None) o) × (r ≡ length (bits_line None))
unfolding bits_line line text
none_written o e l = (e, l)

pub bits_written :
    (o bits : List ℕ) {t : List ℕ} → length bits < length t → t ≡ front (map character bits) o
    → (set t (length bits) 10 ≡ front (bits_line (Some bits)) o) × (length bits + 1 ≡ length (bits_line (Some bits)))
unfolding bits_line line text
bits_written o bits {t} l e =
    let xs = map character bits in
    let long : length xs ≡ length bits = length-map bits character in (
      ap (λ (k : ℕ). set t k 10) (sym long) ∙ front_more o xs 10 e (omega (arith, l, long)),
      sym (length-append xs (10 ∷ []) ∙ ap (λ (k : ℕ). k + 1) long),
    )
