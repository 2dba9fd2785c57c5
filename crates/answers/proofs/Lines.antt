-- Laws of the two lines of an answer: how long they are, and that they stand one behind the other.
-- Assumes nothing.
use Prim.Native.Nat.{ℕ, suc, ◌+◌, ◌-◌, ◌^◌, ◌≤◌, ◌<◌}
use native.Mathlib.Omega.{arith}
use mathlib.Core.Path.{◌≡◌, refl, ap, ap₂, ◌∙◌}
use mathlib.Core.Bool.{Bool, true, false}
use mathlib.Core.List.{List, [], ◌∷◌, ◌++◌}
use lib.IntN.{ℤ, pos, negsuc}
use lib.ListN.{length, take, drop, length-append}
use Rattle.std.proofs.Common.{Bor, IfSome}
use Rattle.std.specs.Option.{option_copied}
use Rattle.std.specs.Bool.{then_some}
use mir.Syntax.{w64}
use mir.Val.{SFits, to_z, of_z}
use mir.Facts.{to_z-of_z}
use borrow.Rule.Slice.PartMut.{mid_of, put_mid}
use Rattle.plpb.specs.Search.{Ending, floor, ended, none, short_found, short_none}
use Rattle.words.specs.Words.{word_at}
use Rattle.words.specs.Writes.{front}
use Rattle.words.proofs.Writes.{lent_tail}
use Rattle.answers.specs.Found.{has_plan}
use Rattle.lines.specs.Text.{text, line, decimal, signed_decimal, ending_of, ending_word, result_line, assignment_line, bits_line}
use Rattle.texts.proofs.Decimal.{twenty}
use Rattle.lines.proofs.Writing.{characters, length_characters}
use Rattle.lines.proofs.Items.{next_item, result_items}

-- ---- the first line is short

word_short : (e : Ending) → length (ending_word e) ≤ 11
unfolding ending_word text
word_short floor = omega arith
word_short ended = omega arith
word_short none = omega arith
word_short short_found = omega arith
word_short short_none = omega arith

signed_short : (v : ℤ) → SFits w64 v → length (signed_decimal v) ≤ 21
unfolding signed_decimal text
signed_short (pos n) f = let s : n < 2 ^ 63 = f.sfits in omega (arith, twenty n (omega (arith, s)))
signed_short (negsuc n) f = let s : n < 2 ^ 63 = f.sfits in omega (arith, twenty (suc n) (omega (arith, s)))

result_short : (e : Ending) (v : ℤ) (finds flips used : ℕ) → SFits w64 v → finds < 2 ^ 64 → flips < 2 ^ 64 → used < 2 ^ 64 → length (result_line e v finds flips used) ≤ 97
result_short e v finds flips used f a b c =
    let a5 = ending_word e ++ (32 ∷ []) in
    let a4 = signed_decimal v ++ (32 ∷ []) in
    let a3 = decimal finds ++ (32 ∷ []) in
    let a2 = decimal flips ++ (32 ∷ []) in
    let a1 = decimal used ++ (10 ∷ []) in
    let is = ap length (result_items e v finds flips used) in
    omega (
      arith,
      is,
      length-append (a5 ++ a4 ++ a3 ++ a2) a1,
      length-append (a5 ++ a4 ++ a3) a2,
      length-append (a5 ++ a4) a3,
      length-append a5 a4,
      length-append (ending_word e) (32 ∷ []),
      length-append (signed_decimal v) (32 ∷ []),
      length-append (decimal finds) (32 ∷ []),
      length-append (decimal flips) (32 ∷ []),
      length-append (decimal used) (10 ∷ []),
      word_short e,
      signed_short v f,
      twenty finds a,
      twenty flips b,
      twenty used c,
    )

pub second_short : (found : Bool) (n : ℕ) (bytes : List ℕ) → n ≤ length bytes → length (assignment_line found n bytes) ≤ n + 2
unfolding assignment_line line text
second_short true n bytes h = omega (arith, length-append (characters n bytes) (10 ∷ []), length_characters n bytes h)
second_short false n bytes h = omega arith

-- The bytes that are handed on where something was found.
module _ (found : Bool) (b : Bor (List ℕ)) where
  pub bits_short : length b.now ≤ 512 → IfSome (then_some found b) (λ x. length x.now ≤ 512)
  bits_short h = go found
    where
      go : (f : Bool) → IfSome (then_some f b) (λ x. length x.now ≤ 512)
      go true = h
      go false = tt

  pub bits_told : (n : ℕ) (bytes : List ℕ) → b.now ≡ take n bytes → bits_line (option_copied (then_some found b)) ≡ assignment_line found n bytes
  unfolding bits_line assignment_line
  bits_told n bytes e = go found
    where
      go : (f : Bool) → bits_line (option_copied (then_some f b)) ≡ assignment_line f n bytes
      go true = rw e
      go false = refl

-- ---- the two lines one behind the other, the second through a lent tail

-- What is written at the front fits, and so is a prefix of what it is written over.
pub front_fits : (xs o : List ℕ) {t : List ℕ} {k : ℕ} → t ≡ front xs o → k ≡ length xs → length t ≡ length o → k ≤ length t
unfolding front
front_fits xs o {t} e l same =
    let long : length t ≡ length xs + length (drop (length xs) o) = ap length e ∙ length-append xs (drop (length xs) o) in
    omega (arith, long, l)

tail_written :
    (o : List ℕ) (xs ys : List ℕ) {t u : List ℕ} {at r : ℕ} → t ≡ front xs o → at ≡ length xs → at ≤ length t
    → u ≡ front ys (mid_of at (length t - at) t) → r ≡ length ys
    → (put_mid at (length t - at) t u ≡ front (xs ++ ys) o) × (at + r ≡ length (xs ++ ys))
tail_written o xs ys {t} {u} {at} {r} e l h f m = next_item o xs ys (e, l) (lent_tail at ys t u h f) (ap (λ (k : ℕ). at + k) m)

module _ (e : ℕ) (v : ℤ) (finds flips used : ℕ) (fv : SFits w64 v) (a : finds < 2 ^ 64) (b : flips < 2 ^ 64) (c : used < 2 ^ 64) (o : List ℕ) {t : List ℕ} {at : ℕ}
    (w : (t ≡ front (result_line (ending_of e) (to_z w64 (of_z w64 v)) finds flips used) o) × (at ≡ length (result_line (ending_of e) (to_z w64 (of_z w64 v)) finds flips used)))
  where
    as_told : result_line (ending_of e) (to_z w64 (of_z w64 v)) finds flips used ≡ result_line (ending_of e) v finds flips used
    as_told = ap (λ (z : ℤ). result_line (ending_of e) z finds flips used) (to_z-of_z fv)

    pub first_short : at ≤ 97
    first_short = omega (arith, w.1, ap length as_told, result_short (ending_of e) v finds flips used fv a b c)

    pub both_written :
        {u : List ℕ} {r n : ℕ} {found : Bool} (tables bytes : List ℕ) → found ≡ has_plan e → n ≡ word_at tables 0 → at ≤ length t
        → (u ≡ front (assignment_line found n bytes) (mid_of at (length t - at) t)) × (r ≡ length (assignment_line found n bytes))
        → (put_mid at (length t - at) t u ≡ front (result_line (ending_of e) v finds flips used ++ assignment_line (has_plan e) (word_at tables 0) bytes) o)
        × (at + r ≡ length (result_line (ending_of e) v finds flips used ++ assignment_line (has_plan e) (word_at tables 0) bytes))
    both_written {u} {r} {n} {found} tables bytes p q h x =
        let xs = result_line (ending_of e) v finds flips used in
        let is : assignment_line found n bytes ≡ assignment_line (has_plan e) (word_at tables 0) bytes = ap₂ (λ (f : Bool) (k : ℕ). assignment_line f k bytes) p q in
        tail_written o xs _ (w.0 ∙ ap (λ (l : List ℕ). front l o) as_told) (w.1 ∙ ap length as_told) h
        (x.0 ∙ ap (λ (l : List ℕ). front l (mid_of at (length t - at) t)) is)
        (x.1 ∙ ap length is)
