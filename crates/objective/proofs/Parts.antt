-- A list written over a part of a list leaves the other parts; words written over words are their bytes written over bytes.
-- Assumes nothing.
use Prim.Native.Nat.{ℕ, zero, suc, ◌+◌, ◌*◌, ◌-◌, ◌≤◌}
use native.Mathlib.Nat.{add-zero}
use native.Mathlib.Omega.{arith}
use mathlib.Core.Path.{◌≡◌, refl, sym, ap, ap₂, ◌∙◌}
use mathlib.Core.List.{List, [], ◌∷◌, ◌++◌, append_assoc}
use lib.ListN.{length, take, drop, replicate, length-append, length-drop}
use lib.Seq.{take-append-le, drop-append-le, take-append-add, drop-append-add, take-nil, drop-nil}
use Rattle.words.specs.Words.{bytes_of, word_bytes}
use Rattle.words.specs.Writes.{front, put, put_words}
use Rattle.words.proofs.Words.{length_word_bytes}
use Rattle.words.proofs.Writes.{word_bytes_append}
use Rattle.format.specs.Tables.{pad_to, pad_with}

-- ---- parts

pub put_inside : (i : ℕ) (ws a b : List ℕ) → i + length ws ≤ length a → put i ws (a ++ b) ≡ put i ws a ++ b
unfolding put front
put_inside i ws a b h =
    let l : i ≤ length a = omega arith in
    let k : length ws ≤ length (drop i a) = omega (arith, length-drop i a) in
    ap₂ (λ x y. x ++ (ws ++ drop (length ws) y)) (take-append-le i a b l) (drop-append-le i a b l)
    ∙ ap (λ y. take i a ++ (ws ++ y)) (drop-append-le (length ws) (drop i a) b k)
    ∙ ap (λ y. take i a ++ y) (sym (append_assoc ws (drop (length ws) (drop i a)) b))
    ∙ sym (append_assoc (take i a) (ws ++ drop (length ws) (drop i a)) b)

pub put_behind : (n i : ℕ) (ws a b : List ℕ) → length a ≡ n → put (n + i) ws (a ++ b) ≡ a ++ put i ws b
unfolding put front
put_behind n i ws a b e =
    ap (λ m. put (m + i) ws (a ++ b)) (sym e)
    ∙ ap₂ (λ x y. x ++ (ws ++ drop (length ws) y)) (take-append-add a b i) (drop-append-add a b i)
    ∙ append_assoc a (take i b) (ws ++ drop (length ws) (drop i b))

-- ---- a padded section

drop_zeros : (n m : ℕ) → drop n (replicate m 0) ≡ replicate {A = ℕ} (m - n) 0
drop_zeros zero m = let e : m - 0 ≡ m = omega arith in rw e
drop_zeros (suc n) zero = let e : 0 - suc n ≡ 0 = omega arith in drop-nil (suc n) ∙ rw e
drop_zeros (suc n) (suc m) = let e : suc m - suc n ≡ m - n = omega arith in rw e (drop_zeros n m)

put_first : (ys zs : List ℕ) → put 0 ys zs ≡ ys ++ drop (length ys) zs
unfolding put front
put_first ys zs = refl

pub pad_more : (k n : ℕ) (xs ys : List ℕ) → length xs ≡ n → put n ys (pad_to k xs) ≡ pad_to k (xs ++ ys)
unfolding pad_with
pad_more k n xs ys e =
    let z : k - length xs - length ys ≡ k - length (xs ++ ys) = omega (arith, length-append xs ys) in
    ap (λ m. put m ys (xs ++ replicate (k - length xs) 0)) (sym (add-zero n))
    ∙ put_behind n 0 ys xs (replicate (k - length xs) 0) e
    ∙ ap (λ zs. xs ++ zs) (put_first ys _ ∙ ap (λ zs. ys ++ zs) (drop_zeros (length ys) (k - length xs)) ∙ ap (λ m. ys ++ replicate m 0) z)
    ∙ sym (append_assoc xs ys (replicate (k - length (xs ++ ys)) 0))

-- ---- bytes of words

four : (j : ℕ) → 4 * suc j ≡ suc (suc (suc (suc (4 * j))))
four j = omega arith

take_words : (i : ℕ) (s : List ℕ) → take (4 * i) (word_bytes s) ≡ word_bytes (take i s)
unfolding word_bytes bytes_of
take_words zero s = refl
take_words (suc i) [] = take-nil (4 * suc i)
take_words (suc i) (w ∷ s) = rw (four i) (ap (λ bs. bytes_of 4 w ++ bs) (take_words i s))

drop_words : (i : ℕ) (s : List ℕ) → drop (4 * i) (word_bytes s) ≡ word_bytes (drop i s)
unfolding word_bytes bytes_of
drop_words zero s = refl
drop_words (suc i) [] = drop-nil (4 * suc i)
drop_words (suc i) (w ∷ s) = rw (four i) (drop_words i s)

pub put_words_lem : (i : ℕ) (ws s : List ℕ) → put_words i ws (word_bytes s) ≡ word_bytes (put i ws s)
unfolding put_words put front
put_words_lem i ws s =
    ap₂ (λ x y. x ++ (word_bytes ws ++ y)) (take_words i s)
    (ap₂ drop (length_word_bytes ws) (drop_words i s) ∙ drop_words (length ws) (drop i s))
    ∙ ap (λ y. word_bytes (take i s) ++ y) (sym (word_bytes_append ws (drop (length ws) (drop i s))))
    ∙ sym (word_bytes_append (take i s) (ws ++ drop (length ws) (drop i s)))

-- Words written over the words that a table begins with.
pub put_table : (i : ℕ) (ws s rest : List ℕ) → i + length ws ≤ length s → put_words i ws (word_bytes s ++ rest) ≡ word_bytes (put i ws s) ++ rest
unfolding put_words
put_table i ws s rest h =
    put_inside (4 * i) (word_bytes ws) (word_bytes s) rest (omega (arith, length_word_bytes ws, length_word_bytes s))
    ∙ ap (λ t. t ++ rest) (put_words_lem i ws s)
