-- Bytes written over those of a buffer: one write behind another, or before it.
-- Assumes nothing.
use Prim.Native.Nat.{ℕ, ◌+◌, ◌≤◌, ◌<◌}
use native.Mathlib.Omega.{arith}
use mathlib.Core.Path.{◌≡◌, sym, ap, ap₂, ◌∙◌}
use mathlib.Core.List.{List, [], ◌∷◌, ◌++◌, append_assoc}
use lib.ListN.{length, take, drop, set, length-append, take-append-drop}
use lib.Seq.{drop-drop, drop_at, length-take-le, take-append-le, take-take}
use Rattle.words.specs.Writes.{front, put}
use Rattle.words.proofs.Writes.{put_sets, put_put}

-- A byte stored.
pub one_stored : (s : List ℕ) (at b : ℕ) → at < length s → set s at b ≡ put at (b ∷ []) s
one_stored s at b h = put_sets (b ∷ []) s at (omega arith)

-- A write behind another joins it.
pub put_on : (s : List ℕ) (at : ℕ) (xs ys : List ℕ) {t u : List ℕ} {to : ℕ} → at + length xs ≤ length s → t ≡ put at xs s → to ≡ at + length xs → u ≡ put to ys t
    → u ≡ put at (xs ++ ys) s
put_on s at xs ys h p q r = r ∙ ap₂ (λ n x. put n ys x) q p ∙ put_put at xs ys s h

-- A write by what stands before it and behind it.
pub whole : (at : ℕ) (bs s : List ℕ) → put at bs s ≡ (take at s ++ bs) ++ drop (at + length bs) s
unfolding put front
whole at bs s = sym (append_assoc (take at s) bs _) ∙ ap (λ l. (take at s ++ bs) ++ l) (drop-drop (length bs) at s)

pub long : (at : ℕ) (bs s : List ℕ) → at ≤ length s → length (take at s ++ bs) ≡ at + length bs
long at bs s h = length-append (take at s) bs ∙ ap (λ n. n + length bs) (length-take-le at s h)

-- A write over what stands before another joins it.
take_put : (n at : ℕ) (bs s : List ℕ) → n ≤ at → at ≤ length s → take n (put at bs s) ≡ take n s
unfolding put front
take_put n at bs s h l =
    let e : n ≤ length (take at s) = omega (arith, length-take-le at s l) in
    take-append-le n (take at s) (bs ++ drop (length bs) (drop at s)) e ∙ take-take n at s h

drop_written : (at : ℕ) (bs s : List ℕ) → at ≤ length s → drop at (put at bs s) ≡ bs ++ drop (at + length bs) s
unfolding put front
drop_written at bs s h =
    drop_at (take at s) (bs ++ drop (length bs) (drop at s)) at (length-take-le at s h) ∙ ap (λ l. bs ++ l) (drop-drop (length bs) at s)

pub put_before : (s : List ℕ) (at : ℕ) (xs ys : List ℕ) {t u : List ℕ} {to : ℕ} → at + length xs ≤ length s → to ≡ at + length xs → t ≡ put to ys s
    → u ≡ put at xs t → u ≡ put at (xs ++ ys) s
put_before s at xs ys {t} h p q r =
    let n = at + length xs in
    let e : t ≡ put n ys s = q ∙ ap (λ m. put m ys s) p in
    let m : n + length ys ≡ at + length (xs ++ ys) = omega (arith, length-append xs ys) in
    r ∙ ap (put at xs) e ∙ whole at xs (put n ys s)
    ∙ ap₂ (λ a b. (a ++ xs) ++ b) (take_put at n ys s (omega arith) h) (drop_written n ys s h)
    ∙ sym (append_assoc (take at s ++ xs) ys (drop (n + length ys) s))
    ∙ ap₂ (λ a k. a ++ drop k s) (append_assoc (take at s) xs ys) m
    ∙ sym (whole at (xs ++ ys) s)

-- Nothing written.
pub put_none : (at : ℕ) (s : List ℕ) → put at [] s ≡ s
unfolding put front
put_none at s = take-append-drop at s
