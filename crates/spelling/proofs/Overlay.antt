-- Laws of bytes put into a list as far as it goes.
-- Assumes nothing.
use Prim.Native.Nat.{ℕ, zero, suc, ◌+◌, ◌≤◌}
use native.Mathlib.Nat.{zero-add, suc-add, not-suc-le-zero}
use native.Mathlib.Omega.{arith}
use mathlib.Core.Path.{◌≡◌, refl, sym, ap, ◌∙◌}
use mathlib.Core.List.{List, [], ◌∷◌, ◌++◌}
use lib.ListN.{length, set}
use Rattle.words.specs.Writes.{front, put}
use Rattle.spelling.specs.Overlay.{overlay}

pub overlay_length : (at : ℕ) (bs s : List ℕ) → length (overlay at bs s) ≡ length s
unfolding overlay
overlay_length at bs [] = refl
overlay_length zero [] (x ∷ s) = refl
overlay_length zero (b ∷ bs) (x ∷ s) = ap suc (overlay_length zero bs s)
overlay_length (suc at) bs (x ∷ s) = ap suc (overlay_length at bs s)

pub overlay_nothing : (at : ℕ) (s : List ℕ) → overlay at [] s ≡ s
unfolding overlay
overlay_nothing at [] = refl
overlay_nothing zero (x ∷ s) = refl
overlay_nothing (suc at) (x ∷ s) = ap (λ l. x ∷ l) (overlay_nothing at s)

-- Past the end.
pub overlay_past : (at : ℕ) (bs s : List ℕ) → length s ≤ at → overlay at bs s ≡ s
unfolding overlay
overlay_past at bs [] h = refl
overlay_past zero bs (x ∷ s) h = absurd (not-suc-le-zero h)
overlay_past (suc at) bs (x ∷ s) h = ap (λ l. x ∷ l) (overlay_past at bs s (omega arith))

-- One byte stored.
pub overlay_byte : (at b : ℕ) (s : List ℕ) → set s at b ≡ overlay at (b ∷ []) s
unfolding overlay
overlay_byte at b [] = refl
overlay_byte zero b (x ∷ s) = ap (λ l. b ∷ l) (sym (overlay_nothing zero s))
overlay_byte (suc at) b (x ∷ s) = ap (λ l. x ∷ l) (overlay_byte at b s)

-- Bytes put behind others.
behind : (bs ys s : List ℕ) → overlay (length bs) ys (overlay zero bs s) ≡ overlay zero (bs ++ ys) s
unfolding overlay
behind bs ys [] = refl
behind [] ys (x ∷ s) = refl
behind (b ∷ bs) ys (x ∷ s) = ap (λ l. b ∷ l) (behind bs ys s)

pub overlay_append : (at : ℕ) (xs ys s : List ℕ) → overlay (at + length xs) ys (overlay at xs s) ≡ overlay at (xs ++ ys) s
unfolding overlay
overlay_append at xs ys [] = refl
overlay_append zero xs ys (x ∷ s) = ap (λ n. overlay n ys (overlay zero xs (x ∷ s))) (zero-add (length xs)) ∙ behind xs ys (x ∷ s)
overlay_append (suc at) xs ys (x ∷ s) =
    ap (λ n. overlay n ys (x ∷ overlay at xs s)) (suc-add at (length xs)) ∙ ap (λ l. x ∷ l) (overlay_append at xs ys s)

-- Where there is room for all, they stand at the front.
pub overlay_front : (bs s : List ℕ) → length bs ≤ length s → overlay zero bs s ≡ front bs s
unfolding overlay front
overlay_front [] [] h = refl
overlay_front (b ∷ bs) [] h = absurd (not-suc-le-zero h)
overlay_front [] (x ∷ s) h = refl
overlay_front (b ∷ bs) (x ∷ s) h = ap (λ l. b ∷ l) (overlay_front bs s (omega arith))

-- Where there is room for all, they are written from the place on.
pub overlay_put : (at : ℕ) (bs s : List ℕ) → at + length bs ≤ length s → overlay at bs s ≡ put at bs s
unfolding overlay put
overlay_put zero bs s h = overlay_front bs s (omega (arith, h))
overlay_put (suc at) bs [] h = absurd (not-suc-le-zero {n = at + length bs} (omega (arith, h)))
overlay_put (suc at) bs (x ∷ s) h = ap (λ l. x ∷ l) (overlay_put at bs s (omega (arith, h)))
