-- `fill` counts what the reader gave: each read adds its bytes behind those that stand in the buffer.
-- Assumes nothing.
use Rattle.std.proofs.Common.{◌≡◌, ℕ, ◌+◌, ◌≤◌, List, ◌++◌, rules, length, take, sym, ap, ◌∙◌, subst, drop, le_refl, drop_at, length-take-le}
use Rattle.std.proofs.lemmas.Slice.{take-put_mid_below}
use Rattle.std.specs.Io.KnownBytes.{Consumes}
use Rattle.std.proofs.KnownBytes.{Consumes-trans}
use borrow.Rule.Slice.PartMut.{put_mid, post_of}
use lib.Seq.{take-add, take-append-le}
use Rattle.tent.proofs.fill.Goals as goal

-- A read of n bytes into the part from `at` on stands behind the bytes before that place.
joined :
    (at k n : ℕ) (xs ys : List ℕ) → at ≤ length xs → n ≤ length ys
    → take at xs ++ take n ys ≡ take (at + n) (put_mid at k xs ys)
joined at k n xs ys within fits =
    let whole = put_mid at k xs ys in
    let behind = ys ++ post_of at k xs in
    let part = ap (take n) (drop_at (take at xs) behind at (length-take-le at xs within)) ∙ take-append-le n ys (post_of at k xs) fits in
    let before = take-put_mid_below _ _ _ _ _ (le_refl _) within in
    sym (take-add at n whole ∙ ap (λ l. l ++ take n (drop at whole)) before ∙ ap (λ l. take at xs ++ l) part)

pub loop-done-preserved : goal.loop-done-preserved
loop-done-preserved g c =
    let l = c.loop-done in
    let read = c.in_ok-n.ensures in
    let one_more = Consumes-trans _ _ _ _ _ l.invariant.given read.bytes.0 in
    record {
      within = search rules;
      given = subst (Consumes _ _) (joined _ _ _ _ _ l.invariant.within read.bound.0) one_more;
    }
