-- A part of a buffer that is filled with zeros: its words are 0, and those before and behind it are as they were.
-- Assumes nothing.
use Prim.Native.Nat.{ℕ, zero, suc, ◌+◌, ◌*◌, ◌-◌, ◌≤◌, ◌<◌}
use native.Mathlib.Omega.{arith}
use mathlib.Core.Path.{◌≡◌, ap, ◌∙◌}
use mathlib.Core.List.{List, ◌++◌}
use lib.ListN.{length, take, drop, get_or}
use lib.Seq.{length-take-le}
use borrow.Rule.Slice.PartMut.{put_mid}
use Rattle.std.proofs.Common.{replicate}
use Rattle.std.proofs.lemmas.List.{length-replicate, get_or-replicate}
use Rattle.std.proofs.lemmas.Slice.{take-put_mid_below}
use Rattle.words.specs.Words.{word_at, word_bytes}
use Rattle.words.specs.Writes.{put, front}
use Rattle.words.proofs.Words.{num_at_append, word_at_word_bytes}
use Rattle.words.proofs.Writes.{lent_part, length_put, read_before, read_behind, drop_put}
use Rattle.columns.specs.Frames.{Only}

-- Whatever it holds: the words from one on, below another, are written, and no other.
pub part_only : (from end : ℕ) {s : List ℕ} (ys : List ℕ) → from ≤ end → 4 * end ≤ length s → length ys ≡ 4 * end - 4 * from → Only from end s (put_mid (4 * from) (4 * end - 4 * from) s ys)
unfolding word_at
part_only from end {s} ys l h e =
    let p : put_mid (4 * from) (4 * end - 4 * from) s ys ≡ put (4 * from) ys s = lent_part (4 * from) (4 * end) s ys (omega arith) e in
    record {
      size = ap length p ∙ length_put (4 * from) ys s (omega (arith, e));
      low = λ i k. ap (λ t. word_at t i) p ∙ read_before 4 (4 * from) (4 * i) ys s (omega arith) (omega arith);
      high = λ i k. ap (λ t. word_at t i) p ∙ read_behind 4 (4 * from) (4 * i) ys s (omega arith) (omega (arith, e));
      ahead = λ n k. take-put_mid_below (4 * from) (4 * end - 4 * from) s ys n (omega arith) (omega arith);
      beyond = λ n k m. ap (drop n) p ∙ drop_put n (4 * from) ys s (omega (arith, e)) m;
    }

below_zeros : (n i : ℕ) → get_or (replicate {A = ℕ} n 0) i 0 < 4_294_967_296
below_zeros zero i = omega arith
below_zeros (suc n) zero = omega arith
below_zeros (suc n) (suc i) = below_zeros n i

-- Zeros are words that are 0.
pub zero_word : (from n d : ℕ) (s : List ℕ) → d < n → 4 * from ≤ length s → word_at (put (4 * from) (word_bytes (replicate n 0)) s) (from + d) ≡ 0
unfolding word_at put front
zero_word from n d s h l =
    let below : (i : ℕ) → get_or (replicate {A = ℕ} n 0) i 0 < 4_294_967_296 = λ i. below_zeros n i in
    let bs : List ℕ = word_bytes (replicate n 0) in
    let at : 4 * (from + d) ≡ length (take (4 * from) s) + 4 * d = omega (arith, length-take-le (4 * from) s l) in
    rw at (num_at_append 4 (take (4 * from) s) (bs ++ drop (length bs) (drop (4 * from) s)) (4 * d)
    ∙ word_at_word_bytes (replicate n 0) (drop (length bs) (drop (4 * from) s)) d below (omega (arith, h, length-replicate {A = ℕ} n 0)) ∙ get_or-replicate n d 0 0 h)
