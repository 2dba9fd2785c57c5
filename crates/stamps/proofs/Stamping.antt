-- The stamps are those of a try's flips: at its start, after a flip, and where only the marks before them were written.
-- Assumes nothing.
use Prim.Native.Nat.{ℕ, suc, ◌+◌, ◌*◌, ◌-◌, ◌≤◌}
use native.Mathlib.Omega.{arith}
use mathlib.Core.Bool.{Bool, true, false, cond}
use mathlib.Core.List.{List, [], ◌∷◌, ◌++◌}
use mathlib.Core.Path.{◌≡◌, refl, sym, ap, ◌∙◌}
use lib.Dec.{eqb}
use lib.ListN.{length, take, drop, replicate, length-replicate}
use lib.Seq.{length-take-le}
use borrow.Author.Tests.{eqb-true, eqb-false}
use borrow.Rule.Slice.PartMut.{mid_of, put_mid, mid_len}
use Rattle.plpb.specs.Novelty.{last_flip}
use Rattle.words.specs.Words.{num_at, word_at}
use Rattle.words.specs.Writes.{front, put, Wrote}
use Rattle.words.proofs.Words.{num_at_append}
use Rattle.words.proofs.Writes.{zero_word, drop_put, length_put, lent_part}
use Rattle.format.specs.Layout.{mark_size, stamp_at, stamp_byte, stamp_size}
use Rattle.stamps.specs.Stamps.{stamp_in, Stamped, unstamped}

-- ---- a try's start

-- Of any number of bytes that are cleared, so that no list of them is written out.
module _ (k : ℕ) (s : List ℕ) where
  abbrev wiped : List ℕ
  wiped = put stamp_byte (replicate k 0) s

  module _ (room : stamp_byte + k ≤ length s) where
    wiped_word : (x : ℕ) → 1 ≤ x → 4 * x ≤ k → stamp_in wiped x ≡ 0
    unfolding put front word_at
    wiped_word x l u =
        let i = x - 1 in
        let before : length (take stamp_byte s) ≡ stamp_byte = length-take-le stamp_byte s (omega arith) in
        let at : 4 * stamp_at x ≡ length (take stamp_byte s) + 4 * i = omega arith in
        let rest = drop (length (replicate {A = ℕ} k 0)) (drop stamp_byte s) in
        ap (λ j. num_at 4 (take stamp_byte s ++ (replicate k 0 ++ rest)) j) at
        ∙ num_at_append 4 (take stamp_byte s) (replicate k 0 ++ rest) (4 * i)
        ∙ zero_word k (replicate k 0) rest i refl (omega arith)

    wiped_size : length wiped ≡ length s
    wiped_size = length_put stamp_byte (replicate k 0) s (omega (arith, length-replicate {A = ℕ} k 0))

    wiped_beyond : drop (stamp_byte + k) wiped ≡ drop (stamp_byte + k) s
    wiped_beyond = drop_put (stamp_byte + k) stamp_byte (replicate k 0) s (omega (arith, length-replicate {A = ℕ} k 0)) room

module _ (s : List ℕ) {t : List ℕ} (room : mark_size ≤ length s) (e : t ≡ unstamped s) where
  pub stamped_none : (n : ℕ) → n ≤ 512 → Stamped n [] t
  unfolding last_flip unstamped
  stamped_none n h = record { last = λ x l u. ap (λ w. stamp_in w x) e ∙ wiped_word stamp_size s room x l (omega arith) }

  pub cleared_size : length t ≡ length s
  unfolding unstamped
  cleared_size = ap length e ∙ wiped_size stamp_size s room

  pub cleared_beyond : drop mark_size t ≡ drop mark_size s
  unfolding unstamped
  cleared_beyond = ap (drop mark_size) e ∙ wiped_beyond stamp_size s room

-- A part lent to be cleared, as the code does it.
pub part_cleared : (end : ℕ) (s ys : List ℕ) → stamp_byte ≤ end → end ≤ length s → ys ≡ replicate (length (mid_of stamp_byte (end - stamp_byte) s)) 0
    → put_mid stamp_byte (end - stamp_byte) s ys ≡ put stamp_byte (replicate (end - stamp_byte) 0) s
part_cleared end s ys low room e =
    let long : length (mid_of stamp_byte (end - stamp_byte) s) ≡ end - stamp_byte = mid_len stamp_byte end s room in
    lent_part stamp_byte end s ys low (ap length e ∙ length-replicate {A = ℕ} _ 0 ∙ long)
    ∙ ap (λ b. put stamp_byte b s) (e ∙ ap (λ j. replicate j 0) long)

-- ---- a flip

module _ {n : ℕ} {flips s t : List ℕ} (k : Stamped n flips s) (x : ℕ) {number : ℕ} (w : Wrote (stamp_at x) number s t) (c : number ≡ suc (length flips)) where
  stamp_more : (y : ℕ) → 1 ≤ y → y ≤ n → (b : Bool) → eqb x y ≡ b → stamp_in t y ≡ cond b (suc (length flips)) (last_flip flips y)
  stamp_more y l u true e = ap (stamp_in t) (sym (eqb-true x y e)) ∙ w.here ∙ c
  stamp_more y l u false e = w.others (stamp_at y) (λ z. eqb-false x y e (omega (arith, z))) ∙ k.last y l u

  pub stamped_more : Stamped n (x ∷ flips) t
  unfolding last_flip
  stamped_more = record { last = λ y l u. stamp_more y l u (eqb x y) refl }

-- ---- marks before the stamps
