-- One turn of each loop of the test, and the parts joined.
-- Assumes nothing.
use Prim.Native.Nat.{ℕ, zero, suc, ◌+◌, ◌-◌, ◌≤◌, ◌<◌}
use native.Mathlib.Numerals.{add-one}
use native.Mathlib.Omega.{arith}
use mathlib.Core.Path.{◌≡◌, refl, sym, ap, ap₂, ◌∙◌}
use mathlib.Core.Bool.{Bool, true, false, not, ◌&&◌}
use mathlib.Core.List.{List}
use lib.Dec.{eqb}
use Rattle.std.specs.List.{list_all, range_with_len}
use borrow.Author.Tests.{eq-eqb, ne_eqb, lt-leb, le-leb, not-true, not-false}
use Rattle.plpb.specs.Lists.{◌and◌}
use Rattle.words.specs.Words.{word_at}
use Rattle.words.specs.Tests.{Decides, ZeroWords}
use Rattle.order.specs.Order.{word_place}
use Rattle.format.specs.Layout.{end_at, entry_at, order_at, table_word_count, term_room}
use Rattle.format.specs.Good.{every_from, zeros_from, entry_good, entries_from, run_good, order_good}
use Rattle.format.proofs.Bools.{and_first, and_stop, and_false}
use Rattle.format.proofs.Good.{left_of, zeros_are}

-- ---- entries

module _ (f g : ℕ → ℕ) (x least k to : ℕ) where
  module _ {w : ℕ} {b : Bool} (l : k < to) (e : w ≡ f (entry_at k)) (h : b ≡ entry_good f g x least w) where
    pub entries_turn : {r : ℕ} → not b ≡ false → r ≡ (word_place w).rule → entries_from f g x least k (to - k) ≡ entries_from f g x (r + 1) (k + 1) (to - (k + 1))
    unfolding entries_from
    entries_turn {r} n m =
        rw (left_of k to l, ← e, add-one k, add-one r, m) (and_first _ _ (sym h ∙ not-false b n))

    pub entries_refused : not b ≡ true → false ≡ entries_from f g x least k (to - k)
    unfolding entries_from
    entries_refused n = rw (left_of k to l, ← e) (sym (and_stop _ _ (sym h ∙ not-true b n)))

  pub entries_below : {w : ℕ} → k < to → w ≡ f (entry_at k) → false ≡ entry_good f g x least w → false ≡ entries_from f g x least k (to - k)
  unfolding entries_from
  entries_below l e h = rw (left_of k to l, ← e) (sym (and_stop _ _ (sym h)))

  pub entries_end : to ≤ k → entries_from f g x least k (to - k) ≡ true
  unfolding entries_from
  entries_end h = let z : to - k ≡ 0 = omega arith in rw z refl

-- ---- a run

module _ (f g : ℕ → ℕ) (x : ℕ) {from to : ℕ} (p : from ≡ f (end_at (x - 1))) (q : to ≡ f (end_at x)) where
  pub run_back : to < from → false ≡ run_good f g x
  unfolding run_good
  run_back h = sym (and_stop _ _ (and_stop _ _ (lt-leb (f (end_at (x - 1))) (f (end_at x)) (omega arith))))

  pub run_past : {total : ℕ} → total ≡ f 3 → total < to → false ≡ run_good f g x
  unfolding run_good
  run_past e h = sym (and_stop _ _ (and_false _ _ (lt-leb (f (end_at x)) (f 3) (omega arith))))

  pub run_told : {total y : ℕ} {b : Bool} → total ≡ f 3 → from ≤ to → to ≤ total → y ≡ x → b ≡ entries_from f g y 0 from (to - from) → b ≡ run_good f g x
  unfolding run_good
  run_told e l u n h =
      h ∙ ap₂ (λ i j. entries_from f g i 0 from (j - from)) n q ∙ ap (λ i. entries_from f g x 0 i (f (end_at x) - i)) p
      ∙ sym (and_first _ _ (and_first _ _ (le-leb (f (end_at (x - 1))) (f (end_at x)) (omega arith)) ∙ le-leb (f (end_at x)) (f 3) (omega arith)))

-- ---- all runs

and_same : (a b : Bool) → (a && b) ≡ (a and b)
unfolding ◌and◌
and_same true b = refl
and_same false b = refl

-- The library's test of a list of numbers in a row is the definition's.
pub every_row : (p : ℕ → Bool) (i k : ℕ) → list_all p (range_with_len i k) ≡ every_from p i k
unfolding every_from
every_row p i zero = refl
every_row p i (suc k) = and_same _ _ ∙ ap (λ b. p i and b) (every_row p (i + 1) k ∙ ap (λ j. every_from p j k) (add-one i))

pub every_range : (p : ℕ → Bool) (n : ℕ) → list_all p (range_with_len 1 (n + 1 - 1)) ≡ every_from p 1 n
every_range p n = every_row p 1 (n + 1 - 1) ∙ ap (every_from p 1) (omega arith)

-- ---- the whole

module _ (s : List ℕ) (g : ℕ → ℕ) {first n total : ℕ} (e : first ≡ word_at s (end_at 0)) (v : n ≡ word_at s 0) (t : total ≡ word_at s 3) where
  pub order_begins : not (eqb first 0) ≡ true → false ≡ order_good (word_at s) g
  unfolding order_good
  order_begins h =
      sym (and_stop _ _ (and_stop _ _ (and_stop _ _ (and_stop _ _ (ap (λ a. eqb a 0) (sym e) ∙ not-true (eqb first 0) h)))))

  module _ {b : Bool} (k : not (eqb first 0) ≡ false) (r : b ≡ every_from (run_good (word_at s) g) 1 n) where
    pub order_runs : not b ≡ true → false ≡ order_good (word_at s) g
    unfolding order_good
    order_runs h =
        sym (and_stop _ _ (and_stop _ _ (and_stop _ _ (and_false _ _ (ap (every_from (run_good (word_at s) g) 1) (sym v) ∙ sym r ∙ not-true b h)))))

    module _ (h : not b ≡ false) {last : ℕ} (q : last ≡ word_at s (end_at n)) where
      whole : eqb last total ≡ (eqb (word_at s (end_at 0)) 0 and every_from (run_good (word_at s) g) 1 (word_at s 0) and eqb (word_at s (end_at (word_at s 0))) (word_at s 3))
      whole =
          ap₂ eqb (q ∙ ap (λ i. word_at s (end_at i)) v) t
          ∙ sym (and_first _ _ (and_first _ _ (ap (λ i. eqb i 0) (sym e) ∙ not-false (eqb first 0) k) ∙ ap (every_from (run_good (word_at s) g) 1) (sym v) ∙ sym r ∙ not-false b h))

      pub order_last : (last ≡ total → ⊥) → false ≡ order_good (word_at s) g
      unfolding order_good
      order_last m = sym (and_stop _ _ (and_stop _ _ (sym whole ∙ ne_eqb _ _ m)))

      module _ (m : last ≡ total) (few : n ≤ 512) {y : Bool} (a : Decides y (ZeroWords s (end_at (n + 1)) order_at)) where
        gap : y ≡ zeros_from (word_at s) (end_at (suc (word_at s 0))) (512 - word_at s 0)
        gap = zeros_are s (end_at (n + 1)) order_at y a ∙ ap₂ (zeros_from (word_at s)) ends left
          where
            ends : end_at (n + 1) ≡ end_at (suc (word_at s 0))
            ends = omega (arith, v)

            left : order_at - end_at (n + 1) ≡ 512 - word_at s 0
            left = omega (arith, v, few)

        pub order_gap : y ≡ false → false ≡ order_good (word_at s) g
        unfolding order_good
        order_gap z = sym (and_stop _ _ (and_false _ _ (sym gap ∙ z)))

        pub order_told : {z : Bool} → y ≡ true → Decides z (ZeroWords s (entry_at total) table_word_count) → total ≤ term_room → z ≡ order_good (word_at s) g
        unfolding order_good
        order_told {z} o c small =
            zeros_are s (entry_at total) table_word_count z c
            ∙ ap₂ (zeros_from (word_at s)) (ap (λ i. entry_at i) t) rest
            ∙ sym (and_first _ _ (and_first _ _ (sym whole ∙ eq-eqb _ _ m) ∙ sym gap ∙ o))
          where
            rest : table_word_count - entry_at total ≡ term_room - word_at s 3
            rest = omega (arith, t, small)
