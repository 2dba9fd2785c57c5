-- Laws of the loops that the test of tables is made of: how each begins, goes on and ends, and what it says of every place.
use Prim.Native.Nat.{ℕ, zero, suc, ◌+◌, ◌-◌, ◌<◌, ◌≤◌}
use mathlib.Core.Path.{◌≡◌, refl, sym}
use mathlib.Core.Bool.{Bool, true, false}
use mathlib.Core.List.{List}
use mathlib.Core.Logic.{⊎_elim}
use native.Mathlib.Nat.{zero-add, add-zero, suc-add, eq-or-lt_of_le}
use native.Mathlib.Numerals.{add-one}
use native.Mathlib.Omega.{arith}
use lib.Dec.{eqb}
use borrow.Author.Tests.{eqb-true, eq-eqb}
use Rattle.plpb.specs.Lists.{◌and◌}
use Rattle.words.specs.Words.{word_at}
use Rattle.words.specs.Tests.{Decides, ZeroWords}
use Rattle.format.specs.Good.{every_from, zeros_from, link_good, chain_from}
use Rattle.format.proofs.Bools.{and_first, and_stop, and_assoc, and_left, and_right, and_join, same_test}

-- Two forms of the same: k places and one more, as definitions recurse; up to e, as code counts.
pub left_of : (i e : ℕ) → i < e → e - i ≡ suc (e - (i + 1))
left_of i e h = omega arith

module _ (p : ℕ → Bool) where
  pub every_go : (i k : ℕ) → p i ≡ true → every_from p i (suc k) ≡ every_from p (suc i) k
  unfolding every_from
  every_go i k h = and_first _ _ h

  pub every_split : (i a b : ℕ) → every_from p i (a + b) ≡ (every_from p i a and every_from p (i + a) b)
  unfolding every_from
  every_split i zero b = rw (zero-add b, add-zero i) (sym (and_first _ _ refl))
  every_split i (suc a) b =
      let e : i + suc a ≡ suc i + a = omega arith in
      rw (suc-add a b, every_split (suc i) a b, e) (sym (and_assoc _ _ _))

  -- What it says, and what makes it so.
  pub every_at : (i k : ℕ) → every_from p i k ≡ true → (j : ℕ) → i ≤ j → j < i + k → p j ≡ true
  unfolding every_from
  every_at i zero h j l u = absurd (omega arith)
  every_at i (suc k) h j l u =
      ⊎_elim (λ e. rw (← e) (and_left _ _ h)) (λ m. every_at (suc i) k (and_right _ _ h) j m (omega arith)) (eq-or-lt_of_le l)

  pub every_all : (i k : ℕ) → ((j : ℕ) → i ≤ j → j < i + k → p j ≡ true) → every_from p i k ≡ true
  unfolding every_from
  every_all i zero h = refl
  every_all i (suc k) h =
      and_join _ _ (h i (omega arith) (omega arith)) (every_all (suc i) k (λ j l u. h j (omega arith) (omega arith)))

module _ (f : ℕ → ℕ) where
  pub zeros_at : (i k : ℕ) → zeros_from f i k ≡ true → (j : ℕ) → i ≤ j → j < i + k → f j ≡ 0
  unfolding zeros_from
  zeros_at i k h j l u = eqb-true _ _ (every_at _ i k h j l u)

  pub zeros_all : (i k : ℕ) → ((j : ℕ) → i ≤ j → j < i + k → f j ≡ 0) → zeros_from f i k ≡ true
  unfolding zeros_from
  zeros_all i k h = every_all _ i k (λ j l u. eq-eqb _ _ (h j l u))

module _ (first count : ℕ → ℕ) (e : ℕ) where
  pub chain_end : (at i : ℕ) → chain_from first count e at i 0 ≡ eqb at e
  unfolding chain_from
  chain_end at i = refl

  pub chain_go : (at i k : ℕ) → link_good first count e at i ≡ true → chain_from first count e at i (suc k) ≡ chain_from first count e (at + count i) (suc i) k
  unfolding chain_from
  chain_go at i k h = and_first _ _ h

  pub chain_stop : (at i k : ℕ) → link_good first count e at i ≡ false → chain_from first count e at i (suc k) ≡ false
  unfolding chain_from
  chain_stop at i k h = and_stop _ _ h

  pub chain_step :
      (at i m : ℕ) → i < m → link_good first count e at i ≡ true
      → chain_from first count e at i (m - i) ≡ chain_from first count e (at + count i) (i + 1) (m - (i + 1))
  chain_step at i m h t = rw (left_of i m h, chain_go at i (m - (i + 1)) t, add-one i)

  pub chain_fail : (at i m : ℕ) → i < m → link_good first count e at i ≡ false → chain_from first count e at i (m - i) ≡ false
  chain_fail at i m h t = rw (left_of i m h, chain_stop at i (m - (i + 1)) t)

-- Zero words: what the code's test of them decides.
pub zeros_are : (s : List ℕ) (from end : ℕ) (b : Bool) → Decides b (ZeroWords s from end) → b ≡ zeros_from (word_at s) from (end - from)
zeros_are s from end b d =
    same_test b _ (λ t. zeros_all (word_at s) from (end - from) (λ j l u. d.so t j l (omega arith))) (λ t. so b refl t)
  where
    so : (c : Bool) → b ≡ c → zeros_from (word_at s) from (end - from) ≡ true → c ≡ true
    so true e t = refl
    so false e t = absurd (d.not_so e (λ j l u. zeros_at (word_at s) from (end - from) t j l (omega arith)))
