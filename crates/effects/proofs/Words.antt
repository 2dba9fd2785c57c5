-- A word of the order, a side of a rule and a size, by cases.
-- Assumes nothing.
use Prim.Native.Nat.{ℕ, zero, suc, ◌+◌, ◌*◌, ◌-◌, ◌/◌, ◌%◌, ◌<◌}
use native.Mathlib.Omega.{arith}
use mathlib.Core.Path.{◌≡◌, refl, ap, ap₂, ◌∙◌}
use mathlib.Core.Bool.{Bool, true, false, not, cond}
use lib.Dec.{leb, eqb}
use borrow.Author.Tests.{le-leb, lt-leb, lt-ltb, eq-eqb, ne_eqb, leb-true, leb-false}
use Rattle.std.specs.Bool.{then_some}
use Rattle.std.specs.Prelude.{Option}
use Rattle.plpb.specs.Lists.{◌and◌}
use Rattle.plpb.specs.Plan.{Bound, absent, present}
use Rattle.plpb.specs.Equations.{on, off}
use Rattle.order.specs.Order.{Place, spelled, word_place}
use Rattle.order.proofs.Words.{Small, place_back}
use Rattle.order.specs.Breaks.{reaches}
use Rattle.counting.specs.Bound.{bound_of}
use Rattle.columns.specs.Columns.{never, size_word, need}
use Rattle.effects.specs.Kept.{size_in, stands_on}

-- ---- a word of the order

module _ (q : Place) (s : Small q) where
  pub several_word : (b n : Bool) → leb 2_147_483_648 (spelled b q n) ≡ b
  unfolding spelled
  several_word true n = le-leb 2_147_483_648 (2_147_483_648 + 4_194_304 * q.term + 4_096 * q.clause + 2 * q.rule + cond n 1 0) (omega arith)
  several_word false true = lt-leb 2_147_483_648 (0 + 4_194_304 * q.term + 4_096 * q.clause + 2 * q.rule + 1) (omega (arith, s.clause, s.rule, s.term))
  several_word false false = lt-leb 2_147_483_648 (0 + 4_194_304 * q.term + 4_096 * q.clause + 2 * q.rule + 0) (omega (arith, s.clause, s.rule, s.term))

  rule_word : (b n : Bool) → (word_place (spelled b q n)).rule ≡ q.rule
  rule_word b n = ap (λ u. u.rule) (place_back b q n s)

  -- Sign and value differ where the literal is true.
  parity : (b n v : Bool) → (spelled b q n % 2 + cond v 1 0) % 2 ≡ cond (cond n (not v) v) 1 0
  unfolding spelled
  parity true true true = omega arith
  parity true true false = omega arith
  parity true false true = omega arith
  parity true false false = omega arith
  parity false true true = omega arith
  parity false true false = omega arith
  parity false false true = omega arith
  parity false false false = omega arith

  -- The side that it is on, with the variable's byte.
  pub side_word : (b n v : Bool) → 2 * (word_place (spelled b q n)).rule + (spelled b q n % 2 + cond v 1 0) % 2 ≡ 2 * q.rule + cond (cond n (not v) v) 1 0
  side_word b n v = ap₂ (λ r m. 2 * r + m) (rule_word b n) (parity b n v)

-- ---- a side

pub side_rule : (r : ℕ) (b : Bool) → (2 * r + cond b 1 0) / 2 ≡ r
side_rule r true = omega arith
side_rule r false = omega arith

pub side_stands : (r w : ℕ) (b : Bool) → stands_on (2 * r + cond b 1 0) w ≡ cond b (on w) (off w)
unfolding stands_on
side_stands r w true = let e : (2 * r + 1) % 2 ≡ 1 = omega arith in rw (eq-eqb ((2 * r + 1) % 2) 1 e) refl
side_stands r w false = let e : (2 * r + 0) % 2 ≡ 0 = omega arith in rw (ne_eqb ((2 * r + 0) % 2) 1 (λ z. omega arith)) refl

-- ---- a size

-- A size that is there is below the word of what is not.
abbrev pub Below : Bound ℕ → Type 0
Below absent = Unit {0}
Below (present k) = k < never

pub size_back : (b : Bound ℕ) → Below b → size_in (size_word b) ≡ b
unfolding size_in size_word
size_back absent h = refl
size_back (present k) h = rw (ne_eqb k never (λ z. omega arith)) refl

-- The weight meets the need exactly where it reaches the size.
pub need_reaches : (b : Bound ℕ) (m w : ℕ) → 0 < w → w < never → leb (need b m) w ≡ reaches m w b
unfolding need reaches ◌and◌
need_reaches absent m w h l = lt-leb never w l
need_reaches (present zero) m w h l = lt-leb never w l
need_reaches (present (suc k)) m w h l = rw (lt-ltb 0 (suc k) (omega arith), lt-ltb 0 w h) (at (leb (suc k) (m + w)) refl)
  where
    at : (t : Bool) → leb (suc k) (m + w) ≡ t → leb (suc k - m) w ≡ t
    at true e = le-leb (suc k - m) w (omega (arith, leb-true (suc k) (m + w) e))
    at false e = lt-leb (suc k - m) w (omega (arith, leb-false (suc k) (m + w) e))

pub size_read : (w : ℕ) {r : Option ℕ} → r ≡ then_some (not (eqb w never)) w → bound_of r ≡ size_in w
unfolding size_in
size_read w e = ap bound_of e ∙ by (eqb w never)
  where
    by : (b : Bool) → bound_of (then_some (not b) w) ≡ cond b absent (present w)
    by true = refl
    by false = refl
