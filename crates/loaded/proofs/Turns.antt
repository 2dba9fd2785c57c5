-- One turn of each loop of the test: what has been tested, and what is left. Each follows from its definition's clause for one place more.
-- Assumes nothing.
use Prim.Native.Nat.{ℕ, suc, ◌+◌, ◌-◌, ◌<◌, ◌≤◌}
use mathlib.Core.Path.{◌≡◌, refl, sym, ◌∙◌}
use mathlib.Core.Bool.{Bool, true, false, not}
use native.Mathlib.Numerals.{add-one}
use native.Mathlib.Omega.{arith}
use lib.Dec.{eqb, leb}
use borrow.Author.Tests.{not-true, not-false, leb-true}
use Rattle.plpb.specs.Lists.{◌and◌}
use Rattle.format.proofs.Bools.{and_assoc, and_right}
use Rattle.format.specs.Good.{every_from, link_good, chain_from}
use Rattle.format.proofs.Good.{left_of, chain_step, chain_fail, chain_end}

and_true : (b : Bool) → (b and true) ≡ b
unfolding ◌and◌
and_true true = refl
and_true false = refl

-- Every place: a turn, and the end.
module _ (p : ℕ → Bool) (b : Bool) (i e : ℕ) where
  pub every_turn : i < e → (b and every_from p i (e - i)) ≡ ((b and p i) and every_from p (i + 1) (e - (i + 1)))
  unfolding every_from
  every_turn h = rw (left_of i e h, add-one i) (sym (and_assoc b (p i) (every_from p (suc i) (e - suc i))))

  pub every_done : e ≤ i → (b and every_from p i (e - i)) ≡ b
  unfolding every_from
  every_done h = let z : e - i ≡ 0 = omega arith in rw z (and_true b)

-- An entry of a chain, tested by the two numbers that were read for it; what the branch on the test tells.
module _ (first count : ℕ → ℕ) (e at i : ℕ) {a n : ℕ} {r : Bool} (p : a ≡ first i) (q : n ≡ count i) (h : r ≡ (eqb a at and leb 1 n and leb n (e - at))) where
  link_read : r ≡ link_good first count e at i
  unfolding link_good
  link_read = rw (← p, ← q) h

  link_good_lem : not r ≡ false → link_good first count e at i ≡ true
  link_good_lem t = sym link_read ∙ not-false r t

  pub chain_turn :
      (m : ℕ) → i < m → not r ≡ false → chain_from first count e at i (m - i) ≡ chain_from first count e (at + n) (i + 1) (m - (i + 1))
  chain_turn m l t = rw q (chain_step first count e at i m l (link_good_lem t))

  pub chain_refused : (m : ℕ) → i < m → not r ≡ true → chain_from first count e at i (m - i) ≡ false
  chain_refused m l t = chain_fail first count e at i m l (sym link_read ∙ not-true r t)

-- An entry that passed its test ends within the chain.
pub link_fits : (x n at e : ℕ) {r : Bool} → r ≡ (eqb x at and leb 1 n and leb n (e - at)) → at ≤ e → not r ≡ false → at + n ≤ e
link_fits x n at e {r} h l t = omega (arith, leb-true _ _ (and_right _ _ (sym h ∙ not-false r t)), l)

pub chain_done : (first count : ℕ → ℕ) (e at i m : ℕ) → m ≤ i → chain_from first count e at i (m - i) ≡ eqb at e
chain_done first count e at i m h = let z : m - i ≡ 0 = omega arith in rw z (chain_end first count e at i)
