-- What a good chain says: its entries lie one behind another, so what they point at, joined, is all there is. By induction along the chain.
use Prim.Native.Nat.{ℕ, zero, suc, ◌+◌, ◌-◌, ◌≤◌, ◌<◌}
use mathlib.Core.Path.{◌≡◌, sym}
use mathlib.Core.Bool.{true}
use mathlib.Core.List.{map, map-append}
use mathlib.Core.Logic.{⊎_elim}
use native.Mathlib.Nat.{eq-or-lt_of_le}
use native.Mathlib.Omega.{arith}
use borrow.Author.Tests.{leb-true, eqb-true, le-leb, eq-eqb}
use Rattle.plpb.specs.Lists.{concat, row}
use Rattle.format.proofs.Bools.{and_left, and_right, and_join}
use Rattle.format.proofs.Lists.{row_split}
use Rattle.format.specs.Good.{link_good, chain_from}

-- A good entry: it begins at a place, and ends at e or before.
pub record Link (first count e at : ℕ) : Type 0 where
  pub start : first ≡ at
  pub some : 1 ≤ count
  pub fits : at + count ≤ e

module _ (first count : ℕ → ℕ) (e : ℕ) where
  pub link_parts : (at i : ℕ) → at ≤ e → link_good first count e at i ≡ true → Link (first i) (count i) e at
  unfolding link_good
  link_parts at i r h =
      let some : 1 ≤ count i = leb-true _ _ (and_right _ _ (and_left _ _ h)) in
      let fits : count i ≤ e - at = leb-true _ _ (and_right _ _ h) in
      record { start = eqb-true _ _ (and_left _ _ (and_left _ _ h)); some = some; fits = omega arith }

  pub link_whole : (at i : ℕ) → Link (first i) (count i) e at → link_good first count e at i ≡ true
  unfolding link_good
  link_whole at i l =
      and_join _ _ (and_join _ _ (eq-eqb _ _ l.start) (le-leb _ _ l.some)) (le-leb (count i) (e - at) (omega (arith, l.some, l.fits)))

  -- A chain that begins at e or before.
  pub chain_link :
      (at i k : ℕ) → at ≤ e → chain_from first count e at i (suc k) ≡ true → Link (first i) (count i) e at
  unfolding chain_from
  chain_link at i k r h = link_parts at i r (and_left _ _ h)

  pub chain_rest : (at i k : ℕ) → chain_from first count e at i (suc k) ≡ true → chain_from first count e (at + count i) (suc i) k ≡ true
  unfolding chain_from
  chain_rest at i k h = and_right _ _ h

  pub chain_done : (at i : ℕ) → chain_from first count e at i 0 ≡ true → at ≡ e
  unfolding chain_from
  chain_done at i h = eqb-true _ _ h

  pub chain_join :
      (at i k : ℕ) → Link (first i) (count i) e at → chain_from first count e (at + count i) (suc i) k ≡ true
      → chain_from first count e at i (suc k) ≡ true
  unfolding chain_from
  chain_join at i k l h = and_join _ _ (link_whole at i l) h

  pub chain_close : (at i : ℕ) → at ≡ e → chain_from first count e at i 0 ≡ true
  unfolding chain_from
  chain_close at i h = eq-eqb _ _ h

  -- Every entry has places, all before e.
  pub chain_at :
      (at i k : ℕ) → at ≤ e → chain_from first count e at i k ≡ true → (j : ℕ) → i ≤ j → j < i + k → (1 ≤ count j) × (first j + count j ≤ e)
  chain_at at i zero r h j l u = absurd (omega arith)
  chain_at at i (suc k) r h j l u =
      let m = chain_link at i k r h in
      ⊎_elim (λ q. rw (← q) (m.some, omega (arith, m.start, m.fits)))
      (λ q. chain_at (at + count i) (suc i) k m.fits (chain_rest at i k h) j q (omega arith))
      (eq-or-lt_of_le l)

  -- What they point at, joined, is what stands from the chain's beginning up to e.
  pub chain_concat :
      {A : Type 0} (h : ℕ → A) (at i k : ℕ) → at ≤ e → chain_from first count e at i k ≡ true
      → concat (map (λ j. map h (row (first j) (count j))) (row i k)) ≡ map h (row at (e - at))
  unfolding row concat
  chain_concat h at i zero r c = let z : e - at ≡ 0 = omega (arith, chain_done at i c) in rw z
  chain_concat h at i (suc k) r c =
      let l = chain_link at i k r c in
      let n : e - at ≡ count i + (e - (at + count i)) = omega (arith, l.fits) in
      let ih = chain_concat h (at + count i) (suc i) k l.fits (chain_rest at i k c) in
      rw (n, row_split at (count i) (e - (at + count i)), l.start, ih) (sym (map-append h (row at (count i)) _))
