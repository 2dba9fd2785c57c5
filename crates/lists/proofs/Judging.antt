-- Laws of the first row at fault and of refusals one after another.
-- Assumes nothing.
use Prim.Native.Nat.{ℕ, zero, suc, ◌+◌, ◌≤◌, ◌<◌}
use native.Mathlib.Nat.{eq-or-lt_of_le}
use native.Mathlib.Omega.{arith}
use mathlib.Core.Path.{◌≡◌, refl, sym, ap, ◌∙◌}
use mathlib.Core.Bool.{Bool, true, false, cond}
use mathlib.Core.Logic.{⊎_elim}
use lib.Dec.{eqb}
use borrow.Author.Tests.{eqb-true, eqb-false, eq-eqb, ne_eqb}
use Rattle.lists.specs.Refusals.{Judged, judged_from, Refusal, in_list}

module _ (f : ℕ → ℕ) where
  pub judged_on : (left k : ℕ) → f k ≡ 0 → judged_from f (suc left) k ≡ judged_from f left (suc k)
  unfolding judged_from
  judged_on left k e = rw (eq-eqb (f k) 0 e)

  pub judged_stop : (left k : ℕ) → (f k ≡ 0 → ⊥) → judged_from f (suc left) k ≡ record { fault = f k; rows = k }
  unfolding judged_from
  judged_stop left k n = rw (ne_eqb (f k) 0 n)

  pub judged_end : (k : ℕ) → judged_from f 0 k ≡ record { fault = 0; rows = k }
  unfolding judged_from
  judged_end k = refl

  -- Without a fault no row has one, and all of them were looked at.
  pub judged_none : (left k : ℕ) → (judged_from f left k).fault ≡ 0 → (i : ℕ) → k ≤ i → i < k + left → f i ≡ 0
  unfolding judged_from
  judged_none zero k e i l u = absurd (omega arith)
  judged_none (suc left) k e i l u = go (eqb (f k) 0) refl e (λ h. judged_none left (suc k) h i)
    where
      go : (t : Bool) → eqb (f k) 0 ≡ t → (cond t (judged_from f left (suc k)) (record { fault = f k; rows = k })).fault ≡ 0
          → ((judged_from f left (suc k)).fault ≡ 0 → suc k ≤ i → i < suc k + left → f i ≡ 0) → f i ≡ 0
      go true z h more =
          ⊎_elim (λ q. ap f (sym q) ∙ eqb-true (f k) 0 z) (λ q. more h q (omega arith)) (eq-or-lt_of_le {n = k} {m = i} l)
      go false z h more = absurd (eqb-false (f k) 0 z h)

  pub judged_rows : (left k : ℕ) → (judged_from f left k).fault ≡ 0 → (judged_from f left k).rows ≡ k + left
  unfolding judged_from
  judged_rows zero k e = omega arith
  judged_rows (suc left) k e = go (eqb (f k) 0) refl e (judged_rows left (suc k))
    where
      go : (t : Bool) → eqb (f k) 0 ≡ t → (cond t (judged_from f left (suc k)) (record { fault = f k; rows = k })).fault ≡ 0
          → ((judged_from f left (suc k)).fault ≡ 0 → (judged_from f left (suc k)).rows ≡ suc k + left)
          → (cond t (judged_from f left (suc k)) (record { fault = f k; rows = k })).rows ≡ k + suc left
      go true z h more = omega (arith, more h)
      go false z h more = absurd (eqb-false (f k) 0 z h)

  -- No more rows are looked at than there are.
  pub judged_within : (left k : ℕ) → (judged_from f left k).rows ≤ k + left
  unfolding judged_from
  judged_within zero k = omega arith
  judged_within (suc left) k = go (eqb (f k) 0) (judged_within left (suc k))
    where
      go : (t : Bool) → (judged_from f left (suc k)).rows ≤ suc k + left → (cond t (judged_from f left (suc k)) (record { fault = f k; rows = k })).rows ≤ k + suc left
      go true h = omega arith
      go false h = omega arith

-- The row at fault is one of them.
pub judged_before : (f : ℕ → ℕ) (left k : ℕ) → ((judged_from f left k).fault ≡ 0 → ⊥) → (judged_from f left k).rows < k + left
unfolding judged_from
judged_before f zero k n = absurd (n refl)
judged_before f (suc left) k n = go (eqb (f k) 0) n (judged_before f left (suc k))
  where
    go : (t : Bool) → ((cond t (judged_from f left (suc k)) (record { fault = f k; rows = k })).fault ≡ 0 → ⊥)
        → (((judged_from f left (suc k)).fault ≡ 0 → ⊥) → (judged_from f left (suc k)).rows < suc k + left)
        → (cond t (judged_from f left (suc k)) (record { fault = f k; rows = k })).rows < k + suc left
    go true m h = omega (arith, h m)
    go false m h = omega arith

-- Refusals one after another.
module _ (list : ℕ) (j : Judged) (o : Refusal) where
  pub list_on : j.fault ≡ 0 → in_list list j o ≡ o
  unfolding in_list
  list_on e = rw (eq-eqb j.fault 0 e)

  pub list_stop : (j.fault ≡ 0 → ⊥) → in_list list j o ≡ record { number = j.fault; list = list; row = j.rows + 1 }
  unfolding in_list
  list_stop n = rw (ne_eqb j.fault 0 n)

  pub list_none : (in_list list j o).number ≡ 0 → (j.fault ≡ 0) × (o.number ≡ 0)
  unfolding in_list
  list_none e = go (eqb j.fault 0) refl e
    where
      go : (t : Bool) → eqb j.fault 0 ≡ t → (cond t o (record { number = j.fault; list = list; row = j.rows + 1 })).number ≡ 0 → (j.fault ≡ 0) × (o.number ≡ 0)
      go true z h = (eqb-true j.fault 0 z, h)
      go false z h = absurd (eqb-false j.fault 0 z h)
