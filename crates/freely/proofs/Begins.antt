-- A place of a run where a group begins: the run's first, or one after a place of another clause.
-- Assumes nothing.
use Prim.Native.Nat.{ℕ, zero, suc, ◌+◌, ◌-◌, ◌≤◌, ◌<◌}
use native.Mathlib.Decide.{dec_le}
use native.Mathlib.Nat.{lt_of_not-le}
use native.Mathlib.Omega.{arith}
use mathlib.Core.Path.{◌≡◌, refl, sym, ◌∙◌}
use mathlib.Core.List.{List}
use mathlib.Core.Logic.{◌⊎◌, inl, inr, ⊎_elim}
use Rattle.std.proofs.Math.Nat.{eq-or-lt_of_le}
use Rattle.std.proofs.lemmas.Bool.{cases_eq}
use Rattle.plpb.specs.Equations.{clause_break}
use Rattle.order.specs.Order.{order, run_end, cut}
use Rattle.order.specs.Blocks.{same_clause, Group}
use Rattle.order.proofs.Groups.{no_break}
use Rattle.format.specs.Tables.{plan_of_tables}
use Rattle.effects.specs.Kept.{lent_bits, Going, place_at}
use Rattle.groups.specs.Stretch.{group_end}
use Rattle.groups.proofs.Stretch.{same_more, same_stops}
use Rattle.freely.proofs.Sums.{Summing, sum_start, sum_begins, sum_next}

le_or_more : (a b : ℕ) → (a ≤ b) ⊎ (b < a)
le_or_more a b = elim (dec_le a b) [ yes l ↦ inl l | no n ↦ inr (lt_of_not-le n) ]

module _ {tables terms assignment tallies marks : List ℕ} {x : ℕ} (g : Going tables terms assignment tallies marks x) {k : ℕ} (here : k < run_end (plan_of_tables tables terms) x) where
  -- The places from i on that are counted for a clause are of it.
  of_clause : (n i m c : ℕ) → m - i ≡ n → i ≤ m → m ≤ k → m < i + same_clause c (cut i (run_end (plan_of_tables tables terms) x) (order (plan_of_tables tables terms))) → (place_at tables terms m).clause ≡ c
  of_clause zero i m c e l t h =
      let z : m ≡ i = omega (arith, e, l) in
      ⊎_elim (λ q. rw z q) (λ q. absurd (omega (arith, same_stops g i c (omega (arith, l, t, here)) q, l, h))) (cases_eq (place_at tables terms i).clause c)
  of_clause (suc n) i m c e l t h =
      ⊎_elim (λ q. of_clause n (i + 1) m c (omega (arith, e)) (omega (arith, e)) t (omega (arith, same_more g i c (omega (arith, l, t, here)) q, h)))
      (λ q. absurd (omega (arith, same_stops g i c (omega (arith, l, t, here)) q, l, h)))
      (cases_eq (place_at tables terms i).clause c)

  -- Gone through from a place where one begins, the groups come to k: it stands inside none of them.
  pub reached : (n i : ℕ) {whole sum : ℕ} → k - i ≤ n → i ≤ k → (i < k → (place_at tables terms (k - 1)).clause ≡ (place_at tables terms k).clause → ⊥) → Summing (plan_of_tables tables terms) x (clause_break (lent_bits tables terms assignment) x) whole i sum → Group (plan_of_tables tables terms) x (place_at tables terms k).clause k (group_end (plan_of_tables tables terms) x k)
  reached zero i e l other s = let z : i ≡ k = omega (arith, e, l) in sum_begins g (no_break (lent_bits tables terms assignment) x) (rw z at s) here
  reached (suc n) i e l other s =
      ⊎_elim (λ z. sum_begins g (no_break (lent_bits tables terms assignment) x) (rw z at s) here)
      (λ b.
      let inside : i < run_end (plan_of_tables tables terms) x = omega (arith, b, here) in
      let o = sum_begins g (no_break (lent_bits tables terms assignment) x) s inside in
      let j = group_end (plan_of_tables tables terms) x i in
      let c = (place_at tables terms i).clause in
      ⊎_elim (λ m. reached n j (omega (arith, e, o.some, m)) m (λ u. other b) (sum_next g (no_break (lent_bits tables terms assignment) x) s inside refl refl refl))
      (λ m. absurd (other b (of_clause _ i (k - 1) c refl (omega (arith, b)) (omega arith) (omega (arith, b, m)) ∙ sym (of_clause _ i k c refl l (omega arith) m))))
      (le_or_more j k))
      (eq-or-lt_of_le l)

  -- A group begins at the run's first place, and behind a place of another clause.
  pub begins_behind : run_end (plan_of_tables tables terms) (x - 1) ≤ k → (run_end (plan_of_tables tables terms) (x - 1) < k → (place_at tables terms (k - 1)).clause ≡ (place_at tables terms k).clause → ⊥) → Group (plan_of_tables tables terms) x (place_at tables terms k).clause k (group_end (plan_of_tables tables terms) x k)
  begins_behind l other = reached (k - run_end (plan_of_tables tables terms) (x - 1)) (run_end (plan_of_tables tables terms) (x - 1)) (omega arith) l other (sum_start g (clause_break (lent_bits tables terms assignment) x))
