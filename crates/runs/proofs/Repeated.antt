-- Runs in a row: what is left to add up after each, and what holds of the buffers between them.
-- Assumes nothing.
use Prim.Native.Nat.{ℕ, zero, suc, ◌+◌, ◌-◌, ◌≤◌, ◌<◌}
use native.Mathlib.Omega.{arith}
use mathlib.Core.Path.{◌≡◌, refl, sym, ap, ap₂, ◌∙◌, subst}
use mathlib.Core.List.{List}
use lib.Dec.{T}
use lib.IntN.{nat_abs}
use Rattle.plpb.specs.Plan.{Plan}
use Rattle.plpb.specs.Settings.{Settings}
use Rattle.plpb.specs.Search.{search}
use Rattle.plpb.proofs.Soundness.{search_sound, search_flips, search_used}
use Rattle.format.specs.Limits.{lawful}
use Rattle.lending.specs.Lent.{Lent}
use Rattle.xorwow.specs.declared.Xorwow.{Xorwow}
use Rattle.xorwow.specs.Xorwow.{stream, after}
use Rattle.xorwow.proofs.Stream.{length_stream}
use Rattle.figures.specs.declared.Sums.{Sums}
use Rattle.figures.specs.Figures.{AtMost, plus_run}
use Rattle.figures.specs.Runs.{answers}
use Rattle.figures.proofs.Adding.{plus_most, most_more, total}
use Rattle.runs.specs.declared.Ran.{Ran}
use Rattle.runs.specs.Repeating.{AsBefore, WithinLimits}
use Rattle.runs.proofs.Once.{cost_bounded}

-- ---- the buffers

both : {n : ℕ} {s t u : List ℕ} → AsBefore n s t → AsBefore n t u → AsBefore n s u
both a b = record { size = b.size ∙ a.size; beyond = b.beyond ∙ a.beyond }

pub then : {l m n : Lent} → WithinLimits l m → WithinLimits m n → WithinLimits l n
then a b =
    record {
      numbers = both a.numbers b.numbers;
      assignment = both a.assignment b.assignment;
      work_tables = both a.work_tables b.work_tables;
      work_terms = both a.work_terms b.work_terms;
      work_assignment = both a.work_assignment b.work_assignment;
      work_tallies = both a.work_tallies b.work_tallies;
      work_marks = both a.work_marks b.work_marks;
    }

-- ---- the sums

module _ (s : Settings) (p : Plan) (count : ℕ) where
  pub none_left : (t : Sums) (g : Xorwow) (left : ℕ) → left ≤ 0 → total t (answers s p count left g) ≡ t
  unfolding answers total
  none_left t g zero h = refl
  none_left t g (suc left) h = absurd (omega arith)

  one_less : (t : Sums) (g : Xorwow) (left : ℕ) → 0 < left
      → total t (answers s p count left g) ≡ total (plus_run t (search s p (stream count g))) (answers s p count (left - 1) (after count g))
  unfolding answers total
  one_less t g zero h = absurd (omega arith)
  one_less t g (suc left) h =
      let e : suc left - 1 ≡ left = omega arith in
      ap (λ n. total (plus_run t (search s p (stream count g))) (answers s p count n (after count g))) (sym e)

  -- What is left to add after one run more.
  pub go_on : (from to : Ran) (runs done : ℕ) → done < runs → to.state ≡ after count from.state
      → to.sums ≡ plus_run from.sums (search s p (stream count from.state))
      → total to.sums (answers s p count (runs - (done + 1)) to.state) ≡ total from.sums (answers s p count (runs - done) from.state)
  go_on from to runs done h e f =
      let less : runs - (done + 1) ≡ runs - done - 1 = omega arith in
      rw less (ap₂ (λ t g. total t (answers s p count (runs - done - 1) g)) f e ∙ sym (one_less from.sums from.state (runs - done) (omega arith)))

  -- The sums stay small.
  pub stays : T (lawful p) → count ≤ 16_384 → (from to : Ran) (done : ℕ) → to.sums ≡ plus_run from.sums (search s p (stream count from.state))
      → AtMost done from.sums → AtMost (done + 1) to.sums
  stays l few from to done e m =
      let ns = stream count from.state in
      let r = search s p ns in
      let flips : r.flips ≤ 16_384 = omega (arith, search_flips s p ns, search_used s p ns, length_stream count from.state) in
      let cost : nat_abs r.cost ≤ 512_000_000 = rw (search_sound s p ns).cost_stated (cost_bounded p l r.assignment) in
      most_more (suc done) (done + 1) to.sums (omega arith)
      (subst (AtMost (suc done)) (sym e) (plus_most from.sums r.finds r.flips r.cost done m flips cost))
