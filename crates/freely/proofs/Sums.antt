-- A sum over the clauses, made along a variable's run.
-- Assumes nothing.
use Prim.Native.Nat.{ℕ, ◌+◌, ◌-◌, ◌≤◌, ◌<◌}
use native.Mathlib.Omega.{arith}
use mathlib.Core.Path.{◌≡◌, refl, sym, ap, ◌∙◌}
use mathlib.Core.Bool.{true, false}
use mathlib.Core.List.{List, []}
use lib.Dec.{T, ltb, eqb}
use lib.ListN.{get_or, drop}
use borrow.Author.Tests.{ne_eqb, ltb-true}
use Rattle.plpb.specs.Lists.{sum_by}
use Rattle.plpb.specs.Plan.{Clause, Plan, Assignment, names, numbers_rise}
use Rattle.plpb.specs.Equations.{clause_break, clause_make, break_sum, make_sum}
use Rattle.plpb.specs.Count.{capped, capped_break, capped_make}
use Rattle.plpb.proofs.Capped.{capped_none}
use Rattle.plpb.proofs.Equations.{break_formula, make_formula}
use Rattle.order.specs.Order.{run_end}
use Rattle.order.specs.Blocks.{Group}
use Rattle.order.proofs.Blocks.{Along, along_start, along_end, along_group, along_next}
use Rattle.order.proofs.Groups.{no_break}
use Rattle.format.specs.Tables.{plan_of_tables}
use Rattle.columns.specs.Columns.{no_place}
use Rattle.effects.specs.Kept.{lent_bits, Going, place_at}
use Rattle.effects.proofs.Runs.{going_rises, going_within, going_bits}
use Rattle.groups.specs.Stretch.{group_end}

-- What stands at place k of the run, where a group begins: a sum so far, which with what the clauses behind count comes to the whole.
pub record Summing (p : Plan) (x : ℕ) (count : Clause → ℕ) (whole k sum : ℕ) : Type 0 where
  pub rise : T (numbers_rise p)
  pub along : Along p x rise count whole k sum

module _ {tables terms assignment tallies marks : List ℕ} {x : ℕ} (g : Going tables terms assignment tallies marks x) where
  abbrev plan : Plan
  plan = plan_of_tables tables terms

  abbrev bits : Assignment
  bits = lent_bits tables terms assignment

  pub sum_start : (count : Clause → ℕ) → Summing (plan_of_tables tables terms) x count (capped (sum_by count (plan_of_tables tables terms).clauses)) (run_end (plan_of_tables tables terms) (x - 1)) 0
  sum_start count = record { rise = going_rises g; along = along_start plan x (going_rises g) (going_within g) g.low g.high count }

  low : 0 < x
  low = omega (arith, g.low)

  -- What all clauses together count.
  pub break_counted : capped (sum_by (clause_break (lent_bits tables terms assignment) x) (plan_of_tables tables terms).clauses) ≡ capped_break (plan_of_tables tables terms) (lent_bits tables terms assignment) x
  unfolding capped_break break_sum
  break_counted = ap capped (sym (break_formula plan bits x (going_rises g) low (going_bits g)))

  pub make_counted : capped (sum_by (clause_make (lent_bits tables terms assignment) x) (plan_of_tables tables terms).clauses) ≡ capped_make (plan_of_tables tables terms) (lent_bits tables terms assignment) x
  unfolding capped_make make_sum
  make_counted = ap capped (sym (make_formula plan bits x (going_rises g) low (going_bits g)))

  module _ {count : Clause → ℕ} (zero : (k : Clause) → names k x ≡ false → count k ≡ 0) {whole k sum : ℕ} (s : Summing (plan_of_tables tables terms) x count whole k sum) where
    pub sum_end_lem : run_end (plan_of_tables tables terms) x ≤ k → capped sum ≡ whole
    sum_end_lem h = along_end plan x s.rise (going_within g) g.low g.high zero s.along h

    module _ (here : k < run_end (plan_of_tables tables terms) x) where
      -- A group begins there,
      pub sum_begins : Group (plan_of_tables tables terms) x (place_at tables terms k).clause k (group_end (plan_of_tables tables terms) x k)
      sum_begins = along_group plan x s.rise (going_within g) g.low g.high zero s.along here no_place refl

      -- and behind it the sum has what its clause counts.
      pub sum_next : {j share next : ℕ} → j ≡ group_end (plan_of_tables tables terms) x k → share ≡ capped (count (get_or (plan_of_tables tables terms).clauses (place_at tables terms k).clause [])) → next ≡ capped (sum + share) → Summing (plan_of_tables tables terms) x count whole j next
      sum_next e f h = record { rise = s.rise; along = along_next plan x s.rise (going_within g) g.low g.high zero s.along here no_place e f h }

    -- What is above a limit already stays above it.
    pub sum_most : (n : ℕ) → n < capped sum → n < whole
    unfolding capped
    sum_most n h = omega (arith, s.along.counted)

  -- Where a clause breaks, something does.
  pub sum_some : {whole k sum : ℕ} → Summing (plan_of_tables tables terms) x (clause_break (lent_bits tables terms assignment) x) whole k sum → k < run_end (plan_of_tables tables terms) x → ltb 0 (clause_break (lent_bits tables terms assignment) x (get_or (plan_of_tables tables terms).clauses (place_at tables terms k).clause [])) ≡ true → eqb whole 0 ≡ false
  sum_some {whole} {k} {sum} s here t =
      ne_eqb whole 0 (λ z.
      let cb = clause_break bits x (get_or plan.clauses (place_at tables terms k).clause []) in
      let o = sum_next (no_break bits x) s here {share = capped cb} {next = capped (sum + capped cb)} refl refl refl in
      let none : capped (sum + capped cb) + sum_by (clause_break bits x) (drop o.along.clause plan.clauses) ≡ 0 = capped_none _ (o.along.counted ∙ z) in
      let no-sum : sum + capped cb ≡ 0 = capped_none (sum + capped cb) (omega (arith, none)) in
      let no-cb : cb ≡ 0 = capped_none cb (omega (arith, no-sum)) in
      omega (arith, no-cb, ltb-true 0 cb t))
