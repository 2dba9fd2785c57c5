-- The three figures of some runs: "Report as fractions in lowest terms with positive denominator: the share of runs with a find, mean flips over all
-- runs, and mean cost over the runs that found one, absent with no find." (document 02, T-11)
-- Assumes nothing.
use Rattle.std.specs.Prelude.{ℕ, ◌+◌, ◌*◌, ◌≤◌, ◌<◌, Bool, cond, List, [], ◌∷◌, eqb, ltb, ℤ, pos, nat_abs, ◌+ℤ◌, length}
use Rattle.plpb.specs.Lists.{keep, count, sum_by}
use Rattle.plpb.specs.Plan.{Bound, absent, present}
use Rattle.plpb.specs.Search.{Answer}
use Rattle.fractions.specs.declared.Fraction.{Fraction}
use Rattle.fractions.specs.declared.SignedFraction.{SignedFraction}
use Rattle.fractions.specs.Fractions.{reduced, reduced_z, Reduced, ReducedZ}
use Rattle.figures.specs.declared.Sums.{Sums}
use Rattle.figures.specs.declared.Figures.{Figures}

unfoldable pub has_find : Answer → Bool
has_find r = ltb 0 r.finds

unfoldable pub costs : List Answer → ℤ
costs [] = pos 0
costs (r ∷ rs) = r.cost +ℤ costs rs

-- What is added up: the runs with a find, the flips of all runs, and what those with a find cost.
unfoldable pub sums_of : List Answer → Sums
sums_of rs = record { found = count has_find rs; flips = sum_by (λ r. r.flips) rs; cost = costs (keep has_find rs) }

-- "the share of runs with a find"
unfoldable pub share : ℕ → Sums → Fraction
share runs s = reduced s.found runs

-- "mean flips over all runs"
unfoldable pub mean_flips : ℕ → Sums → Fraction
mean_flips runs s = reduced s.flips runs

-- "mean cost over the runs that found one, absent with no find"
unfoldable pub mean_cost : Sums → Bound SignedFraction
mean_cost s = cond (eqb s.found 0) absent (present (reduced_z s.cost s.found))

-- How a mean that may be absent is given out: with a mark, or as 0 over 0.
unfoldable pub mark_of : Bound SignedFraction → ℕ
mark_of absent = 0
mark_of (present f) = 1

unfoldable pub given_out : Bound SignedFraction → SignedFraction
given_out absent = record { top = pos 0; bottom = 0 }
given_out (present f) = f

-- The figures of so many runs.
unfoldable pub figures_by : ℕ → Sums → Figures
figures_by runs s =
    record { refusal = 0; found = mark_of (mean_cost s); share = share runs s; flips = mean_flips runs s; cost = given_out (mean_cost s) }

unfoldable pub figures_of : List Answer → Figures
figures_of rs = figures_by (length rs) (sums_of rs)

-- "fractions in lowest terms with positive denominator": so is each figure of at least one run.
pub record InLowestTerms (rs : List Answer) : Type 0 where
  pub share : Reduced (count has_find rs) (length rs) (figures_of rs).share
  pub flips : Reduced (sum_by (λ r. r.flips) rs) (length rs) (figures_of rs).flips
  pub cost : 0 < count has_find rs → ReducedZ (costs (keep has_find rs)) (count has_find rs) (figures_of rs).cost

abbrev pub FiguresReduced : Type 0
FiguresReduced = (rs : List Answer) → 0 < length rs → InLowestTerms rs

-- With a refusal there are none.
unfoldable pub refused_with : ℕ → Figures
refused_with n =
    let nothing : Fraction = record { top = 0; bottom = 0 } in
    record { refusal = n; found = 0; share = nothing; flips = nothing; cost = given_out absent }

-- What so many runs add up to at most: a run makes no more flips than it has numbers, and a plan costs no more than 512 variables of 1,000,000.
pub record AtMost (runs : ℕ) (s : Sums) : Type 0 where
  pub found : s.found ≤ runs
  pub flips : s.flips ≤ 16_384 * runs
  pub cost : nat_abs s.cost ≤ 512_000_000 * runs

-- One run more.
unfoldable pub plus : Sums → ℕ → ℕ → ℤ → Sums
plus s finds flips cost =
    record {
      found = s.found + cond (ltb 0 finds) 1 0;
      flips = s.flips + flips;
      cost = cond (ltb 0 finds) (s.cost +ℤ cost) s.cost;
    }

abbrev pub plus_run : Sums → Answer → Sums
plus_run s r = plus s r.finds r.flips r.cost
