-- The mean cost as it is given out, absent where no run has a find; and the figures are in lowest terms.
-- Assumes nothing.
use native.Mathlib.Omega.{arith}
use mathlib.Core.Path.{◌≡◌, refl, ap}
use mir.Val.{bool_byte}
use Rattle.std.specs.Prelude.{Option, None, Some}
use Rattle.std.specs.Option.{is_some, unwrap_or}
use Rattle.counting.specs.Bound.{bound_of}
use lib.IntN.{pos}
use lib.ListN.{length}
use borrow.Author.Tests.{eq-eqb, ne_eqb}
use Rattle.plpb.specs.Lists.{keep, count, sum_by}
use Rattle.plpb.specs.Plan.{Bound, absent, present}
use Rattle.fractions.specs.declared.SignedFraction.{SignedFraction}
use Rattle.fractions.specs.Fractions.{reduced_z}
use Rattle.fractions.proofs.Lowest.{reduces, reduces_z}
use Rattle.figures.specs.declared.Sums.{Sums}
use Rattle.figures.specs.Figures.{has_find, costs, sums_of, share, mean_flips, mean_cost, mark_of, given_out, figures_by, figures_of, FiguresReduced}

module _ (s : Sums) where
  pub mean_absent : s.found ≡ 0 → absent ≡ mean_cost s
  unfolding mean_cost
  mean_absent e = rw (eq-eqb s.found 0 e)

  pub mean_there : (s.found ≡ 0 → ⊥) → {f : SignedFraction} → f ≡ reduced_z s.cost s.found → present f ≡ mean_cost s
  unfolding mean_cost
  mean_there n e = rw (ne_eqb s.found 0 n) (ap present e)

-- How the code gives out a mean that may be absent.
pub marked : (o : Option SignedFraction) {b : Bound SignedFraction} → bound_of o ≡ b → bool_byte (is_some o) ≡ mark_of b
unfolding mark_of
marked None e = rw (← e) refl
marked (Some f) e = rw (← e) refl

pub handed : (o : Option SignedFraction) {b : Bound SignedFraction} → bound_of o ≡ b → unwrap_or o (record { top = pos 0; bottom = 0 }) ≡ given_out b
unfolding given_out
handed None e = rw (← e) refl
handed (Some f) e = rw (← e) refl

-- ---- lowest terms

pub figures_reduced : FiguresReduced
unfolding figures_of figures_by share mean_flips sums_of given_out
figures_reduced rs h =
    record {
      share = reduces (count has_find rs) (length rs) h;
      flips = reduces (sum_by (λ r. r.flips) rs) (length rs) h;
      cost = λ some. rw (← mean_there (sums_of rs) (λ e. omega arith) refl) (reduces_z (costs (keep has_find rs)) (count has_find rs) some);
    }
