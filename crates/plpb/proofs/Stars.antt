-- Every line of the star table holds: by computing the real expansion, and by the proved formula (11) where that has five thousand million clauses.
-- Assumes nothing.
use Prim.Native.Nat.{ℕ, suc, ◌-◌}
use native.Mathlib.Omega.{arith}
use mathlib.Core.Path.{◌≡◌, refl, ◌∙◌}
use mathlib.Core.List.{[], ◌∷◌}
use Rattle.plpb.specs.Lists.{◌and◌, ◌or◌, keep, any, all, concat, row, sum_by}
use Rattle.plpb.specs.Plan.{value, flip, total, at_least, at_most, rule_holds, map_bound, rising, rising_above, numbers_rise}
use Rattle.plpb.specs.Normal.{opposite, literal_true, is_negative, literal, size, rise, K, P, N, raised, size_a, size_b, copies}
use Rattle.plpb.specs.Expansion.{choose, choices, parts, joined, expand_clause, expansion, is_true, spoils, mends, break_count, make_count}
use Rattle.plpb.specs.Equations.{binom, over, standing, shares, shares_of, product, clause_make, make_sum}
use Rattle.plpb.specs.Search.{third, lbs_bound}
use Rattle.plpb.specs.Stars.{
  Star,
  Says,
  Hold,
  stars,
  only_clause,
  ◌·◌,
  at_least_rule,
  at_most_rule,
  between_rule,
  wildcat,
  exactly_one,
  either_of,
  too_much,
  heavy,
  at,
  both_zero,
  makes,
}
use Rattle.plpb.proofs.Binomial.{binom_one}
use Rattle.plpb.proofs.Equations.{make_formula}

-- Pascal's rule at k = 2: n + 1 over 2 is n more than n over 2.
pairs_more : (n : ℕ) → binom (suc n) 2 - binom n 2 ≡ n
unfolding binom
pairs_more n = omega (arith, binom_one n)

heavy_sum : make_sum (only_clause heavy (at (1 ∷ 1 ∷ []))) (at (1 ∷ 1 ∷ [])) 1 ≡ binom 100_001 2 - binom 100_000 2
unfolding make_sum clause_make product shares_of shares over standing sum_by only_clause heavy at_most_rule ◌·◌ at literal_true literal is_negative value size K P N size_a size_b map_bound raised rise
heavy_sum = omega arith

heavy_make : Says (makes heavy (at (1 ∷ 1 ∷ [])) 1 100_000)
unfolding numbers_rise all rising rising_above ◌and◌ only_clause heavy at_most_rule ◌·◌ at
heavy_make = make_formula (only_clause heavy (at (1 ∷ 1 ∷ []))) (at (1 ∷ 1 ∷ [])) 1 tt (omega arith) (omega arith) ∙ (heavy_sum ∙ pairs_more 100_000)

-- The starred examples of document 01.
pub stars_hold : Hold stars
unfolding ◌and◌ ◌or◌ keep any all concat row sum_by value flip total at_least at_most rule_holds map_bound opposite literal_true is_negative literal size rise K raised size_a size_b copies choose choices parts joined expand_clause expansion is_true spoils mends break_count make_count third lbs_bound only_clause ◌·◌ at_least_rule at_most_rule between_rule wildcat exactly_one either_of too_much at both_zero stars
stars_hold =
    ((refl, refl, refl), ((refl, refl), (refl, (refl, (refl, (refl, (refl, (refl, (refl, (refl, (refl, (refl, (refl, (refl, (refl, (refl, (refl, (refl, (refl, (refl, (refl, (refl, (refl, (refl, (refl, (refl, (refl, (refl, (refl, (heavy_make, (refl, (refl, tt))))))))))))))))))))))))))))))))
