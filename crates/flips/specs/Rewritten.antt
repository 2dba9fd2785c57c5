-- How many rule tallies a flip rewrites (T-05).
-- Assumes nothing.
use Rattle.std.specs.Prelude.{ℕ, suc, ◌+◌, ◌≤◌, ◌≡◌, true, cond, List, [], ◌∷◌, T, eqb, ℤ, length}
use Rattle.plpb.specs.Plan.{Plan, Assignment, flip, is_variable}
use Rattle.plpb.specs.Tallies.{fresh_count, rules_named}
use Rattle.plpb.specs.Search.{tightened}
use Rattle.format.specs.Limits.{max_rules, lawful}

-- In how many places two lists differ.
unfoldable pub differing : List ℕ → List ℕ → ℕ
differing (m ∷ ms) (n ∷ ns) = cond (eqb m n) 0 1 + differing ms ns
differing (m ∷ ms) [] = 0
differing [] ns = 0

-- "the count of rule tallies it rewrote": those that a flip changes. No coefficient is 0, so that P of each rule that names the variable does.
unfoldable pub rewritten : Plan → Assignment → ℕ → ℕ
rewritten p a x = differing (fresh_count p a).true_weights (fresh_count p (flip a x)).true_weights

-- ".. which equals the number of rules naming the variable, at most"
pub record Rewrites (most : ℕ) (p : Plan) (x : ℕ) : Type 0 where
  pub each_named : (a : Assignment) → length a ≡ p.variables → rewritten p a x ≡ rules_named p x
  pub few : rules_named p x ≤ most

-- "at most 1,024 and one more with the objective clause"
abbrev pub FewRewritten : Type 0
FewRewritten = (p : Plan) (x : ℕ)
    → T (lawful p)
    → is_variable p x ≡ true
    → Rewrites max_rules p x × ((m : ℤ) → Rewrites (suc max_rules) (tightened p m) x)
