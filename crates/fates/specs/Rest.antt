-- From a place on a file holds the rules left of a clause that began before, and the clauses behind them.
-- Assumes nothing.
use Rattle.std.specs.Prelude.{ℕ, ◌≤◌, ◌≡◌, Bool, true, not, List, [], ◌++◌, map, drop}
use Rattle.plpb.specs.Lists.{◌and◌, any, all, concat, is_empty}
use Rattle.plpb.specs.Plan.{Rule, Clause}
use Rattle.format.specs.Limits.{max_variables, rule_lawful}
use Rattle.format.specs.Writer.{field, rule_field, clause_fields}
use Rattle.squeezed.specs.Squeezed.{Becomes, put_in, possible, always}

-- They are lawful rules and clauses of n variables.
pub record Rest (n : ℕ) (s : List ℕ) (at : ℕ) (rs : List Rule) (cs : List Clause) : Type 0 where
  pub high : n ≤ max_variables
  pub bytes : drop at s ≡ concat (map rule_field rs) ++ (concat (map clause_fields cs) ++ field 5 [])
  pub rules : all (rule_lawful n) rs ≡ true
  pub clauses : all (λ c. not (is_empty c) and all (rule_lawful n) c) cs ≡ true

abbrev pub Reads : List ℕ → ℕ → Type 0
Reads s at = (n : ℕ) × (rs : List Rule) × (cs : List Clause) × Rest n s at rs cs

-- .. where no rule is left of a clause.
abbrev pub Begins : List ℕ → ℕ → Type 0
Begins s at = (n : ℕ) × (cs : List Clause) × Rest n s at [] cs

-- The rules left of a clause were run through: whether one is always met, whether one is possible, and what stands behind them.
unfoldable pub Ran : (ℕ → Becomes) → List ℕ → ℕ → Bool → Bool → ℕ → Type 0
Ran f s from met kept next =
    (from ≤ next)
    × ((n : ℕ) (rs : List Rule) (cs : List Clause) → Rest n s from rs cs
    → (met ≡ any always (map (put_in f) rs)) × (kept ≡ any possible (map (put_in f) rs)) × Rest n s next [] cs)
