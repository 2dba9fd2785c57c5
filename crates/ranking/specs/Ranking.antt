-- The first two of the ranked variables, as the code keeps them.
-- Assumes nothing.
use Rattle.std.specs.Prelude.{ℕ, ◌+◌, ◌-◌, ◌≡◌, ◌<◌, Bool, not, List, [], ◌∷◌, ltb, eqb, Option, Some, None, IsSomeAnd}
use Rattle.plpb.specs.Lists.{◌and◌, ◌or◌}
use Rattle.plpb.specs.Plan.{Plan, Assignment}
use Rattle.plpb.specs.Expansion.{break_count, make_count}
use Rattle.plpb.specs.Count.{cap, given}
use Rattle.plpb.specs.Novelty.{ranked, latest}
use Rattle.ranking.specs.declared.Standing.{Standing}
use Rattle.ranking.specs.declared.Top.{Top}

-- Make minus break, raised by the most that a break counts.
unfoldable pub raised_score : Plan → Assignment → ℕ → ℕ
raised_score p a x = (given (make_count p a x)).value + (cap - (given (break_count p a x)).value)

-- A standing is that of a variable.
pub record Stands (p : Plan) (a : Assignment) (last : ℕ → ℕ) (x : ℕ) (s : Standing) : Type 0 where
  pub score : s.score ≡ raised_score p a x
  pub last_flip : s.last ≡ last x
  pub variable : s.variable ≡ x

-- A score that is told where it is no less than the least.
abbrev pub From : ℕ → ℕ → Option ℕ → Type 0
From least n (Some s) = s ≡ n
From least n None = n < least

-- Which of two comes first.
unfoldable pub older_than : Standing → Standing → Bool
older_than s t = ltb s.last t.last or (eqb s.last t.last and ltb s.variable t.variable)

unfoldable pub comes_before : Standing → Standing → Bool
comes_before s t = ltb t.score s.score or (not (ltb s.score t.score) and older_than s t)

-- The first two of a list of variables.
unfoldable pub Tops : Plan → Assignment → (ℕ → ℕ) → List ℕ → Top → Type 0
Tops p a last [] t = (t.first ≡ None) × (t.second ≡ None)
Tops p a last (x ∷ []) t = IsSomeAnd t.first (Stands p a last x) × (t.second ≡ None)
Tops p a last (x ∷ y ∷ ys) t = IsSomeAnd t.first (Stands p a last x) × IsSomeAnd t.second (Stands p a last y)

-- .. and of some variables once they are ranked, with the number of the last flip among them.
pub record Ranks (p : Plan) (a : Assignment) (last : ℕ → ℕ) (xs : List ℕ) (t : Top) : Type 0 where
  pub tops : Tops p a last (ranked p a last xs) t
  pub newest : t.latest ≡ latest last xs
