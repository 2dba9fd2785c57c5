-- What the code answers of the parts of a statement that are there: their places as they are, their numbers as they are seen.
-- Assumes nothing.
use Rattle.std.specs.Prelude.{ℕ, ◌≡◌, Bool, true, false, List, ltb, eqb, length, get_or}
use Rattle.plpb.specs.Lists.{any}
use Rattle.plpb.specs.Plan.{Term}
use Rattle.format.specs.Limits.{terms_lawful}
use Rattle.tokens.specs.Tokens.{number_at, seen, blanks_end, word_end}
use Rattle.tokens.specs.Found.{Behind}
use Rattle.statements.specs.declared.Kind.{Kind}
use Rattle.statements.specs.declared.Kind.TheVariants.{Comment, Objective, Constraint}
use Rattle.statements.specs.declared.Signed.{Signed}
use Rattle.statements.specs.declared.Integer.{Integer}
use Rattle.statements.specs.declared.Weighted.{Weighted}
use Rattle.statements.specs.declared.Sum.{Sum}
use Rattle.statements.specs.declared.Relation.{Relation}
use Rattle.statements.specs.Grammar.{min_word, is_comment, is_objective, has_terms, unsigned_from, integer_end, index_from, term_end, sum_at, sum_end, is_exact, bound_from, bound_end}

-- Where the sum of an objective begins.
abbrev pub behind_min : List ℕ → ℕ → ℕ
behind_min s at = blanks_end s (word_end min_word s at)

-- The kind that a line's first byte tells.
abbrev pub IsKind : List ℕ → ℕ → Kind → Type 0
IsKind s at Comment = is_comment s at ≡ true
IsKind s at Objective = (is_comment s at ≡ false) × (is_objective s at ≡ true)
IsKind s at Constraint = (is_comment s at ≡ false) × (is_objective s at ≡ false)

-- A number with its sign, as it is seen.
pub record SignedAt (s : List ℕ) (at : ℕ) (r : Signed) : Type 0 where
  pub negative : r.negative ≡ eqb (get_or s at 0) 45
  pub size : r.size ≡ seen (number_at s (unsigned_from s at))

pub record IntegerAt (s : List ℕ) (at : ℕ) (r : Integer) : Type 0 where
  pub value : SignedAt s at r.value
  pub rest : Behind integer_end s at r.rest

pub record WeightedAt (s : List ℕ) (at : ℕ) (r : Weighted) : Type 0 where
  pub weight : SignedAt s at r.weight
  pub variable : r.variable ≡ seen (number_at s (index_from s at))
  pub rest : Behind term_end s at r.rest

-- Some variable is above n.
unfoldable pub passes : ℕ → List Term → Bool
passes n ts = any (λ t. ltb n t.variable) ts

pub record SumAt (s : List ℕ) (at n : ℕ) (r : Sum) : Type 0 where
  pub some : has_terms s at ≡ true
  pub count : r.count ≡ length (sum_at s at)
  pub above : r.above ≡ passes n (sum_at s at)
  pub lawful : r.lawful ≡ terms_lawful n (sum_at s at)
  pub rest : Behind sum_end s at r.rest

pub record RelationAt (s : List ℕ) (at : ℕ) (r : Relation) : Type 0 where
  pub exact : r.exact ≡ is_exact s at
  pub bound : SignedAt s (bound_from s at) r.bound
  pub rest : Behind bound_end s at r.rest
