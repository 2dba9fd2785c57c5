-- Where a variable occurs among the terms of a rule and how it stands there, as the code has it.
-- Assumes nothing.
use Rattle.std.specs.Prelude.{ℕ, ◌+◌, ◌≤◌, ◌<◌, ◌≡◌, cond, Option, Some, None}
use Rattle.std.specs.Option.{IfSome, is_some}
use Rattle.plpb.specs.Plan.{Term, Assignment, named_in}
use Rattle.plpb.specs.Normal.{literal, literal_true, size}
use Rattle.plpb.specs.Equations.{Standing, out, on, off, standing}
use Rattle.format.specs.Tables.{term_of}
use Rattle.rules.specs.declared.place.Stands.{Stands}
use Rattle.rules.specs.declared.place.Stands.TheVariants.{Out, On, Off}
use Rattle.rules.specs.Terms.{terms_at}

-- The standing that a Stands of the code says.
abbrev pub standing_in : Stands → Standing
standing_in Out = out
standing_in (On w) = on w
standing_in (Off w) = off w

-- How the variable of a term stands.
unfoldable pub standing_of : Assignment → Term → Standing
standing_of a t = cond (literal_true a (literal t)) (on (size t)) (off (size t))

-- How the variable found at a place stands.
abbrev pub standing_at : Assignment → (ℕ → ℕ) → Option ℕ → Standing
standing_at a g None = out
standing_at a g (Some i) = standing_of a (term_of g i)

-- This is the place of x among k terms.
pub record Found (g : ℕ → ℕ) (first count x : ℕ) (r : Option ℕ) : Type 0 where
  pub among : IfSome r (λ i. (first ≤ i) × (i < first + count))
  pub named : named_in x (terms_at g first count) ≡ is_some r
  pub stands : (a : Assignment) → standing a x (terms_at g first count) ≡ standing_at a g r
