-- What is claimed of the text of a plan (document 02, T-02).
-- Assumes nothing.
use Rattle.std.specs.Prelude.{◌≡◌, ◌++◌, T, length}
use Rattle.plpb.specs.Lists.{◌and◌, all, sum_by}
use Rattle.plpb.specs.Plan.{Plan, Assignment, satisfies, obeys}
use Rattle.format.specs.Limits.{lawful}
use Rattle.opb.specs.Opb.{solves, plan_of}
use Rattle.opb.specs.Tau.{is_single, new_atoms, tau}

-- An extension of an assignment: a value for each new variable, so that all values together satisfy the text.
pub record Extends (p : Plan) (a e : Assignment) : Type 0 where
  pub size : length e ≡ sum_by new_atoms p.clauses
  pub solved : T (solves (a ++ e) (tau p))

-- "Each assignment that satisfies plan and locks has exactly one extension that satisfies the text, and no other has any."
abbrev pub ExactlyOne : Type 0
ExactlyOne = (p : Plan) → T (lawful p) → (a : Assignment) → length a ≡ p.variables
    → (T (satisfies a p) → T (obeys a p) → (e : Assignment) × Extends p a e × ((d : Assignment) → Extends p a d → d ≡ e))
    × ((e : Assignment) → Extends p a e → T (satisfies a p) × T (obeys a p))

-- ".. one of single-rule clauses that does not, read again, has the same solutions": the text's plan asks for the old plan's clauses and locks.
abbrev pub SameSolutions : Type 0
SameSolutions = (p : Plan) → T (lawful p) → T (all is_single p.clauses) → (a : Assignment) → length a ≡ p.variables
    → satisfies a (plan_of (tau p)) ≡ satisfies a p and obeys a p
