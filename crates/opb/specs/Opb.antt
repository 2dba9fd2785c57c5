-- What an OPB text says (document 02, T-02): "a first line `* #variable= n #constraint= m`, comment lines, `min:` and constraints with `>=` or `=`".
-- Assumes nothing.
use Rattle.std.specs.Prelude.{ℕ, Bool, cond, List, [], ◌∷◌, map, ℤ}
use Rattle.std.specs.Int.Signed.{le_z}
use Rattle.plpb.specs.Lists.{◌and◌, all}
use Rattle.plpb.specs.Plan.{absent, present, Term, Rule, Plan, Assignment, total}

-- A constraint: a sum, whether it stands before `=` or `>=`, and the number behind it.
pub record Line : Type 0 where
  pub terms : List Term
  pub exact : Bool
  pub bound : ℤ

unfoldable pub meets : Assignment → Line → Bool
meets a c =
    let sum = total a c.terms in
    cond c.exact (le_z c.bound sum and le_z sum c.bound) (le_z c.bound sum)

-- A text: n, what `min:` says, which is no term where there is no such line, and the constraints, m in number.
pub record Text : Type 0 where
  pub variables : ℕ
  pub objective : List Term
  pub lines : List Line

-- An assignment satisfies a text if it meets each constraint.
unfoldable pub solves : Assignment → Text → Bool
solves a t = all (meets a) t.lines

-- "each constraint a clause of one rule, `=` in mode 3": `>=` is a rule with a lower bound alone, `=` one with both, alike.
unfoldable pub line_rule : Line → Rule
line_rule c = record { lower = present c.bound; upper = cond c.exact (present c.bound) absent; terms = c.terms }

-- The plan that a text is read as. It locks nothing: "A lock becomes an `=` line", and that is read as a constraint.
unfoldable pub plan_of : Text → Plan
plan_of t = record { variables = t.variables; objective = t.objective; locks = []; clauses = map (λ c. line_rule c ∷ []) t.lines }
