-- The faults of a text by their numbers, and one line judged and read on from.
-- Assumes nothing.
use Rattle.std.specs.Prelude.{ℕ, ◌≤◌, ◌≡◌, Bool, true, false, List, ◌∷◌, Result, MatchResult}
use Rattle.plpb.specs.Lists.{is_empty}
use Rattle.format.specs.File.{refused, refuse}
use Rattle.statements.specs.Grammar.{terms_in}
use Rattle.opb_judge.specs.declared.Passed.{Passed}
use Rattle.opb_judge.specs.declared.Fault.{Fault}
use Rattle.opb_judge.specs.declared.Fault.TheVariants.{Malformed, VariableAbove, ConstraintsMiscounted, OutOfRange, TermsUnlawful, BoundWide}
use Rattle.opb_lines.specs.ReadText.{variables_in, objective_fault, constraint_fault, judging}

-- "31 for malformed text, 32 for a variable above n, then 4 to 6 as in a plan"; "last, 32 at 0 for a number of constraints other than m".
abbrev pub number_of : Fault → ℕ
number_of Malformed = 31
number_of VariableAbove = 32
number_of ConstraintsMiscounted = 32
number_of OutOfRange = 4
number_of TermsUnlawful = 5
number_of BoundWide = 6

-- No fault, or the one of this number.
abbrev pub Finds : ℕ → Result (Unit {0}) Fault → Type 0
Finds number r = MatchResult r (λ u. number ≡ 0) (λ f. number_of f ≡ number)

-- The fault that is told where it is met.
abbrev pub Unless : Bool → Fault → Result (Unit {0}) Fault → Type 0
Unless met fault r = MatchResult r (λ u. met ≡ false) (λ f. (met ≡ true) × (f ≡ fault))

-- The fault of an objective and of a constraint, each malformed where its sum has no term.
abbrev pub objective_line : List ℕ → Bool → ℕ → ℕ
objective_line s free at = refuse (is_empty (terms_in s at)) 31 (objective_fault (variables_in s) s free at)

abbrev pub constraint_line : List ℕ → ℕ → ℕ → ℕ → ℕ
constraint_line s constraints terms at = refuse (is_empty (terms_in s at)) 31 (constraint_fault (variables_in s) s constraints terms at)

-- A line with a fault stops reading, and one without is passed.
abbrev pub OnFault : ℕ → Passed → Result Passed Fault → Type 0
OnFault number behind r = MatchResult r (λ q. (number ≡ 0) × (q ≡ behind)) (λ f. number_of f ≡ number)

-- The lines behind what is passed come to what those behind the line come to, or to its refusal.
abbrev pub Steps : List ℕ → ℕ → Passed → Result Passed Fault → Type 0
Steps s at p r =
    MatchResult r
    (λ q.
    ((ats : List ℕ) → judging s p.free p.constraints p.terms (at ∷ ats) ≡ judging s q.free q.constraints q.terms ats)
    × (p.constraints ≤ 512 → q.constraints ≤ 512))
    (λ f. (ats : List ℕ) → judging s p.free p.constraints p.terms (at ∷ ats) ≡ refused (number_of f) at)
