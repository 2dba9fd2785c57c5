-- What is claimed of a text that is written and read again (document 02, T-02).
-- Assumes nothing.
use Rattle.std.specs.Prelude.{◌≡◌, T, length}
use Rattle.plpb.specs.Lists.{◌and◌, all}
use Rattle.plpb.specs.Plan.{Plan, Assignment, satisfies, obeys}
use Rattle.format.specs.Limits.{lawful}
use Rattle.format.specs.File.{accepted}
use Rattle.opb.specs.Opb.{Text, plan_of}
use Rattle.opb.specs.Spell.{spell}
use Rattle.opb.specs.Tau.{is_single, tau}
use Rattle.opb_lines.specs.ReadText.{read_text}

-- A text whose plan is within our limits is read, as it is spelled, as that plan.
abbrev pub ReadSpell : Type 0
ReadSpell = (t : Text) → T (lawful (plan_of t)) → read_text (spell t) ≡ accepted (plan_of t)

-- "Texts may pass our own limits; one of single-rule clauses that does not, read again, has the same solutions": what the reader makes of the bytes that
-- the writer leaves is a plan of as many variables and the same objective, which an assignment satisfies where it satisfies the old plan and its locks.
abbrev pub ReadAgain : Type 0
ReadAgain = (p : Plan) → T (lawful p) → T (all is_single p.clauses) → T (lawful (plan_of (tau p)))
    → (q : Plan) × (read_text (spell (tau p)) ≡ accepted q) × (q.variables ≡ p.variables) × (q.objective ≡ p.objective)
    × ((a : Assignment) → length a ≡ p.variables → satisfies a q ≡ satisfies a p and obeys a p)
