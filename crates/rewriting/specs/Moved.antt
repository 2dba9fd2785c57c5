-- Rules and clauses rewritten in place: what is left of them stands from one place on, and the fields not yet read stand from another as they stood.
-- Assumes nothing.
use Rattle.std.specs.Prelude.{ℕ, ◌+◌, ◌≤◌, ◌≡◌, List, [], ◌∷◌, length}
use Rattle.plpb.specs.Plan.{Rule, Clause}
use Rattle.words.specs.Writes.{put}
use Rattle.squeezed.specs.Squeezed.{Becomes}
use Rattle.fates.specs.Rest.{Rest}
use Rattle.rewriting.specs.Written.{rules_written, clauses_written}

-- Bytes were written at a place over those of s: t is what stands then, and they end before `end`.
unfoldable pub Laid : List ℕ → ℕ → List ℕ → List ℕ → ℕ → Type 0
Laid s to bytes t end = (t ≡ put to bytes s) × (end ≡ to + length bytes)

-- The rules left of a clause, up to a place.
unfoldable pub RulesMoved : (ℕ → Becomes) → List ℕ → ℕ → ℕ → List ℕ → ℕ → ℕ → Type 0
RulesMoved f s from to t at end =
    (from ≤ at)
    × ((n : ℕ) (rs : List Rule) (cs : List Clause) → Rest n s from rs cs → Laid s to (rules_written f rs) t end × (end ≤ at) × Rest n t at [] cs)

-- One clause.
unfoldable pub ClauseMoved : (ℕ → Becomes) → List ℕ → ℕ → ℕ → List ℕ → ℕ → ℕ → Type 0
ClauseMoved f s from to t at end =
    (from + 3 ≤ at)
    × ((n : ℕ) (c : Clause) (cs : List Clause) → Rest n s from [] (c ∷ cs)
    → Laid s to (clauses_written f (c ∷ [])) t end × (end ≤ at) × Rest n t at [] cs)

-- All clauses: behind what is left of them there is room for the end.
unfoldable pub ClausesMoved : (ℕ → Becomes) → List ℕ → ℕ → ℕ → List ℕ → ℕ → Type 0
ClausesMoved f s from to t end =
    (n : ℕ) (cs : List Clause) → Rest n s from [] cs → Laid s to (clauses_written f cs) t end × (end + 3 ≤ length s)
