-- "A crate above the library reads two lists by RFC 4180's grammar and writes the plan file into a lent buffer, whose bytes beyond it stay; the answer
-- gives its length." (document 02, T-07)
-- Assumes nothing.
use Rattle.std.specs.Prelude.{ℕ, cond, List, map, eqb, length}
use Rattle.plpb.specs.Plan.{Plan}
use Rattle.words.specs.Writes.{front}
use Rattle.format.specs.Writer.{write}
use Rattle.lists.specs.Lists.{Site, Zone}
use Rattle.lists.specs.Refusals.{Refusal, site_of, zone_of, site_rows, zone_rows, plan_of, map_refusal}

-- The sites and the zones of two lists, and the plan that they mean.
abbrev pub sites_of : List ℕ → List Site
sites_of s = map site_of (site_rows s)

abbrev pub zones_of : List ℕ → List Zone
zones_of z = map zone_of (zone_rows z)

abbrev pub plan_of_lists : List ℕ → List ℕ → Plan
plan_of_lists s z = plan_of (site_rows s) (zone_rows z)

-- The call's refusal: of two lists, and a buffer that is lent for the plan.
abbrev pub refusal_for : List ℕ → List ℕ → List ℕ → Refusal
refusal_for s z plan = map_refusal (length plan) s z

-- The length of the file; a refusal gives none.
unfoldable pub length_for : List ℕ → List ℕ → List ℕ → ℕ
length_for s z plan = cond (eqb (refusal_for s z plan).number 0) (length (write (plan_of_lists s z))) 0

-- What the buffer holds afterwards: the file at its front and the bytes beyond it as they were; with a refusal all of them.
unfoldable pub plan_after : List ℕ → List ℕ → List ℕ → List ℕ
plan_after s z plan = cond (eqb (refusal_for s z plan).number 0) (front (write (plan_of_lists s z)) plan) plan
