-- Sites and zones, and the plan that two lists of them mean (document 02, T-07).
-- Assumes nothing.
use Rattle.std.specs.Prelude.{ℕ, suc, Bool, cond, List, [], ◌∷◌, map, eqb, pos, length}
use Rattle.plpb.specs.Plan.{absent, present, Term, Rule, Clause, Plan}
use Rattle.cells.specs.Grammar.{same_bytes}

-- "Sites: code, carry metres, zone."
pub record Site : Type 0 where
  pub code : List ℕ
  pub metres : ℕ
  pub zone : List ℕ

-- "Zones: zone, least, most, and `yes` or `no` for 'may stay empty'."
pub record Zone : Type 0 where
  pub name : List ℕ
  pub least : ℕ
  pub most : ℕ
  pub may_be_empty : Bool

unfoldable pub in_zone : List ℕ → Site → Bool
in_zone name s = same_bytes s.zone name

-- "One variable per site in file order": the terms of sites numbered from i on, of which each has a weight; with weight 0 there is none.
unfoldable pub terms_by : (Site → ℕ) → ℕ → List Site → List Term
terms_by weight i [] = []
terms_by weight i (s ∷ ss) =
    cond (eqb (weight s) 0) (terms_by weight (suc i) ss) (record { variable = i; weight = pos (weight s) } ∷ terms_by weight (suc i) ss)

-- "the objective is metres, a site with 0 metres having no term"
abbrev pub metres_terms : List Site → List Term
metres_terms ss = terms_by (λ s. s.metres) 1 ss

-- The sites of a zone, each with weight 1.
abbrev pub zone_terms : List Site → List ℕ → List Term
zone_terms ss name = terms_by (λ s. cond (in_zone name s) 1 0) 1 ss

-- "between least and most sites (mode 3)"
unfoldable pub between : List Site → Zone → Rule
between ss z = record { lower = present (pos z.least); upper = present (pos z.most); terms = zone_terms ss z.name }

-- "none at all (mode 2)"
unfoldable pub none_at_all : List Site → Zone → Rule
none_at_all ss z = record { lower = absent; upper = present (pos 0); terms = zone_terms ss z.name }

-- "between least and most sites (mode 3), or, with `yes`, that rule or none at all (mode 2)"
unfoldable pub zone_clause : List Site → Zone → Clause
zone_clause ss z = between ss z ∷ cond z.may_be_empty (none_at_all ss z ∷ []) []

-- "One variable per site in file order; the objective is metres [..]. One clause per zone in list order"
unfoldable pub plan_for : List Site → List Zone → Plan
plan_for ss zs = record { variables = length ss; objective = metres_terms ss; locks = []; clauses = map (zone_clause ss) zs }
