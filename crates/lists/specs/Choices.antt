-- "The plan's solutions are the choices of sites that obey the zone list, stated without the plan." (document 02, T-07)
-- Assumes nothing.
use Rattle.std.specs.Prelude.{ℕ, Bool, cond, List, [], ◌∷◌, leb, eqb}
use Rattle.plpb.specs.Lists.{◌and◌, ◌or◌, count, all, sum_by}
use Rattle.lists.specs.Lists.{Site, Zone, in_zone}

-- A choice says yes or no to each site, in the list's order. These are the sites that it takes.
unfoldable pub chosen : List Bool → List Site → List Site
chosen choice [] = []
chosen [] (s ∷ ss) = []
chosen (b ∷ choice) (s ∷ ss) = cond b (s ∷ chosen choice ss) (chosen choice ss)

-- How many of them lie in a zone.
unfoldable pub chosen_in : List Bool → List Site → List ℕ → ℕ
chosen_in choice ss name = count (in_zone name) (chosen choice ss)

-- "between least and most sites [..], or, with `yes`, that rule or none at all"
unfoldable pub obeys_zone : List Bool → List Site → Zone → Bool
obeys_zone choice ss z =
    (leb z.least (chosen_in choice ss z.name) and leb (chosen_in choice ss z.name) z.most)
    or (z.may_be_empty and eqb (chosen_in choice ss z.name) 0)

-- A choice obeys the zone list.
unfoldable pub obeys_zones : List Bool → List Site → List Zone → Bool
obeys_zones choice ss zs = all (obeys_zone choice ss) zs

-- The metres that the crew carries for it.
unfoldable pub carried : List Bool → List Site → ℕ
carried choice ss = sum_by (λ s. s.metres) (chosen choice ss)
