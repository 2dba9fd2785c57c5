-- What two lists say, row by row, and what is turned away (document 02, T-07).
-- Assumes nothing.
use Rattle.std.specs.Prelude.{ℕ, zero, suc, ◌+◌, ◌*◌, ◌-◌, Bool, true, false, not, cond, List, [], ◌∷◌, map, leb, ltb, eqb, length, get_or, take}
use Rattle.std.proofs.Math.Option.{Option, none}
use Rattle.plpb.specs.Lists.{◌and◌, ◌or◌, any, all}
use Rattle.plpb.specs.Plan.{Plan}
use Rattle.plpb.specs.Tallies.{rules_of}
use Rattle.format.specs.Limits.{max_variables, max_clauses, max_rules, max_terms, term_count}
use Rattle.format.specs.Layout.{largest_file}
use Rattle.cells.specs.Grammar.{Record, rows_of, column_of, same_bytes}
use Rattle.cells.specs.Values.{is_digit}
use Rattle.rows.specs.Reading.{is_some}
use Rattle.lists.specs.Lists.{Site, Zone, plan_for}

-- A row, as the grammar has it; none where it is malformed.
abbrev pub Entry : Type 0
Entry = Option Record

-- "A code or zone has 1 to 16 bytes and a number 1 to 7 digits, else the row is malformed"
unfoldable pub is_name : List ℕ → Bool
is_name v = leb 1 (length v) and leb (length v) 16

unfoldable pub is_number : List ℕ → Bool
is_number v = leb 1 (length v) and leb (length v) 7 and all is_digit v

-- The number that digits say behind one that was read.
unfoldable pub number_from : ℕ → List ℕ → ℕ
number_from n [] = n
number_from n (b ∷ bs) = number_from (10 * n + (b - 48)) bs

abbrev pub number_of : List ℕ → ℕ
number_of v = number_from 0 v

-- `yes` and `no`
abbrev pub yes_bytes : List ℕ
yes_bytes = 121 ∷ 101 ∷ 115 ∷ []

abbrev pub no_bytes : List ℕ
no_bytes = 110 ∷ 111 ∷ []

unfoldable pub is_yes : List ℕ → Bool
is_yes v = same_bytes v yes_bytes

unfoldable pub is_no : List ℕ → Bool
is_no v = same_bytes v no_bytes

-- "Sites: code, carry metres, zone."
unfoldable pub site_of : Entry → Site
site_of x = record { code = column_of 0 x; metres = number_of (column_of 1 x); zone = column_of 2 x }

-- "Zones: zone, least, most, and `yes` or `no` for 'may stay empty'."
unfoldable pub zone_of : Entry → Zone
zone_of x =
    record { name = column_of 0 x; least = number_of (column_of 1 x); most = number_of (column_of 2 x); may_be_empty = is_yes (column_of 3 x) }

unfoldable pub site_formed : Entry → Bool
site_formed x = is_some x and is_name (column_of 0 x) and is_number (column_of 1 x) and is_name (column_of 2 x)

unfoldable pub zone_formed : Entry → Bool
zone_formed x =
    is_some x and is_name (column_of 0 x) and is_number (column_of 1 x) and is_number (column_of 2 x) and (is_yes (column_of 3 x) or is_no (column_of 3 x))

-- "51 malformed row, 52 number out of its range": "Metres are 0 to 1,000,000, least and most 0 to 512."
unfoldable pub site_fault : Entry → ℕ
site_fault x = cond (not (site_formed x)) 51 (cond (ltb 1_000_000 (number_of (column_of 1 x))) 52 0)

unfoldable pub zone_fault : Entry → ℕ
zone_fault x = cond (not (zone_formed x)) 51 (cond (ltb 512 (number_of (column_of 1 x)) or ltb 512 (number_of (column_of 2 x))) 52 0)

-- The k-th row, from 0.
abbrev pub entry_at : List Entry → ℕ → Entry
entry_at xs k = get_or xs k none

-- One of some rows has a value in a column.
unfoldable pub has : ℕ → List ℕ → List Entry → Bool
has which v xs = any (λ x. same_bytes (column_of which x) v) xs

-- "53 repeated code or zone": an earlier row has it.
unfoldable pub repeated : List Entry → ℕ → Bool
repeated xs k = has 0 (column_of 0 (entry_at xs k)) (take k xs)

-- "The first row at fault decides, by the lower number": a row's fault in the site list, or in the zone list.
unfoldable pub row_fault : Bool → List Entry → ℕ → ℕ
row_fault zones xs k =
    let own = cond zones (zone_fault (entry_at xs k)) (site_fault (entry_at xs k)) in
    cond (eqb own 0) (cond (repeated xs k) 53 0) own

-- "54 unlisted zone" of a site
unfoldable pub unlisted : List Entry → List Entry → ℕ → ℕ
unlisted sites zones k = cond (has 0 (column_of 2 (entry_at sites k)) zones) 0 54

-- "55 zone without sites"
unfoldable pub unused : List Entry → List Entry → ℕ → ℕ
unused sites zones k = cond (has 2 (column_of 0 (entry_at zones k)) sites) 0 55

-- What rows come to: the fault of the first that has one, 0 for none, and how many rows stand before it.
pub record Judged : Type 0 where
  pub fault : ℕ
  pub rows : ℕ

unfoldable pub judged_from : (ℕ → ℕ) → ℕ → ℕ → Judged
judged_from fault zero k = record { fault = 0; rows = k }
judged_from fault (suc left) k = cond (eqb (fault k) 0) (judged_from fault left (suc k)) (record { fault = fault k; rows = k })

abbrev pub judged : (ℕ → ℕ) → List Entry → Judged
judged fault xs = judged_from fault (length xs) 0

-- "Turned away, with list and row from 1": the number, 0 for no refusal; the list, 1 for sites, 2 for zones; the row.
pub record Refusal : Type 0 where
  pub number : ℕ
  pub list : ℕ
  pub row : ℕ

abbrev pub accepted : Refusal
accepted = record { number = 0; list = 0; row = 0 }

unfoldable pub in_list : ℕ → Judged → Refusal → Refusal
in_list list j otherwise = cond (eqb j.fault 0) otherwise (record { number = j.fault; list = list; row = j.rows + 1 })

-- The plan of two lists' rows.
abbrev pub plan_of : List Entry → List Entry → Plan
plan_of sites zones = plan_for (map site_of sites) (map zone_of zones)

-- "when the plan would be too large or has no site"
unfoldable pub too_large : Plan → Bool
too_large p =
    ltb max_variables p.variables or ltb max_clauses (length p.clauses) or ltb max_rules (length (rules_of p)) or ltb max_terms (term_count p)

-- "sites before zones; 54 and then 55 come after both lists"; "then, with both 0, 4 when the plan would be too large or has no site"
unfoldable pub refusal_of : List Entry → List Entry → Refusal
refusal_of sites zones =
    in_list 1 (judged (row_fault false sites) sites)
    (in_list 2 (judged (row_fault true zones) zones)
    (in_list 1 (judged (unlisted sites zones) sites)
    (in_list 2 (judged (unused sites zones) zones)
    (cond (eqb (length sites) 0 or too_large (plan_of sites zones)) (record { number = 4; list = 0; row = 0 }) accepted))))

-- The rows of the two lists: three columns and four.
abbrev pub site_rows : List ℕ → List Entry
site_rows s = rows_of 3 s

abbrev pub zone_rows : List ℕ → List Entry
zone_rows s = rows_of 4 s

-- "21, for a plan buffer below 54,446 bytes too, before either"
unfoldable pub map_refusal : ℕ → List ℕ → List ℕ → Refusal
map_refusal room sites zones =
    cond (ltb room largest_file) (record { number = 21; list = 0; row = 0 }) (refusal_of (site_rows sites) (zone_rows zones))
