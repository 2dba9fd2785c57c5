-- What the code that judges the mapper's two lists answers, beside the definitions of the lists.
-- Assumes nothing.
use Rattle.std.specs.Prelude.{ℕ, ◌+◌, ◌≡◌, Bool, true, not, cond, List, ltb, length, Result, Ok, Err, MatchResult}
use Rattle.plpb.specs.Lists.{all}
use Rattle.cells.specs.Grammar.{rows_of, column_of}
use Rattle.rows.specs.Reading.{columns}
use Rattle.lists.specs.Refusals.{Entry, entry_at, has, site_fault, zone_fault, row_fault, Judged, judged, Refusal, accepted}
use Rattle.entries.specs.declared.Fault.{Fault}
use Rattle.entries.specs.declared.Fault.TheVariants.{Malformed, OutOfRange, Repeated, Unlisted, Unused}
use Rattle.entries.specs.declared.AtFault.{AtFault}
use Rattle.entries.specs.declared.Refusal.{Refusal as RefusalT}
use Rattle.entries.specs.declared.Refusal.TheVariants.{Site, Zone, Size}
use Rattle.entries.specs.declared.Counts.{Counts}

-- The rows of the site list, or of the zone list.
abbrev pub entries_of : Bool → List ℕ → List Entry
entries_of zones s = rows_of (columns zones) s

-- The values of a row consist of bytes.
abbrev pub OfBytes : Entry → Type 0
OfBytes x = (which : ℕ) → all (λ b. ltb b 256) (column_of which x) ≡ true

-- "51 malformed row, 52 number out of its range", in either list.
abbrev pub own_fault : Bool → Entry → ℕ
own_fault zones x = cond zones (zone_fault x) (site_fault x)

-- No row of a list meets 51 to 53.
abbrev pub Well : Bool → List ℕ → Type 0
Well zones s = (judged (row_fault zones (entries_of zones s)) (entries_of zones s)).fault ≡ 0

-- The column of the zone: a zone's name, or the third of a site.
abbrev pub zone_column : Bool → ℕ
zone_column zones = cond zones 0 2

-- The fault of a row whose zone no row of the other list has.
unfoldable pub missing : ℕ → Bool → List Entry → List Entry → ℕ → ℕ
missing fault zones xs others k = cond (has (zone_column (not zones)) (column_of (zone_column zones) (entry_at xs k)) others) 0 fault

-- The numbers of the code's faults.
abbrev pub fault_number : Fault → ℕ
fault_number Malformed = 51
fault_number OutOfRange = 52
fault_number Repeated = 53
fault_number Unlisted = 54
fault_number Unused = 55

-- The number of what was found, 0 where nothing is wrong.
abbrev pub found : {A : Type 0} → Result A Fault → ℕ
found (Ok a) = 0
found (Err f) = fault_number f

-- The code's row at fault is the first of a list.
abbrev pub IsAt : Judged → AtFault → Type 0
IsAt j e = (j.fault ≡ fault_number e.fault) × (e.row ≡ j.rows + 1)

-- The code's refusals in numbers.
abbrev pub refusal_numbers : RefusalT → Refusal
refusal_numbers (Site e) = record { number = fault_number e.fault; list = 1; row = e.row }
refusal_numbers (Zone e) = record { number = fault_number e.fault; list = 2; row = e.row }
refusal_numbers Size = record { number = 4; list = 0; row = 0 }

-- The code's verdict: the refusal, and without one how many sites and zones there are.
abbrev pub Tells : Refusal → List Entry → List Entry → Result Counts RefusalT → Type 0
Tells f sites zones r =
    MatchResult r (λ n. (f ≡ accepted) × (n.sites ≡ length sites) × (n.zones ≡ length zones)) (λ e. f ≡ refusal_numbers e)
