-- The rows of a list judged one after another.
-- Assumes nothing.
use Prim.Native.Nat.{ℕ, suc, ◌+◌, ◌-◌, ◌≤◌, ◌<◌}
use native.Mathlib.Omega.{arith}
use native.Mathlib.Numerals.{add-one}
use mathlib.Core.Path.{◌≡◌, refl, sym, ap, ap₂, ◌∙◌}
use mathlib.Core.Bool.{Bool, true, false, not, cond}
use mathlib.Core.List.{List}
use mathlib.Core.Option.{none}
use Rattle.std.proofs.Common.{rules, Option, Some, None, IsSome, Result, Err}
use lib.Dec.{eqb}
use lib.ListN.{length, take}
use Rattle.std.proofs.lemmas.Bool.Decides.{nat_tests}
use lib.Seq.{take-length}
use borrow.Author.Tests.{eq-eqb, ne_eqb}
use Rattle.plpb.specs.Lists.{◌and◌, any}
use Rattle.cells.specs.declared.value.Value.{Value}
use Rattle.rows.specs.declared.row.Row.{Row}
use Rattle.std.proofs.lemmas.Option.{MatchOption-at_some}
use Rattle.cells.specs.Grammar as Grammar
use Rattle.cells.specs.Grammar.{malformed, row_of, column_of}
use Rattle.cells.specs.Values.{gather, same_value}
use Rattle.rows.specs.Reading.{is_some, Holds, ReadsRow, Reads, columns}
use Rattle.rows.proofs.Rows.{Place, is_row, row_held, place_next, malformed_last, rows_short}
use Rattle.lists.specs.Refusals.{site_formed, zone_formed, site_fault, zone_fault, Entry, entry_at, has, repeated, row_fault, Judged, judged_from}
use Rattle.lists.proofs.RowBytes.{rows_bytes}
use Rattle.lists.proofs.Judging.{judged_on, judged_stop, judged_end, judged_none}
use Rattle.lists.proofs.Accepted.{own_none}
use Rattle.entries.specs.declared.Fault.{Fault}
use Rattle.entries.specs.declared.Fault.TheVariants.{Malformed, OutOfRange, Repeated, Unlisted, Unused}
use Rattle.entries.specs.Judging.{entries_of, OfBytes, own_fault, Well, zone_column, fault_number, missing, IsAt}
use Rattle.entries.proofs.Tests.{has_alike, key_short, zone_short}

-- A row's fault by its parts.
module _ (zones : Bool) (xs : List Entry) (k : ℕ) where
  abbrev own : ℕ
  own = own_fault zones (entry_at xs k)

  pub fault_own : (own ≡ 0 → ⊥) → row_fault zones xs k ≡ own
  unfolding row_fault
  fault_own n = rw (ne_eqb own 0 n)

  pub fault_53 : own ≡ 0 → repeated xs k ≡ true → row_fault zones xs k ≡ 53
  unfolding row_fault
  fault_53 e f = rw (eq-eqb own 0 e, f)

  pub fault_0 : own ≡ 0 → repeated xs k ≡ false → row_fault zones xs k ≡ 0
  unfolding row_fault
  fault_0 e f = rw (eq-eqb own 0 e, f)

  pub own_sound : row_fault zones xs k ≡ 0 → own ≡ 0
  unfolding row_fault
  own_sound e = (own_none own (cond (repeated xs k) 53 0) e).0

-- The key among the rows before.
pub repeated_alike :
    (zones : Bool) (s : List ℕ) (k : ℕ) (v : Value) → v ≡ gather (column_of 0 (entry_at (entries_of zones s) k)) → own_fault zones (entry_at (entries_of zones s) k) ≡ 0
    → any (λ x. same_value (gather (column_of 0 x)) v) (take k (entries_of zones s)) ≡ repeated (entries_of zones s) k
unfolding repeated
repeated_alike zones s k v e f =
    has_alike (columns zones) s 0 k (column_of 0 (entry_at (entries_of zones s) k)) v e (key_short (entry_at (entries_of zones s) k) zones f)
    (rows_bytes (columns zones) s k 0)

-- The zone among the rows of the other list.
pub zone_alike :
    (zones : Bool) (s other : List ℕ) (k n which : ℕ) (v : Value) → v ≡ gather (column_of (zone_column zones) (entry_at (entries_of zones s) k))
    → own_fault zones (entry_at (entries_of zones s) k) ≡ 0 → n ≡ length (entries_of (not zones) other) → which ≡ zone_column (not zones)
    → any (λ x. same_value (gather (column_of which x)) v) (take n (entries_of (not zones) other))
    ≡ has (zone_column (not zones)) (column_of (zone_column zones) (entry_at (entries_of zones s) k)) (entries_of (not zones) other)
zone_alike zones s other k n which v e f l w =
    let xs = entries_of (not zones) other in
    let x = column_of (zone_column zones) (entry_at (entries_of zones s) k) in
    has_alike (columns (not zones)) other which n x v e (zone_short (entry_at (entries_of zones s) k) zones f) (rows_bytes (columns zones) s k (zone_column zones))
    ∙ ap₂ (λ (i j : ℕ). has i x (take j xs)) w l
    ∙ ap (has (zone_column (not zones)) x) (take-length xs)

-- From a row on.
module _ (f : ℕ → ℕ) (n k : ℕ) where
  abbrev from : Judged
  from = judged_from f (n - k) k

  one_less : k < n → n - k ≡ suc (n - (k + 1))
  one_less h = omega arith

  pub judge_stop : k < n → (f k ≡ 0 → ⊥) → from ≡ record { fault = f k; rows = k }
  judge_stop h m = ap (λ (j : ℕ). judged_from f j k) (one_less h) ∙ judged_stop f (n - (k + 1)) k m

  pub judge_on : k < n → f k ≡ 0 → from ≡ judged_from f (n - (k + 1)) (k + 1)
  judge_on h e =
      ap (λ (j : ℕ). judged_from f j k) (one_less h)
      ∙ judged_on f (n - (k + 1)) k e
      ∙ ap (judged_from f (n - (k + 1))) (sym (add-one k))

  pub judge_end : n ≤ k → from ≡ record { fault = 0; rows = k }
  judge_end h = let e : n - k ≡ 0 = omega arith in ap (λ (j : ℕ). judged_from f j k) e ∙ judged_end f k

-- The code's faults have numbers above 0.
pub some_fault : (f : Fault) → fault_number f ≡ 0 → ⊥
some_fault Malformed e = omega arith
some_fault OutOfRange e = omega arith
some_fault Repeated e = omega arith
some_fault Unlisted e = omega arith
some_fault Unused e = omega arith

pub at_fault : {j : Judged} (f : Fault) (rows : ℕ) → j ≡ record { fault = fault_number f; rows = rows } → IsAt j (record { fault = f; row = rows + 1 })
at_fault f rows e = (ap (λ (j : Judged). j.fault) e, ap (λ (j : Judged). j.rows + 1) (sym e))

pub missing_none : (fault : ℕ) (zones : Bool) (xs others : List Entry) (k : ℕ)
    → has (zone_column (not zones)) (column_of (zone_column zones) (entry_at xs k)) others ≡ true → missing fault zones xs others k ≡ 0
unfolding missing
missing_none fault zones xs others k e = rw e

pub missing_some : (fault : ℕ) (zones : Bool) (xs others : List Entry) (k : ℕ)
    → has (zone_column (not zones)) (column_of (zone_column zones) (entry_at xs k)) others ≡ false → missing fault zones xs others k ≡ fault
unfolding missing
missing_some fault zones xs others k e = rw e

-- Each row of a list that nothing is wrong with.
pub well_own : (zones : Bool) (s : List ℕ) → Well zones s → (k : ℕ) → k < length (entries_of zones s) → own_fault zones (entry_at (entries_of zones s) k) ≡ 0
well_own zones s h k l =
    own_sound zones (entries_of zones s) k (judged_none (row_fault zones (entries_of zones s)) (length (entries_of zones s)) 0 h k (omega arith) (omega arith))

-- Whether bytes are left, as the code asks it.
module _ {b : Bool} (s : List ℕ) (e : b ≡ eqb (length s) 0) where
  pub bytes_left : b ≡ false → 0 < length s
  bytes_left h = grind (arith, nat_tests)

  pub none_left : b ≡ true → length s < 1
  none_left h = grind (arith, nat_tests)

-- At a malformed row.
own_malformed : (zones : Bool) → own_fault zones none ≡ 51
unfolding site_fault zone_fault site_formed zone_formed is_some ◌and◌
own_malformed true = refl
own_malformed false = refl

module _ (zones : Bool) (s : List ℕ) (k : ℕ) (left : List ℕ) (p : Place zones s k left) (l : 0 < length left) (w : row_of (columns zones) left ≡ malformed) where
  abbrev broken : ℕ
  broken = own_fault zones (entry_at (entries_of zones s) k)

  is_broken : broken ≡ 51
  is_broken = ap (own_fault zones) (malformed_last zones s k left p l w).1 ∙ own_malformed zones

  broken_here : k < length (entries_of zones s)
  broken_here = (malformed_last zones s k left p l w).0

  pub broken_fits : k < length s
  broken_fits = omega (arith, broken_here, rows_short (columns zones) s)

  pub stop_malformed : judged_from (row_fault zones (entries_of zones s)) (length (entries_of zones s) - k) k ≡ record { fault = 51; rows = k }
  stop_malformed =
      let f : row_fault zones (entries_of zones s) k ≡ 51 = fault_own zones (entries_of zones s) k (λ z. omega (arith, is_broken, z)) ∙ is_broken in
      judge_stop (row_fault zones (entries_of zones s)) (length (entries_of zones s)) k broken_here (λ z. omega (arith, f, z)) ∙ ap (λ (x : ℕ). record { fault = x; rows = k }) f

  none_broken : Well zones s → ⊥
  none_broken h = omega (arith, is_broken, well_own zones s h k broken_here)

-- Where nothing is wrong with a list, the code reads a row.
pub well_read :
    (zones : Bool) (s : List ℕ) (k : ℕ) (left : List ℕ) → Place zones s k left → 0 < length left → Well zones s → (r : Option Row) → Reads (row_of (columns zones) left) r → IsSome r
well_read zones s k left p l h None w = absurd (none_broken zones s k left p l w h)
well_read zones s k left p l h (Some row) w = search rules

pub row_read : {w : Grammar.Row} {r : Option Row} {row : Row} → r ≡ Some row → Reads w r → ReadsRow w row
row_read e h = MatchOption-at_some _ _ _ e h

-- At a row that the code has read.
module _ (zones : Bool) (s : List ℕ) (k : ℕ) (left : List ℕ) (p : Place zones s k left) (r : Row) (l : 0 < length left) (h : ReadsRow (row_of (columns zones) left) r) where
  abbrev all : List Entry
  all = entries_of zones s

  abbrev this : Entry
  this = entry_at all k

  pub row_here : k < length all
  row_here = is_row zones s k left p r l h

  pub row_fits : k < length s
  row_fits = omega (arith, row_here, rows_short (columns zones) s)

  held : Holds this r
  held = row_held zones s k left p r l h

  bytes : OfBytes this
  bytes which = rows_bytes (columns zones) s k which

  pub row_next : Place zones s (k + 1) r.rest.now
  row_next = place_next zones s k left p r l h

  module _ (fault : ℕ) (e : (x : Entry) → Holds x r → OfBytes x → fault ≡ own_fault zones x) where
    is_own : fault ≡ own_fault zones this
    is_own = e this held bytes

    pub stop_own : (fault ≡ 0 → ⊥) → judged_from (row_fault zones all) (length all - k) k ≡ record { fault = fault; rows = k }
    stop_own n =
        let m : (own_fault zones this ≡ 0 → ⊥) = λ z. n (is_own ∙ z) in
        let f : row_fault zones all k ≡ fault = fault_own zones all k m ∙ sym is_own in
        judge_stop (row_fault zones all) (length all) k row_here (λ z. n (sym f ∙ z)) ∙ ap (λ (x : ℕ). record { fault = x; rows = k }) f

    module _ (z : fault ≡ 0) (found : Bool) (g : found ≡ any (λ x. same_value (gather (column_of 0 x)) r.first) (take k all)) where
      is_repeated : found ≡ repeated all k
      is_repeated = g ∙ repeated_alike zones s k r.first held.first_is (sym is_own ∙ z)

      pub stop_53 : found ≡ true → judged_from (row_fault zones all) (length all - k) k ≡ record { fault = 53; rows = k }
      stop_53 t =
          let f : row_fault zones all k ≡ 53 = fault_53 zones all k (sym is_own ∙ z) (sym is_repeated ∙ t) in
          judge_stop (row_fault zones all) (length all) k row_here (λ y. omega (arith, f, y)) ∙ ap (λ (x : ℕ). record { fault = x; rows = k }) f

      pub go_on : found ≡ false → judged_from (row_fault zones all) (length all - k) k ≡ judged_from (row_fault zones all) (length all - (k + 1)) (k + 1)
      go_on t = judge_on (row_fault zones all) (length all) k row_here (fault_0 zones all k (sym is_own ∙ z) (sym is_repeated ∙ t))

  module _ (other : List ℕ) (n which column fault : ℕ) (v : Value) (well : Well zones s) (size : n ≡ length (entries_of (not zones) other)) (some : fault ≡ 0 → ⊥)
      (own : column ≡ zone_column zones) (theirs : which ≡ zone_column (not zones)) (e : (x : Entry) → Holds x r → v ≡ gather (column_of column x)) (found : Bool)
      (g : found ≡ any (λ x. same_value (gather (column_of which x)) v) (take n (entries_of (not zones) other))) where
    abbrev others : List Entry
    others = entries_of (not zones) other

    abbrev f : ℕ → ℕ
    f = missing fault zones all others

    is_found : found ≡ has (zone_column (not zones)) (column_of (zone_column zones) this) others
    is_found =
        g
        ∙ zone_alike zones s other k n which v (e this held ∙ ap (λ (i : ℕ). gather (column_of i this)) own) (well_own zones s well k row_here) size theirs

    pub stop_missing : found ≡ false → judged_from f (length all - k) k ≡ record { fault = fault; rows = k }
    stop_missing t =
        let q : f k ≡ fault = missing_some fault zones all others k (sym is_found ∙ t) in
        judge_stop f (length all) k row_here (λ y. some (sym q ∙ y)) ∙ ap (λ (x : ℕ). record { fault = x; rows = k }) q

    pub go_listed : found ≡ true → judged_from f (length all - k) k ≡ judged_from f (length all - (k + 1)) (k + 1)
    go_listed t = judge_on f (length all) k row_here (missing_none fault zones all others k (sym is_found ∙ t))

-- With bytes left, the place is that of a row, whether the code reads it or not.
pub left_fits :
    (zones : Bool) (s : List ℕ) (k : ℕ) (left : List ℕ) → Place zones s k left → 0 < length left → (r : Option Row) → Reads (row_of (columns zones) left) r → k < length s
left_fits zones s k left p l None w = broken_fits zones s k left p l w
left_fits zones s k left p l (Some row) w = row_fits zones s k left p row l w

-- What the code's none or error tells.
pub unread : {w : Grammar.Row} {r : Option Row} → r ≡ None → Reads w r → w ≡ malformed
unread {r = None} e h = h
unread {r = Some row} e h = cc

pub err_is : {X E : Type 0} {d e : E} → ◌≡◌ {A = Result X E} (Err d) (Err e) → d ≡ e
err_is h = cc
