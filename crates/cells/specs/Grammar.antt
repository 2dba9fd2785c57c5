-- RFC 4180's grammar (its section 2), read from the front of a list of bytes: fields, records, and the rows of a list without header.
-- "A crate above the library reads two lists by RFC 4180's grammar" (document 02, T-07).
-- Assumes nothing.
use Rattle.std.specs.Prelude.{ℕ, zero, suc, Bool, true, false, cond, List, [], ◌∷◌, leb, eqb, length, get_or}
use Rattle.std.proofs.Math.Option.{Option, none, some}
use Rattle.plpb.specs.Lists.{◌and◌, ◌or◌}

-- COMMA = %x2C, CR = %x0D, DQUOTE = %x22, LF = %x0A
abbrev pub comma : ℕ
comma = 44

abbrev pub cr : ℕ
cr = 13

abbrev pub quote : ℕ
quote = 34

abbrev pub lf : ℕ
lf = 10

-- TEXTDATA = %x20-21 / %x23-2B / %x2D-7E
unfoldable pub is_text : ℕ → Bool
is_text b = (leb 32 b and leb b 33) or (leb 35 b and leb b 43) or (leb 45 b and leb b 126)

-- A field at the front of a list: the value, and the bytes behind the field; or there is none.
pub data Field : Type 0 where
  broken : Field
  field : List ℕ → List ℕ → Field

-- A field whose value has one byte more at its front.
unfoldable pub before : ℕ → Field → Field
before b broken = broken
before b (field value rest) = field (b ∷ value) rest

-- non-escaped = *TEXTDATA
unfoldable pub plain : List ℕ → Field
plain [] = field [] []
plain (b ∷ bs) = cond (is_text b) (before b (plain bs)) (field [] (b ∷ bs))

-- TEXTDATA / COMMA / CR / LF
unfoldable pub may_stand : ℕ → Bool
may_stand b = is_text b or eqb b comma or eqb b cr or eqb b lf

-- escaped = DQUOTE *(TEXTDATA / COMMA / CR / LF / 2DQUOTE) DQUOTE, behind its first quote. Behind another quote it is told by the next byte
-- whether the two stand for one or the field is closed: `true` says that the byte before was such a quote.
unfoldable pub in_quotes : Bool → List ℕ → Field
in_quotes false [] = broken
in_quotes true [] = field [] []
in_quotes false (b ∷ bs) =
    cond (eqb b quote) (in_quotes true bs) (cond (may_stand b) (before b (in_quotes false bs)) broken)
in_quotes true (b ∷ bs) = cond (eqb b quote) (before quote (in_quotes false bs)) (field [] (b ∷ bs))

-- field = (escaped / non-escaped)
unfoldable pub field_of : List ℕ → Field
field_of [] = field [] []
field_of (b ∷ bs) = cond (eqb b quote) (in_quotes false bs) (plain (b ∷ bs))

-- A field with the comma behind it.
unfoldable pub with_comma : Field → Field
with_comma broken = broken
with_comma (field value []) = broken
with_comma (field value (b ∷ rest)) = cond (eqb b comma) (field value rest) broken

-- A field with what ends its record: CRLF, or the end of the list.
unfoldable pub with_end : Field → Field
with_end broken = broken
with_end (field value []) = field value []
with_end (field value (b ∷ [])) = broken
with_end (field value (b ∷ c ∷ rest)) = cond (eqb b cr and eqb c lf) (field value rest) broken

-- The values of a record's fields.
abbrev pub Record : Type 0
Record = List (List ℕ)

-- A record at the front of a list with what ends it, and the bytes behind; or there is none of as many fields.
pub data Row : Type 0 where
  malformed : Row
  row : Record → List ℕ → Row

-- A record whose last field this is.
unfoldable pub lone : Field → Row
lone broken = malformed
lone (field value rest) = row (value ∷ []) rest

unfoldable pub before_row : List ℕ → Row → Row
before_row value malformed = malformed
before_row value (row values rest) = row (value ∷ values) rest

-- A field, and the rest of its record read from behind it.
unfoldable pub leading : Field → (List ℕ → Row) → Row
leading broken more = malformed
leading (field value rest) more = before_row value (more rest)

-- record = field *(COMMA field), of k fields
unfoldable pub row_of : ℕ → List ℕ → Row
row_of zero s = malformed
row_of (suc zero) s = lone (with_end (field_of s))
row_of (suc (suc k)) s = leading (with_comma (field_of s)) (row_of (suc k))

-- What a row holds: the values of its record, or none where it is malformed. What follows a malformed row cannot be told.
unfoldable pub values_in : Row → Option Record
values_in malformed = none
values_in (row values rest) = some values

unfoldable pub behind_row : Row → List ℕ
behind_row malformed = []
behind_row (row values rest) = rest

-- file = record *(CRLF record) [CRLF], of records of k fields; "no headers, and an empty list has no row". A row takes a byte at least, so that
-- there are no more rows than bytes.
unfoldable pub rows_in : ℕ → ℕ → List ℕ → List (Option Record)
rows_in k zero s = []
rows_in k (suc left) [] = []
rows_in k (suc left) (b ∷ bs) = values_in (row_of k (b ∷ bs)) ∷ rows_in k left (behind_row (row_of k (b ∷ bs)))

unfoldable pub rows_of : ℕ → List ℕ → List (Option Record)
rows_of k s = rows_in k (length s) s

-- The value in a column, from 0; empty in a malformed row.
unfoldable pub column_of : ℕ → Option Record → List ℕ
column_of which none = []
column_of which (some values) = get_or values which []

-- Two lists of bytes are the same.
unfoldable pub same_bytes : List ℕ → List ℕ → Bool
same_bytes [] [] = true
same_bytes [] (c ∷ cs) = false
same_bytes (b ∷ bs) [] = false
same_bytes (b ∷ bs) (c ∷ cs) = eqb b c and same_bytes bs cs
