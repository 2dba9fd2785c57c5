-- The values that the grammar reads consist of bytes: the text of fields does, and what else may stand in quotes.
-- Assumes nothing.
use Prim.Native.Nat.{ℕ, zero, suc, ◌<◌}
use native.Mathlib.Omega.{arith}
use native.Mathlib.Decide.{dec_lt}
use mathlib.Core.Path.{◌≡◌, refl, sym, ◌∙◌}
use mathlib.Core.Bool.{Bool, true, false, cond, true≢false}
use mathlib.Core.List.{List, [], ◌∷◌}
use mathlib.Core.Option.{Option, none, some}
use lib.Dec.{eqb, leb, ltb}
use lib.ListN.{length, get_or}
use borrow.Author.Tests.{lt-leb, lt-ltb, eqb-true}
use Rattle.plpb.specs.Lists.{◌and◌, ◌or◌, all}
use Rattle.format.proofs.Bools.{and_left, and_right, and_join, and_false}
use Rattle.cells.specs.Grammar.{is_text, may_stand, quote, comma, cr, lf, Field, broken, field, before, plain, in_quotes, field_of, with_comma, with_end, Record, Row, malformed, row, lone, before_row, leading, row_of, values_in, behind_row, rows_in, rows_of, column_of}
use Rattle.lists.proofs.Values.{Bytes}

small : ℕ → Bool
small b = ltb b 256

text_small : (b : ℕ) → is_text b ≡ true → small b ≡ true
unfolding small is_text ◌or◌
text_small b h = go (dec_lt b 256)
  where
    go : Dec (b < 256) → ltb b 256 ≡ true
    go (yes l) = lt-ltb b 256 l
    go (no l) =
        let e =
        and_false (leb 32 b) (leb b 33) (lt-leb b 33 (omega arith)) in
        let f = and_false (leb 35 b) (leb b 43) (lt-leb b 43 (omega arith)) in
        let g = and_false (leb 45 b) (leb b 126) (lt-leb b 126 (omega arith)) in
        absurd (true≢false (sym h ∙ rw (e, f, g) refl))

or_cases : (a b : Bool) → (a or b) ≡ true → {X : Type 0} → (a ≡ true → X) → (b ≡ true → X) → X
unfolding ◌or◌
or_cases true b h f g = f refl
or_cases false b h f g = g h

byte_is : (b k : ℕ) → eqb b k ≡ true → k < 256 → small b ≡ true
unfolding small
byte_is b k h l = let e = eqb-true b k h in lt-ltb b 256 (omega arith)

stands_small : (b : ℕ) → may_stand b ≡ true → small b ≡ true
unfolding may_stand
stands_small b h =
    or_cases _ _ h
    (λ i. or_cases _ _ i (λ j. or_cases _ _ j (text_small b) (λ k. byte_is b comma k (omega arith))) (λ k. byte_is b cr k (omega arith)))
    (λ k. byte_is b lf k (omega arith))

-- ---- fields

abbrev value_in : Field → List ℕ
value_in broken = []
value_in (field v rest) = v

nothing : Bytes []
unfolding all
nothing = refl

before_bytes : (b : ℕ) (f : Field) → small b ≡ true → Bytes (value_in f) → Bytes (value_in (before b f))
unfolding before all small
before_bytes b broken h k = refl
before_bytes b (field v rest) h k = and_join _ _ h k

plain_bytes : (s : List ℕ) → Bytes (value_in (plain s))
unfolding plain
plain_bytes [] = nothing
plain_bytes (b ∷ bs) = go (is_text b) refl (plain_bytes bs)
  where
    go : (t : Bool) → is_text b ≡ t → Bytes (value_in (plain bs)) → Bytes (value_in (cond t (before b (plain bs)) (field [] (b ∷ bs))))
    go true e h = before_bytes b (plain bs) (text_small b e) h
    go false e h = nothing

quotes_bytes : (closing : Bool) (s : List ℕ) → Bytes (value_in (in_quotes closing s))
unfolding in_quotes
quotes_bytes false [] = nothing
quotes_bytes true [] = nothing
quotes_bytes false (b ∷ bs) = go (eqb b quote) (may_stand b) refl (quotes_bytes true bs) (quotes_bytes false bs)
  where
    go : (q t : Bool) → may_stand b ≡ t → Bytes (value_in (in_quotes true bs)) → Bytes (value_in (in_quotes false bs))
        → Bytes (value_in (cond q (in_quotes true bs) (cond t (before b (in_quotes false bs)) broken)))
    go true t e h k = h
    go false true e h k = before_bytes b (in_quotes false bs) (stands_small b e) k
    go false false e h k = nothing
quotes_bytes true (b ∷ bs) = go (eqb b quote) (quotes_bytes false bs)
  where
    go : (q : Bool) → Bytes (value_in (in_quotes false bs)) → Bytes (value_in (cond q (before quote (in_quotes false bs)) (field [] (b ∷ bs))))
    go true h = before_bytes quote (in_quotes false bs) (byte_is quote quote refl (omega arith)) h
    go false h = nothing

field_bytes : (s : List ℕ) → Bytes (value_in (field_of s))
unfolding field_of
field_bytes [] = nothing
field_bytes (b ∷ bs) = go (eqb b quote)
  where
    go : (q : Bool) → Bytes (value_in (cond q (in_quotes false bs) (plain (b ∷ bs))))
    go true = quotes_bytes false bs
    go false = plain_bytes (b ∷ bs)

-- ---- rows

record_bytes : Record → Bool
record_bytes = all (all (λ b. ltb b 256))

abbrev values_of : Row → Record
values_of malformed = []
values_of (row values rest) = values

no_values : record_bytes [] ≡ true
unfolding record_bytes all
no_values = refl

before_row_lem : (v : List ℕ) (r : Row) → Bytes v → record_bytes (values_of r) ≡ true → record_bytes (values_of (before_row v r)) ≡ true
unfolding before_row record_bytes all
before_row_lem v malformed h k = refl
before_row_lem v (row values rest) h k = and_join _ _ h k

lone_bytes : (f : Field) → Bytes (value_in f) → record_bytes (values_of (lone (with_end f))) ≡ true
unfolding lone with_end record_bytes all
lone_bytes broken h = refl
lone_bytes (field v []) h = and_join _ _ h refl
lone_bytes (field v (b ∷ [])) h = refl
lone_bytes (field v (b ∷ c ∷ rest)) h = go (eqb b cr and eqb c lf)
  where
    go : (t : Bool) → all (all (λ b. ltb b 256)) (values_of (lone (cond t (field v rest) broken))) ≡ true
    go true = and_join _ _ h refl
    go false = refl

leading_bytes : (f : Field) (more : List ℕ → Row) → Bytes (value_in f) → ((t : List ℕ) → record_bytes (values_of (more t)) ≡ true) → record_bytes (values_of (leading (with_comma f) more)) ≡ true
unfolding leading with_comma
leading_bytes broken more h k = no_values
leading_bytes (field v []) more h k = no_values
leading_bytes (field v (b ∷ rest)) more h k = go (eqb b comma)
  where
    go : (t : Bool) → record_bytes (values_of (leading (cond t (field v rest) broken) more)) ≡ true
    go true = before_row_lem v (more rest) h (k rest)
    go false = no_values

row_bytes : (k : ℕ) (s : List ℕ) → record_bytes (values_of (row_of k s)) ≡ true
unfolding row_of
row_bytes zero s = no_values
row_bytes (suc zero) s = lone_bytes (field_of s) (field_bytes s)
row_bytes (suc (suc k)) s = leading_bytes (field_of s) (row_of (suc k)) (field_bytes s) (row_bytes (suc k))

entry_bytes : Option Record → Bool
entry_bytes none = true
entry_bytes (some values) = record_bytes values

entry_bytes_lem : (r : Row) → record_bytes (values_of r) ≡ true → entry_bytes (values_in r) ≡ true
unfolding values_in entry_bytes
entry_bytes_lem malformed h = refl
entry_bytes_lem (row values rest) h = h

rows_in_bytes : (k i : ℕ) (s : List ℕ) → all entry_bytes (rows_in k i s) ≡ true
unfolding rows_in all
rows_in_bytes k zero s = refl
rows_in_bytes k (suc i) [] = refl
rows_in_bytes k (suc i) (b ∷ bs) = and_join _ _ (entry_bytes_lem _ (row_bytes k (b ∷ bs))) (rows_in_bytes k i (behind_row (row_of k (b ∷ bs))))

column_in : (which : ℕ) (values : Record) → record_bytes values ≡ true → Bytes (get_or values which [])
unfolding record_bytes all
column_in which [] h = refl
column_in zero (v ∷ vs) h = and_left _ _ h
column_in (suc which) (v ∷ vs) h = column_in which vs (and_right _ _ h)

column_bytes : (which : ℕ) (x : Option Record) → entry_bytes x ≡ true → Bytes (column_of which x)
unfolding column_of entry_bytes
column_bytes which none h = nothing
column_bytes which (some values) h = column_in which values h

at_bytes : (xs : List (Option Record)) (k : ℕ) → all entry_bytes xs ≡ true → entry_bytes (get_or xs k none) ≡ true
unfolding all entry_bytes
at_bytes [] k h = refl
at_bytes (x ∷ xs) zero h = and_left _ _ h
at_bytes (x ∷ xs) (suc k) h = at_bytes xs k (and_right _ _ h)

-- Every column of every row.
pub rows_bytes : (n : ℕ) (s : List ℕ) (k which : ℕ) → Bytes (column_of which (get_or (rows_of n s) k none))
unfolding rows_of
rows_bytes n s k which = column_bytes which _ (at_bytes (rows_in n (length s) s) k (rows_in_bytes n (length s) s))
