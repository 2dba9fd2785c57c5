-- Every text of the rules is read as what it stands for.
-- Assumes nothing.
use Prim.Native.Nat.{ℕ, suc, ◌+◌, ◌≤◌, ◌<◌}
use native.Mathlib.Omega.{arith}
use mathlib.Core.Path.{◌≡◌, refl, sym, ap, ◌∙◌}
use mathlib.Core.Bool.{Bool, true, false, true≢false}
use mathlib.Core.List.{List, [], ◌∷◌, ◌++◌, map, append_assoc, append-nil}
use mathlib.Core.Option.{Option, some}
use lib.Dec.{eqb}
use lib.ListN.{length, length-append}
use borrow.Author.Tests.{eqb-true, ne_eqb}
use Rattle.plpb.specs.Lists.{◌and◌, ◌or◌, all}
use Rattle.cells.specs.Grammar.{comma, cr, lf, quote, is_text, may_stand, field, before, plain, in_quotes, field_of, with_comma, with_end, Record, Row, row, lone, before_row, leading, row_of, values_in, behind_row, rows_of}
use Rattle.abnf.proofs.Bools.{and_left, and_right}
use Rattle.rows.specs.Reading.{columns}
use Rattle.rows.proofs.Rows.{next_row, no_row_lem}
use Rattle.abnf.specs.Abnf as Abnf
use Rattle.abnf.specs.Abnf.{NonEscaped, Within, FieldText, RecordText, FileText}

-- A quote is no text and may not stand alone in quotes.
quote_no_text : is_text quote ≡ false
unfolding is_text ◌and◌ ◌or◌
quote_no_text = refl

quote_no_stand : may_stand quote ≡ false
unfolding may_stand is_text ◌and◌ ◌or◌
quote_no_stand = refl

text_no_quote : (b : ℕ) → is_text b ≡ true → eqb b quote ≡ false
text_no_quote b h = ne_eqb b quote (λ e. true≢false (sym h ∙ ap is_text e ∙ quote_no_text))

stand_no_quote : (b : ℕ) → may_stand b ≡ true → eqb b quote ≡ false
stand_no_quote b h = ne_eqb b quote (λ e. true≢false (sym h ∙ ap may_stand e ∙ quote_no_stand))

-- What follows a field: nothing, a comma or CRLF.
data After : List ℕ → Type 0 where
  no_more : After []
  comma_next : {r : List ℕ} → After (comma ∷ r)
  cr_next : {r : List ℕ} → After (cr ∷ r)

-- ---- every text is read

plain_after : (rest : List ℕ) → After rest → plain rest ≡ field [] rest
unfolding plain is_text ◌and◌ ◌or◌
plain_after [] no_more = refl
plain_after (b ∷ r) comma_next = refl
plain_after (b ∷ r) cr_next = refl

plain_reads : {v : List ℕ} → NonEscaped v → (rest : List ℕ) → After rest → plain (v ++ rest) ≡ field v rest
unfolding plain before
plain_reads Abnf.nothing rest a = plain_after rest a
plain_reads (Abnf.text h n) rest a = rw (h, plain_reads n rest a)

closed_after : (rest : List ℕ) → After rest → in_quotes true rest ≡ field [] rest
unfolding in_quotes
closed_after [] no_more = refl
closed_after (b ∷ r) comma_next = refl
closed_after (b ∷ r) cr_next = refl

within_reads : {bs v : List ℕ} → Within bs v → (rest : List ℕ) → After rest → in_quotes false (bs ++ (quote ∷ rest)) ≡ field v rest
unfolding in_quotes before
within_reads Abnf.nothing rest a = closed_after rest a
within_reads (Abnf.byte {b = b} h w) rest a = rw (stand_no_quote b h, h, within_reads w rest a)
within_reads (Abnf.quotes w) rest a = rw (within_reads w rest a)

first_after : (rest : List ℕ) → After rest → field_of rest ≡ field [] rest
unfolding field_of plain is_text ◌and◌ ◌or◌
first_after [] no_more = refl
first_after (b ∷ r) comma_next = refl
first_after (b ∷ r) cr_next = refl

field_reads : {f v : List ℕ} → FieldText f v → (rest : List ℕ) → After rest → field_of (f ++ rest) ≡ field v rest
unfolding field_of
field_reads (Abnf.non_escaped Abnf.nothing) rest a = first_after rest a
field_reads (Abnf.non_escaped (Abnf.text {b = b} h n)) rest a = rw (text_no_quote b h) (plain_reads (Abnf.text h n) rest a)
field_reads (Abnf.escaped {bs = bs} w) rest a = rw (append_assoc bs (quote ∷ []) rest) (within_reads w rest a)

-- What ends a record, and what stands behind that.
pub data Ending : List ℕ → List ℕ → Type 0 where
  at_end : Ending [] []
  crlf : {s : List ℕ} → Ending (cr ∷ lf ∷ s) s

ending_after : {end rest : List ℕ} → Ending end rest → After end
ending_after at_end = no_more
ending_after crlf = cr_next

some_field : {r : List ℕ} {vs : Record} → RecordText r vs → (k : ℕ) × (length vs ≡ suc k)
some_field (Abnf.lone f) = (0, refl)
some_field (Abnf.joined {vs = vs} f r) = (length vs, refl)

ended_field : (v end rest : List ℕ) → Ending end rest → with_end (field v end) ≡ field v rest
unfolding with_end ◌and◌
ended_field v [] [] at_end = refl
ended_field v [] (_ ∷ _) x4 = elim x4 [ ]
ended_field v (a ∷ []) t x4 = elim x4 [ ]
ended_field v (a ∷ b ∷ s) t crlf = refl

joined_field : (v rest : List ℕ) → with_comma (field v (comma ∷ rest)) ≡ field v rest
unfolding with_comma
joined_field v rest = refl

one_read : (s v rest : List ℕ) → with_end (field_of s) ≡ field v rest → row_of 1 s ≡ row (v ∷ []) rest
unfolding row_of lone
one_read s v rest e = rw e

more_read : (k : ℕ) (s v t rest : List ℕ) (vs : Record) → with_comma (field_of s) ≡ field v t → row_of (suc k) t ≡ row vs rest → row_of (suc (suc k)) s ≡ row (v ∷ vs) rest
unfolding row_of leading before_row
more_read k s v t rest vs e f = rw (e, f)

pub record_reads : {r : List ℕ} {vs : Record} → RecordText r vs → (end rest : List ℕ) → Ending end rest → row_of (length vs) (r ++ end) ≡ row vs rest
record_reads (Abnf.lone {f = f} {v = v} t) end rest e =
    one_read (f ++ end) v rest (ap with_end (field_reads t end (ending_after e)) ∙ ended_field v end rest e)
record_reads (Abnf.joined {f = f} {v = v} {r = r} {vs = vs} t u) end rest e =
    let s = some_field u in
    let here : with_comma (field_of ((f ++ (comma ∷ r)) ++ end)) ≡ field v (r ++ end) =
    ap (λ (l : List ℕ). with_comma (field_of l)) (append_assoc f (comma ∷ r) end)
    ∙ ap with_comma (field_reads t (comma ∷ (r ++ end)) comma_next)
    ∙ joined_field v (r ++ end) in
    let later : row_of (suc s.0) (r ++ end) ≡ row vs rest = ap (λ (k : ℕ). row_of k (r ++ end)) (sym s.1) ∙ record_reads u end rest e in
    ap (λ (k : ℕ). row_of (suc k) ((f ++ (comma ∷ r)) ++ end)) s.1
    ∙ more_read s.0 ((f ++ (comma ∷ r)) ++ end) v (r ++ end) rest vs here later

-- A record of two fields or more has a byte.
record_long : {r : List ℕ} {vs : Record} → RecordText r vs → 2 ≤ length vs → 0 < length r
record_long (Abnf.lone f) h = absurd (omega arith)
record_long (Abnf.joined {f = f} {r = r} t u) h = omega (arith, length-append f (comma ∷ r))

pub rows_step : (four : Bool) (s rest : List ℕ) (vs : Record) → 0 < length s → row_of (columns four) s ≡ row vs rest → rows_of (columns four) s ≡ some vs ∷ rows_of (columns four) rest
unfolding values_in behind_row
rows_step four s rest vs l e =
    next_row four s l ∙ ap (λ (w : Row). values_in w ∷ rows_of (columns four) (behind_row w)) e

two_at_least : (four : Bool) → 2 ≤ columns four
two_at_least true = omega arith
two_at_least false = omega arith

-- Records of so many fields.
abbrev pub Wide : Bool → List Record → Type 0
Wide four rs = all (λ vs. eqb (length vs) (columns four)) rs ≡ true

module _ (four : Bool) where
  one_row : {r : List ℕ} {vs : Record} (end rest : List ℕ) → RecordText r vs → eqb (length vs) (columns four) ≡ true → Ending end rest
      → rows_of (columns four) (r ++ end) ≡ some vs ∷ rows_of (columns four) rest
  one_row {r} {vs} end rest t h e =
      let n = eqb-true (length vs) (columns four) h in
      let long : 0 < length r = record_long t (omega (arith, n, two_at_least four)) in
      rows_step four (r ++ end) rest vs (omega (arith, length-append r end, long)) (ap (λ (k : ℕ). row_of k (r ++ end)) (sym n) ∙ record_reads t end rest e)

  -- Every text of the rules, of records of three fields or of four, is read as its records.
  pub file_reads : {s : List ℕ} {rs : List Record} → FileText s rs → Wide four rs → rows_of (columns four) s ≡ map some rs
  unfolding all
  file_reads (Abnf.last {r = r} {vs = vs} t) h =
      ap (rows_of (columns four)) (sym (append-nil r))
      ∙ one_row [] [] t (and_left _ _ h) at_end
      ∙ ap (λ (l : List (Option Record)). some vs ∷ l) (no_row_lem (columns four))
  file_reads (Abnf.ended {vs = vs} t) h = one_row (cr ∷ lf ∷ []) [] t (and_left _ _ h) crlf ∙ ap (λ (l : List (Option Record)). some vs ∷ l) (no_row_lem (columns four))
  file_reads (Abnf.more {s = s} {vs = vs} t u) h =
      one_row (cr ∷ lf ∷ s) s t (and_left _ _ h) crlf ∙ ap (λ (l : List (Option Record)). some vs ∷ l) (file_reads u (and_right _ _ h))
