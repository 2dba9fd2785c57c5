-- RFC 4180's rules as they are printed (its section 2), each a relation between a text and what it stands for. Grammar.antt of `cells` reads by them; that
-- it reads these texts and no others is proved.
-- Assumes nothing.
use Rattle.std.specs.Prelude.{ℕ, ◌≡◌, true, List, [], ◌∷◌, ◌++◌}
use Rattle.cells.specs.Grammar.{comma, cr, lf, quote, is_text, may_stand, Record}

-- non-escaped = *TEXTDATA
pub data NonEscaped : List ℕ → Type 0 where
  nothing : NonEscaped []
  text : {b : ℕ} {bs : List ℕ} → is_text b ≡ true → NonEscaped bs → NonEscaped (b ∷ bs)

-- *(TEXTDATA / COMMA / CR / LF / 2DQUOTE), and the value that it stands for
pub data Within : List ℕ → List ℕ → Type 0 where
  nothing : Within [] []
  byte : {b : ℕ} {bs v : List ℕ} → may_stand b ≡ true → Within bs v → Within (b ∷ bs) (b ∷ v)
  quotes : {bs v : List ℕ} → Within bs v → Within (quote ∷ quote ∷ bs) (quote ∷ v)

-- field = (escaped / non-escaped), escaped = DQUOTE *(..) DQUOTE
pub data FieldText : List ℕ → List ℕ → Type 0 where
  non_escaped : {v : List ℕ} → NonEscaped v → FieldText v v
  escaped : {bs v : List ℕ} → Within bs v → FieldText (quote ∷ (bs ++ (quote ∷ []))) v

-- record = field *(COMMA field)
pub data RecordText : List ℕ → Record → Type 0 where
  lone : {f v : List ℕ} → FieldText f v → RecordText f (v ∷ [])
  joined : {f v r : List ℕ} {vs : Record} → FieldText f v → RecordText r vs → RecordText (f ++ (comma ∷ r)) (v ∷ vs)

-- file = record *(CRLF record) [CRLF]; "no headers". A last CRLF begins no further record.
pub data FileText : List ℕ → List Record → Type 0 where
  last : {r : List ℕ} {vs : Record} → RecordText r vs → FileText r (vs ∷ [])
  ended : {r : List ℕ} {vs : Record} → RecordText r vs → FileText (r ++ (cr ∷ lf ∷ [])) (vs ∷ [])
  more : {r s : List ℕ} {vs w : Record} {ws : List Record} → RecordText r vs → FileText s (w ∷ ws) → FileText (r ++ (cr ∷ lf ∷ s)) (vs ∷ w ∷ ws)
