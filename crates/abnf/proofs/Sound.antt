-- Nothing but the texts of the rules is read.
-- Assumes nothing.
use Prim.Native.Nat.{ℕ, zero, suc, ◌+◌, ◌<◌}
use native.Mathlib.Omega.{arith}
use mathlib.Core.Path.{◌≡◌, refl, sym, ap, ap₂, ◌∙◌}
use mathlib.Core.Bool.{Bool, true, false, cond}
use mathlib.Core.List.{List, [], ◌∷◌, ◌++◌, map, append_assoc, append-nil}
use mathlib.Core.Option.{Option, none, some}
use lib.Dec.{eqb}
use lib.ListN.{length}
use borrow.Author.Tests.{eqb-true, eq-eqb}
use Rattle.plpb.specs.Lists.{◌and◌, all}
use Rattle.cells.specs.Grammar.{comma, cr, lf, quote, is_text, may_stand, Field, broken, field, before, plain, in_quotes, field_of, with_comma, with_end, Record, Row, malformed, row, lone, before_row, leading, row_of, values_in, behind_row, rows_of}
use Rattle.rows.specs.Reading.{columns}
use Rattle.rows.proofs.Rows.{next_row, no_row_lem}
use Rattle.abnf.specs.Abnf as Abnf
use Rattle.abnf.specs.Abnf.{NonEscaped, Within, FieldText, RecordText, FileText}
use Rattle.abnf.proofs.Bools.{and_left, and_right, and_join}
use Rattle.abnf.proofs.Complete.{Ending, at_end, crlf, Wide}

-- A field with one byte more at its front: the byte, and the field without it.
abbrev Shorter : ℕ → Field → List ℕ → List ℕ → Type 0
Shorter b g v rest = (w : List ℕ) × (g ≡ field w rest) × (v ≡ b ∷ w)

before_field : (b : ℕ) (g : Field) (v rest : List ℕ) → before b g ≡ field v rest → Shorter b g v rest
unfolding before
before_field b broken v rest e = absurd (nothing e)
  where
    nothing : broken ≡ field v rest → ⊥
    nothing q = let z : ◌≡◌ {A = ℕ} 0 1 = cc in omega arith
before_field b (field w t) v rest e =
    let p : b ∷ w ≡ v = cc in
    let q : t ≡ rest = cc in
    (w, ap (field w) q, sym p)

-- ---- fields

plain_sound : (s v rest : List ℕ) → plain s ≡ field v rest → NonEscaped v × (s ≡ v ++ rest)
unfolding plain
plain_sound [] v rest e =
    let p : [] ≡ v = cc in
    let q : [] ≡ rest = cc in
    rw (← p, ← q) (Abnf.nothing, refl)
plain_sound (b ∷ bs) v rest e = go (is_text b) refl e (plain_sound bs)
  where
    go : (t : Bool) → is_text b ≡ t → cond t (before b (plain bs)) (field [] (b ∷ bs)) ≡ field v rest
        → ((w u : List ℕ) → plain bs ≡ field w u → NonEscaped w × (bs ≡ w ++ u)) → NonEscaped v × (b ∷ bs ≡ v ++ rest)
    go true h f more =
        let x = before_field b (plain bs) v rest f in
        let y = more x.0 rest x.1 in
        rw x.2 (Abnf.text h y.0, ap (λ (l : List ℕ). b ∷ l) y.1)
    go false h f more =
        let p : [] ≡ v = cc in
        let q : b ∷ bs ≡ rest = cc in
        rw (← p, ← q) (Abnf.nothing, refl)

-- In quotes: the text up to the closing quote; behind a quote that may close, with that quote.
abbrev Inside : List ℕ → List ℕ → List ℕ → Type 0
Inside s v rest = (bs : List ℕ) × Within bs v × (s ≡ bs ++ (quote ∷ rest))

quotes_sound : (closing : Bool) (s v rest : List ℕ) → in_quotes closing s ≡ field v rest → Inside (cond closing (quote ∷ s) s) v rest
unfolding in_quotes
quotes_sound false [] v rest e = absurd (no e)
  where
    no : broken ≡ field v rest → ⊥
    no q = let z : ◌≡◌ {A = ℕ} 0 1 = cc in omega arith
quotes_sound true [] v rest e =
    let p : [] ≡ v = cc in
    let q : [] ≡ rest = cc in
    rw (← p, ← q) ([], Abnf.nothing, refl)
quotes_sound false (b ∷ bs) v rest e = go (eqb b quote) refl (may_stand b) refl e (quotes_sound true bs v rest) (λ w. quotes_sound false bs w rest)
  where
    go : (q : Bool) → eqb b quote ≡ q → (t : Bool) → may_stand b ≡ t → cond q (in_quotes true bs) (cond t (before b (in_quotes false bs)) broken) ≡ field v rest
        → (in_quotes true bs ≡ field v rest → Inside (quote ∷ bs) v rest) → ((w : List ℕ) → in_quotes false bs ≡ field w rest → Inside bs w rest)
        → Inside (b ∷ bs) v rest
    go true k t h f closed more = let x = closed f in rw (eqb-true b quote k) x
    go false k true h f closed more =
        let x = before_field b (in_quotes false bs) v rest f in
        let y = more x.0 x.1 in
        rw x.2 (b ∷ y.0, Abnf.byte h y.1, ap (λ (l : List ℕ). b ∷ l) y.2)
    go false k false h f closed more = absurd (no f)
      where
        no : broken ≡ field v rest → ⊥
        no q = let z : ◌≡◌ {A = ℕ} 0 1 = cc in omega arith
quotes_sound true (b ∷ bs) v rest e = go (eqb b quote) refl e (λ w. quotes_sound false bs w rest)
  where
    go : (q : Bool) → eqb b quote ≡ q → cond q (before quote (in_quotes false bs)) (field [] (b ∷ bs)) ≡ field v rest
        → ((w : List ℕ) → in_quotes false bs ≡ field w rest → Inside bs w rest) → Inside (quote ∷ b ∷ bs) v rest
    go true k f more =
        let x = before_field quote (in_quotes false bs) v rest f in
        let y = more x.0 x.1 in
        rw (x.2, eqb-true b quote k) (quote ∷ quote ∷ y.0, Abnf.quotes y.1, ap (λ (l : List ℕ). quote ∷ quote ∷ l) y.2)
    go false k f more =
        let p : [] ≡ v = cc in
        let q : b ∷ bs ≡ rest = cc in
        rw (← p, ← q) ([], Abnf.nothing, refl)

abbrev Text : List ℕ → List ℕ → List ℕ → Type 0
Text s v rest = (f : List ℕ) × FieldText f v × (s ≡ f ++ rest)

field_sound : (s v rest : List ℕ) → field_of s ≡ field v rest → Text s v rest
unfolding field_of
field_sound [] v rest e =
    let p : [] ≡ v = cc in
    let q : [] ≡ rest = cc in
    rw (← p, ← q) ([], Abnf.non_escaped Abnf.nothing, refl)
field_sound (b ∷ bs) v rest e = go (eqb b quote) refl e
  where
    go : (q : Bool) → eqb b quote ≡ q → cond q (in_quotes false bs) (plain (b ∷ bs)) ≡ field v rest → Text (b ∷ bs) v rest
    go true k f =
        let x = quotes_sound false bs v rest f in (
          quote ∷ (x.0 ++ (quote ∷ [])),
          Abnf.escaped x.1,
          ap₂ (λ (c : ℕ) (l : List ℕ). c ∷ l) (eqb-true b quote k) (x.2 ∙ sym (append_assoc x.0 (quote ∷ []) rest)),
        )
    go false k f = let x = plain_sound (b ∷ bs) v rest f in (v, Abnf.non_escaped x.0, x.1)

-- ---- records

no_field : {v rest : List ℕ} → broken ≡ field v rest → ⊥
no_field q = let z : ◌≡◌ {A = ℕ} 0 1 = cc in omega arith

no_row_here : {vs : Record} {rest : List ℕ} → malformed ≡ row vs rest → ⊥
no_row_here q = let z : ◌≡◌ {A = ℕ} 0 1 = cc in omega arith

-- A field with its comma, and a last field with what ends the row.
comma_sound : (g : Field) (v rest : List ℕ) → with_comma g ≡ field v rest → g ≡ field v (comma ∷ rest)
unfolding with_comma
comma_sound broken v rest e = absurd (no_field e)
comma_sound (field w []) v rest e = absurd (no_field e)
comma_sound (field w (b ∷ t)) v rest e = go (eqb b comma) refl e
  where
    go : (q : Bool) → eqb b comma ≡ q → cond q (field w t) broken ≡ field v rest → field w (b ∷ t) ≡ field v (comma ∷ rest)
    go true k f =
        let p : w ≡ v = cc in
        let q : t ≡ rest = cc in
        rw (p, q, eqb-true b comma k)
    go false k f = absurd (no_field f)

abbrev Ends : Field → List ℕ → List ℕ → Type 0
Ends g v rest = (stop : List ℕ) × (g ≡ field v stop) × Ending stop rest

end_sound : (g : Field) (v rest : List ℕ) → with_end g ≡ field v rest → Ends g v rest
unfolding with_end
end_sound broken v rest e = absurd (no_field e)
end_sound (field w []) v rest e =
    let p : w ≡ v = cc in
    let q : [] ≡ rest = cc in
    rw (p, ← q) ([], refl, at_end)
end_sound (field w (b ∷ [])) v rest e = absurd (no_field e)
end_sound (field w (b ∷ c ∷ t)) v rest e = go (eqb b cr and eqb c lf) refl e
  where
    go : (q : Bool) → (eqb b cr and eqb c lf) ≡ q → cond q (field w t) broken ≡ field v rest → Ends (field w (b ∷ c ∷ t)) v rest
    go true k f =
        let p : w ≡ v = cc in
        let q : t ≡ rest = cc in
        rw (p, q, eqb-true b cr (and_left _ _ k), eqb-true c lf (and_right _ _ k)) (cr ∷ lf ∷ rest, refl, crlf)
    go false k f = absurd (no_field f)

abbrev Recorded : List ℕ → Record → List ℕ → Type 0
Recorded s vs rest = (r : List ℕ) × (stop : List ℕ) × RecordText r vs × Ending stop rest × (s ≡ r ++ stop)

lone_sound : (g : Field) (vs : Record) (rest : List ℕ) → lone g ≡ row vs rest → (v : List ℕ) × (g ≡ field v rest) × (vs ≡ v ∷ [])
unfolding lone
lone_sound broken vs rest e = absurd (no_row_here e)
lone_sound (field v t) vs rest e =
    let p : v ∷ [] ≡ vs = cc in
    let q : t ≡ rest = cc in
    (v, ap (field v) q, sym p)

leading_sound :
    (g : Field) (more : List ℕ → Row) (vs : Record) (rest : List ℕ) → leading g more ≡ row vs rest
    → (v : List ℕ) × (t : List ℕ) × (ws : Record) × (g ≡ field v t) × (more t ≡ row ws rest) × (vs ≡ v ∷ ws)
unfolding leading before_row
leading_sound broken more vs rest e = absurd (no_row_here e)
leading_sound (field v t) more vs rest e = go (more t) refl e
  where
    go : (w : Row) → more t ≡ w → before_row v w ≡ row vs rest
        → (u : List ℕ) × (t' : List ℕ) × (ws : Record) × (field v t ≡ field u t') × (more t' ≡ row ws rest) × (vs ≡ u ∷ ws)
    go malformed h f = absurd (no_row_here f)
    go (row ws x) h f =
        let p : v ∷ ws ≡ vs = cc in
        let q : x ≡ rest = cc in
        (v, t, ws, refl, h ∙ ap (row ws) q, sym p)

pub row_sound : (k : ℕ) (s : List ℕ) (vs : Record) (rest : List ℕ) → row_of k s ≡ row vs rest → Recorded s vs rest
unfolding row_of
row_sound zero s vs rest e = absurd (no_row_here e)
row_sound (suc zero) s vs rest e =
    let a = lone_sound (with_end (field_of s)) vs rest e in
    let b = end_sound (field_of s) a.0 rest a.1 in
    let c = field_sound s a.0 b.0 b.1 in
    rw a.2 (c.0, b.0, Abnf.lone c.1, b.2, c.2)
row_sound (suc (suc k)) s vs rest e =
    let a = leading_sound (with_comma (field_of s)) (row_of (suc k)) vs rest e in
    let v = a.0 in
    let t = a.1 in
    let b = row_sound (suc k) t a.2 rest a.4 in
    let c = field_sound s v (comma ∷ t) (comma_sound (field_of s) v t a.3) in
    let same : s ≡ c.0 ++ (comma ∷ b.0) ++ b.1 =
    c.2 ∙ ap (λ (l : List ℕ). c.0 ++ (comma ∷ l)) b.4 ∙ sym (append_assoc c.0 (comma ∷ b.0) b.1) in
    rw a.5 (c.0 ++ (comma ∷ b.0), b.1, Abnf.joined c.1 b.2, b.3, same)

-- ---- files

row_values : (w : Row) (vs : Record) → values_in w ≡ some vs → w ≡ row vs (behind_row w)
unfolding values_in behind_row
row_values malformed vs e = absurd (omega (arith, none_some e))
  where
    none_some : none ≡ some vs → ◌≡◌ {A = ℕ} 0 1
    none_some q = cc
row_values (row us rest) vs e = let p : us ≡ vs = cc in ap (λ (l : Record). row l rest) p

-- A row read, and then nothing, or more rows.
file_last : (s : List ℕ) (vs : Record) (rest : List ℕ) → Recorded s vs rest → rest ≡ [] → FileText s (vs ∷ [])
file_last s vs rest (r, stop, t, at_end, e) z = rw (e, append-nil r) (Abnf.last t)
file_last s vs rest (r, stop, t, crlf, e) z = rw (e, z) (Abnf.ended t)

file_more : (s : List ℕ) (vs : Record) (rest : List ℕ) (w : Record) (ws : List Record) → Recorded s vs rest → 0 < length rest → FileText rest (w ∷ ws) → FileText s (vs ∷ w ∷ ws)
file_more s vs rest w ws (r, stop, t, at_end, e) l f = absurd (omega arith)
file_more s vs rest w ws (r, stop, t, crlf, e) l f = rw e (Abnf.more t f)

-- Rows are read exactly where bytes are.
none_left : (four : Bool) (s : List ℕ) → rows_of (columns four) s ≡ [] → s ≡ []
none_left four [] e = refl
none_left four (b ∷ bs) e = absurd (no (sym (next_row four (b ∷ bs) (omega arith)) ∙ e))
  where
    no : {x : Option Record} {xs : List (Option Record)} → x ∷ xs ≡ [] → ⊥
    no q = let z : ◌≡◌ {A = ℕ} 0 1 = cc in omega arith

some_left : (four : Bool) (s : List ℕ) {x : Option Record} {xs : List (Option Record)} → rows_of (columns four) s ≡ x ∷ xs → 0 < length s
some_left four [] {x} {xs} e = absurd (no (sym (no_row_lem (columns four)) ∙ e))
  where
    no : [] ≡ x ∷ xs → ⊥
    no q = let z : ◌≡◌ {A = ℕ} 0 1 = cc in omega arith
some_left four (b ∷ bs) e = omega arith

first_row :
    (four : Bool) (s : List ℕ) (v : Record) (xs : List (Option Record)) → rows_of (columns four) s ≡ some v ∷ xs
    → (rest : List ℕ) × Recorded s v rest × (rows_of (columns four) rest ≡ xs)
first_row four s v xs e =
    let w = row_of (columns four) s in
    let f : values_in w ∷ rows_of (columns four) (behind_row w) ≡ some v ∷ xs = sym (next_row four s (some_left four s e)) ∙ e in
    let p : values_in w ≡ some v = cc in
    let q : rows_of (columns four) (behind_row w) ≡ xs = cc in
    (behind_row w, row_sound (columns four) s v (behind_row w) (row_values w v p), q)

-- What is read as rows without a malformed one is a text of the rules, of these records.
pub file_sound : (four : Bool) (s : List ℕ) (v : Record) (rs : List Record) → rows_of (columns four) s ≡ map some (v ∷ rs) → FileText s (v ∷ rs)
file_sound four s v [] e =
    let a = first_row four s v [] e in
    file_last s v a.0 a.1 (none_left four a.0 a.2)
file_sound four s v (w ∷ rs) e =
    let a = first_row four s v (map some (w ∷ rs)) e in
    file_more s v a.0 w rs a.1 (some_left four a.0 a.2) (file_sound four a.0 w rs a.2)

-- .. and each has as many fields as were asked for.
row_width : (k : ℕ) (s : List ℕ) (vs : Record) (rest : List ℕ) → row_of k s ≡ row vs rest → length vs ≡ k
unfolding row_of
row_width zero s vs rest e = absurd (no_row_here e)
row_width (suc zero) s vs rest e = let a = lone_sound (with_end (field_of s)) vs rest e in rw a.2
row_width (suc (suc k)) s vs rest e =
    let a = leading_sound (with_comma (field_of s)) (row_of (suc k)) vs rest e in rw a.5 (ap suc (row_width (suc k) a.1 a.2 rest a.4))

pub file_wide : (four : Bool) (s : List ℕ) (rs : List Record) → rows_of (columns four) s ≡ map some rs → Wide four rs
unfolding all
file_wide four s [] e = refl
file_wide four s (v ∷ rs) e =
    let w = row_of (columns four) s in
    let f : values_in w ∷ rows_of (columns four) (behind_row w) ≡ some v ∷ map some rs = sym (next_row four s (some_left four s e)) ∙ e in
    let p : values_in w ≡ some v = cc in
    let q : rows_of (columns four) (behind_row w) ≡ map some rs = cc in
    and_join _ _ (eq-eqb (length v) (columns four) (row_width (columns four) s v (behind_row w) (row_values w v p))) (file_wide four (behind_row w) rs q)
