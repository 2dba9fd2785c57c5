-- Rows read field by field, and a list's rows one after another.
-- Assumes nothing.
use Prim.Native.Nat.{ℕ, zero, suc, ◌+◌, ◌-◌, ◌≤◌, ◌<◌}
use native.Mathlib.Omega.{arith}
use native.Mathlib.Nat.{le_refl}
use native.Mathlib.Decide.{dec_lt}
use Rattle.std.proofs.Common.{Bor}
use native.Mathlib.Numerals.{add-one}
use mathlib.Core.Path.{◌≡◌, refl, sym, ap, ◌∙◌}
use mathlib.Core.Bool.{Bool, true, false, cond}
use mathlib.Core.List.{List, [], ◌∷◌}
use mathlib.Core.Option.{Option, none}
use lib.Dec.{eqb}
use lib.ListN.{length, get_or, take, drop, length-drop}
use lib.Seq.{drop-cons, take-suc}
use Rattle.plpb.specs.Lists.{◌and◌, ◌or◌, any}
use Rattle.plpb.proofs.Lists.{or_true, any_append}
use Rattle.cells.specs.declared.value.Value.{Value}
use Rattle.rows.specs.declared.row.Row.{Row as RowT}
use Rattle.cells.specs.Grammar.{Field, broken, field, is_text, may_stand, quote, comma, cr, lf, before, plain, in_quotes, field_of, with_comma, with_end, Record, Row, malformed, row, lone, before_row, leading, row_of, values_in, behind_row, rows_in, rows_of, column_of}
use Rattle.cells.specs.Values.{no_bytes, gather_from, gather}
use Rattle.rows.specs.Reading.{is_some, Holds, ReadsRow, columns}

-- ---- how much of a list a row takes

abbrev behind_field : Field → List ℕ
behind_field broken = []
behind_field (field value rest) = rest

before_behind : (b : ℕ) (f : Field) → behind_field (before b f) ≡ behind_field f
unfolding before
before_behind b broken = refl
before_behind b (field value rest) = refl

plain_takes : (s : List ℕ) → length (behind_field (plain s)) ≤ length s
unfolding plain
plain_takes [] = le_refl 0
plain_takes (b ∷ bs) = go (plain_takes bs) (is_text b)
  where
    go : length (behind_field (plain bs)) ≤ length bs → (t : Bool) → length (behind_field (cond t (before b (plain bs)) (field [] (b ∷ bs)))) ≤ suc (length bs)
    go h true = rw (before_behind b (plain bs)) (omega arith)
    go h false = le_refl (suc (length bs))

quotes_take : (closing : Bool) (s : List ℕ) → length (behind_field (in_quotes closing s)) ≤ length s
unfolding in_quotes
quotes_take false [] = le_refl 0
quotes_take true [] = le_refl 0
quotes_take false (b ∷ bs) = go (quotes_take true bs) (quotes_take false bs) (eqb b quote) (may_stand b)
  where
    go :
        length (behind_field (in_quotes true bs)) ≤ length bs → length (behind_field (in_quotes false bs)) ≤ length bs → (q t : Bool)
        → length (behind_field (cond q (in_quotes true bs) (cond t (before b (in_quotes false bs)) broken))) ≤ suc (length bs)
    go h k true t = omega arith
    go h k false true = rw (before_behind b (in_quotes false bs)) (omega arith)
    go h k false false = omega arith
quotes_take true (b ∷ bs) = go (quotes_take false bs) (eqb b quote)
  where
    go :
        length (behind_field (in_quotes false bs)) ≤ length bs → (q : Bool)
        → length (behind_field (cond q (before quote (in_quotes false bs)) (field [] (b ∷ bs)))) ≤ suc (length bs)
    go h true = rw (before_behind quote (in_quotes false bs)) (omega arith)
    go h false = le_refl (suc (length bs))

field_takes : (s : List ℕ) → length (behind_field (field_of s)) ≤ length s
unfolding field_of
field_takes [] = le_refl 0
field_takes (b ∷ bs) = go (eqb b quote)
  where
    go : (q : Bool) → length (behind_field (cond q (in_quotes false bs) (plain (b ∷ bs)))) ≤ suc (length bs)
    go true = omega (arith, quotes_take false bs)
    go false = plain_takes (b ∷ bs)

before_row_lem : (v : List ℕ) (r : Row) → behind_row (before_row v r) ≡ behind_row r
unfolding before_row behind_row
before_row_lem v malformed = refl
before_row_lem v (row values rest) = refl

end_takes : (f : Field) → length (behind_row (lone (with_end f))) ≤ length (behind_field f)
unfolding lone with_end behind_row
end_takes broken = le_refl 0
end_takes (field v []) = le_refl 0
end_takes (field v (b ∷ [])) = omega arith
end_takes (field v (b ∷ c ∷ rest)) = go (eqb b cr and eqb c lf)
  where
    go : (t : Bool) → length (behind_row (lone (cond t (field v rest) broken))) ≤ suc (suc (length rest))
    go true = omega arith
    go false = omega arith

-- With a comma it takes one byte more at least.
comma_takes :
    (f : Field) (more : List ℕ → Row) (n : ℕ) → ((t : List ℕ) → length (behind_row (more t)) ≤ length t) → length (behind_field f) ≤ n
    → length (behind_row (leading (with_comma f) more)) ≤ n - 1
unfolding leading with_comma behind_row
comma_takes broken more n h l = omega arith
comma_takes (field v []) more n h l = omega arith
comma_takes (field v (b ∷ rest)) more n h l = go (eqb b comma)
  where
    go : (t : Bool) → length (behind_row (leading (cond t (field v rest) broken) more)) ≤ n - 1
    go true = rw (before_row_lem v (more rest)) (omega (arith, h rest))
    go false = omega arith

row_takes : (k : ℕ) (s : List ℕ) → length (behind_row (row_of k s)) ≤ length s
unfolding row_of behind_row
row_takes zero s = omega arith
row_takes (suc zero) s = omega (arith, end_takes (field_of s), field_takes s)
row_takes (suc (suc k)) s = omega (arith, comma_takes (field_of s) (row_of (suc k)) (length s) (row_takes (suc k)) (field_takes s))

row_shorter : (k : ℕ) (s : List ℕ) → length (behind_row (row_of (suc (suc k)) s)) ≤ length s - 1
unfolding row_of
row_shorter k s = comma_takes (field_of s) (row_of (suc k)) (length s) (row_takes (suc k)) (field_takes s)

-- ---- the rows of a list

-- However many rows more are allowed, they are the same.
rows_enough : (k i j : ℕ) (s : List ℕ) → length s ≤ i → length s ≤ j → rows_in (suc (suc k)) i s ≡ rows_in (suc (suc k)) j s
unfolding rows_in
rows_enough k zero zero s p q = refl
rows_enough k zero (suc j) [] p q = refl
rows_enough k zero (suc j) (b ∷ bs) p q = absurd (omega arith)
rows_enough k (suc i) zero [] p q = refl
rows_enough k (suc i) zero (b ∷ bs) p q = absurd (omega arith)
rows_enough k (suc i) (suc j) [] p q = refl
rows_enough k (suc i) (suc j) (b ∷ bs) p q =
    let l = row_shorter k (b ∷ bs) in
    ap (λ (xs : List (Option Record)). values_in (row_of (suc (suc k)) (b ∷ bs)) ∷ xs)
    (rows_enough k i j (behind_row (row_of (suc (suc k)) (b ∷ bs))) (omega (arith, l)) (omega (arith, l)))

some_row : (k : ℕ) (s : List ℕ) → 0 < length s → rows_of (suc (suc k)) s ≡ values_in (row_of (suc (suc k)) s) ∷ rows_of (suc (suc k)) (behind_row (row_of (suc (suc k)) s))
unfolding rows_of rows_in
some_row k [] h = absurd (omega arith)
some_row k (b ∷ bs) h =
    let t = behind_row (row_of (suc (suc k)) (b ∷ bs)) in
    ap (λ (xs : List (Option Record)). values_in (row_of (suc (suc k)) (b ∷ bs)) ∷ xs)
    (rows_enough k (length bs) (length t) t (omega (arith, row_shorter k (b ∷ bs))) (le_refl (length t)))

pub next_row : (four : Bool) (s : List ℕ) → 0 < length s → rows_of (columns four) s ≡ values_in (row_of (columns four) s) ∷ rows_of (columns four) (behind_row (row_of (columns four) s))
next_row true s h = some_row 2 s h
next_row false s h = some_row 1 s h

pub no_row_lem : (k : ℕ) → rows_of k [] ≡ []
unfolding rows_of rows_in
no_row_lem k = refl

rows_few : (k i : ℕ) (s : List ℕ) → length (rows_in k i s) ≤ i
unfolding rows_in
rows_few k zero s = le_refl 0
rows_few k (suc i) [] = omega arith
rows_few k (suc i) (b ∷ bs) = omega (arith, rows_few k i (behind_row (row_of k (b ∷ bs))))

-- There are no more rows than bytes.
pub rows_short : (k : ℕ) (s : List ℕ) → length (rows_of k s) ≤ length s
unfolding rows_of
rows_short k s = rows_few k (length s) s

-- ---- the code's place in a list: the rows of what is left are those from the k-th on

abbrev pub Place : Bool → List ℕ → ℕ → List ℕ → Type 0
Place four s k t = rows_of (columns four) t ≡ drop k (rows_of (columns four) s)

dropped : {A : Type 0} (d : A) (xs : List A) (k : ℕ) (y : A) (ys : List A) → drop k xs ≡ y ∷ ys → (k < length xs) × (get_or xs k d ≡ y) × (drop (k + 1) xs ≡ ys)
dropped d xs k y ys e =
    let n : length xs - k ≡ suc (length ys) = sym (length-drop k xs) ∙ ap length e in
    let l : k < length xs = omega arith in
    let c : get_or xs k d ∷ drop (suc k) xs ≡ y ∷ ys = sym (drop-cons xs k d l) ∙ e in
    (l, cc, ap (λ (j : ℕ). drop j xs) (add-one k) ∙ cc)

module _ (four : Bool) (s : List ℕ) (k : ℕ) (t : List ℕ) (p : Place four s k t) where
  abbrev all : List (Option Record)
  all = rows_of (columns four) s

  -- Where no byte is left, no row is.
  pub no_bytes_lem : length t < 1 → length all ≤ k
  no_bytes_lem h = go t p h
    where
      go : (u : List ℕ) → Place four s k u → length u < 1 → length all ≤ k
      go [] e h =
          let n : length all - k ≡ 0 = sym (length-drop k all) ∙ ap length (sym e ∙ no_row_lem (columns four)) in
          omega arith
      go (b ∷ bs) e h = absurd (omega arith)

  -- Where a row is left, bytes are.
  pub more_bytes : k < length all → 0 < length t
  more_bytes l = go (dec_lt 0 (length t))
    where
      go : Dec (0 < length t) → 0 < length t
      go (yes h) = h
      go (no h) = absurd (omega (arith, no_bytes_lem (omega arith)))

  module _ (r : RowT) (l : 0 < length t) (h : ReadsRow (row_of (columns four) t) r) where
    here : drop k all ≡ values_in (row_of (columns four) t) ∷ rows_of (columns four) r.rest.now
    here = sym p ∙ next_row four t l ∙ ap (λ u. values_in (row_of (columns four) t) ∷ rows_of (columns four) u) h.rest_is

    -- The row read is the k-th, and behind it stands the next.
    pub is_row : k < length all
    is_row = (dropped none all k _ _ here).0

    pub row_held : Holds (get_or all k none) r
    row_held = rw (dropped none all k _ _ here).1 h.holds

    pub place_next : Place four s (k + 1) r.rest.now
    place_next = sym (dropped none all k _ _ here).2

  -- A malformed row is the k-th too, and the last.
  module _ (l : 0 < length t) (w : row_of (columns four) t ≡ malformed) where
    none_here : drop k all ≡ none ∷ []
    unfolding values_in behind_row
    none_here = sym p ∙ next_row four t l ∙ rw (w, no_row_lem (columns four))

    pub malformed_last : (k < length all) × (get_or all k none ≡ none) × (length all ≤ k + 1)
    malformed_last =
        let d = dropped none all k none [] none_here in
        let n : length all - (k + 1) ≡ 0 = sym (length-drop (k + 1) all) ∙ ap length d.2 in
        (d.0, d.1, omega arith)

-- ---- a row put together from its fields

pub row_stop : (k : ℕ) (t : List ℕ) → with_comma (field_of t) ≡ broken → row_of (suc (suc k)) t ≡ malformed
unfolding row_of leading
row_stop k t e = rw e

pub row_step : (k : ℕ) (t v u : List ℕ) → with_comma (field_of t) ≡ field v u → row_of (suc (suc k)) t ≡ before_row v (row_of (suc k) u)
unfolding row_of leading
row_step k t v u e = rw e

pub last_stop : (t : List ℕ) → with_end (field_of t) ≡ broken → row_of 1 t ≡ malformed
unfolding row_of lone
last_stop t e = rw e

pub last_step : (t v u : List ℕ) → with_end (field_of t) ≡ field v u → row_of 1 t ≡ row (v ∷ []) u
unfolding row_of lone
last_step t v u e = rw e

-- Nothing stands before a malformed row.
pub still_malformed : (a b : List ℕ) (w : Row) → w ≡ malformed → before_row a (before_row b w) ≡ malformed
unfolding before_row
still_malformed a b w e = rw e

module _ (a b : List ℕ) (first second third fourth : Value) (rest : Bor (List ℕ)) where
  abbrev read : RowT
  read = record { first = first; second = second; third = third; fourth = fourth; rest = rest }

  pub reads_three :
      (c : List ℕ) {w : Row} → first ≡ gather a → second ≡ gather b → third ≡ gather c → fourth ≡ no_bytes → w ≡ row (c ∷ []) rest.now
      → ReadsRow (before_row a (before_row b w)) read
  unfolding before_row values_in behind_row column_of is_some gather_from
  reads_three c p q r t e =
      rw e (record { holds = record { formed = refl; first_is = p; second_is = q; third_is = r; fourth_is = t }; rest_is = refl })

  pub reads_four :
      (c d : List ℕ) {w : Row} → first ≡ gather a → second ≡ gather b → third ≡ gather c → fourth ≡ gather d → w ≡ row (c ∷ d ∷ []) rest.now
      → ReadsRow (before_row a (before_row b w)) read
  unfolding before_row values_in behind_row column_of is_some
  reads_four c d p q r t e =
      rw e (record { holds = record { formed = refl; first_is = p; second_is = q; third_is = r; fourth_is = t }; rest_is = refl })

pub two_left : (t v u w : List ℕ) (d : List ℕ) → with_comma (field_of t) ≡ field v u → with_end (field_of u) ≡ field d w → row_of 2 t ≡ row (v ∷ d ∷ []) w
unfolding before_row
two_left t v u w d e f = row_step 0 t v u e ∙ ap (before_row v) (last_step u d w f)

pub two_stop : (t v u : List ℕ) → with_comma (field_of t) ≡ field v u → with_end (field_of u) ≡ broken → row_of 2 t ≡ malformed
unfolding before_row
two_stop t v u e f = row_step 0 t v u e ∙ ap (before_row v) (last_stop u f)

-- The first two fields of a row of three or four.
pub lead_stop : (four : Bool) (t : List ℕ) → with_comma (field_of t) ≡ broken → row_of (columns four) t ≡ malformed
lead_stop true t e = row_stop 2 t e
lead_stop false t e = row_stop 1 t e

pub second_stop : (four : Bool) (t v u : List ℕ) → with_comma (field_of t) ≡ field v u → with_comma (field_of u) ≡ broken → row_of (columns four) t ≡ malformed
unfolding before_row
second_stop true t v u e f = row_step 2 t v u e ∙ ap (before_row v) (row_stop 1 u f)
second_stop false t v u e f = row_step 1 t v u e ∙ ap (before_row v) (row_stop 0 u f)

module _ (four : Bool) (t v u w y : List ℕ) (e : with_comma (field_of t) ≡ field v u) (f : with_comma (field_of u) ≡ field w y) where
  pub four_is : four ≡ true → row_of (columns four) t ≡ before_row v (before_row w (row_of 2 y))
  four_is q = rw (q, row_step 2 t v u e, row_step 1 u w y f)

  pub three_is : four ≡ false → row_of (columns four) t ≡ before_row v (before_row w (row_of 1 y))
  three_is q = rw (q, row_step 1 t v u e, row_step 0 u w y f)

-- A column by its number.
module _ (x : Option Record) (r : RowT) (h : Holds x r) where
  pub column_0 : {k : ℕ} → k ≡ 0 → r.first ≡ gather (column_of k x)
  column_0 e = rw e h.first_is

-- ---- a value among the first rows

or_else : (b : Bool) → false or (b or false) ≡ b
unfolding ◌or◌
or_else true = refl
or_else false = refl

module _ (p : Option Record → Bool) where
  pub any_none : (xs : List (Option Record)) → any p (take 0 xs) ≡ false
  unfolding any
  any_none xs = refl

  pub any_last : (xs : List (Option Record)) (k : ℕ) → k < length xs → any p (take k xs) ≡ false → any p (take (k + 1) xs) ≡ p (get_or xs k none)
  unfolding any
  any_last xs k l e = rw (add-one, take-suc xs k none l, any_append, e) (or_else (p (get_or xs k none)))

  pub any_more : (xs : List (Option Record)) (k : ℕ) → k < length xs → any p (take k xs) ≡ false → p (get_or xs k none) ≡ false → any p (take (k + 1) xs) ≡ false
  any_more xs k l e f = any_last xs k l e ∙ f

  pub any_found : (xs : List (Option Record)) (k n : ℕ) → k < n → k < length xs → p (get_or xs k none) ≡ true → any p (take n xs) ≡ true
  unfolding any ◌or◌
  any_found [] k n l m e = absurd (omega arith)
  any_found (x ∷ xs) k zero l m e = absurd (omega arith)
  any_found (x ∷ xs) zero (suc n) l m e = rw e
  any_found (x ∷ xs) (suc k) (suc n) l m e = rw (any_found xs k n (omega arith) (omega arith) e, or_true)
