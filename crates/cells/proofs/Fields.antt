-- Fields read on from a byte, and the code's answers of them.
-- Assumes nothing.
use Prim.Native.Nat.{ℕ, suc, ◌-◌, ◌≤◌, ◌<◌}
use native.Mathlib.Omega.{arith}
use native.Mathlib.Nat.{le_refl}
use mathlib.Core.Path.{◌≡◌, refl, sym, ap, ap₂, ◌∙◌, subst}
use mathlib.Core.Logic.{◌≢◌}
use Rattle.std.proofs.Common.{Option, Some, None}
use Rattle.std.proofs.lemmas.Option.{same_Some, none-some}
use Rattle.std.proofs.lemmas.Bool.Decides.{nat_tests}
use mathlib.Core.Bool.{true, false}
use mathlib.Core.List.{List, [], ◌∷◌}
use lib.Dec.{eqb}
use lib.ListN.{length, get_or, take, drop}
use lib.Seq.{take_all}
use borrow.Author.Tests.{ne_eqb}
use Rattle.plpb.specs.Lists.{◌and◌}
use Rattle.cells.specs.declared.value.Value.{Value}
use Rattle.cells.specs.declared.field.Field.{Field as FieldT}
use Rattle.cells.specs.Grammar.{Field, broken, field, quote, comma, cr, lf, is_text, may_stand, before, plain, in_quotes, field_of, with_comma, with_end}
use Rattle.cells.specs.Values.{no_bytes, added, gather_from}
use Rattle.cells.specs.Reading.{Gathered, gathered}

-- What is gathered of a field: a value with what is behind it.
abbrev pub some : Value → List ℕ → Option Gathered
some v rest = Some (record { value = v; rest = rest })

gathered_before : (v : Value) (b : ℕ) (f : Field) → gathered v (before b f) ≡ gathered (added v b) f
unfolding gathered before gather_from
gathered_before v b broken = refl
gathered_before v b (field value rest) = refl

-- The first byte of a list and those behind it, as a slice has them.
abbrev pub behind : List ℕ → List ℕ
behind s = take (length s - 1) (drop 1 s)

pub split : (s : List ℕ) → 1 ≤ length s → s ≡ get_or s 0 0 ∷ behind s
split [] l = absurd (omega arith)
split (b ∷ bs) l =
    let n : suc (length bs) - 1 ≡ length bs = omega arith in
    ap (λ t. b ∷ t) (sym (ap (λ k. take k bs) n ∙ take_all (length bs) bs (le_refl (length bs))))

none : (s : List ℕ) → length s < 1 → s ≡ []
none [] l = refl
none (b ∷ bs) l = absurd (omega arith)

-- ---- a plain field

stop_by : (v : Value) (b : ℕ) (bs : List ℕ) → is_text b ≡ false → gathered v (plain (b ∷ bs)) ≡ some v (b ∷ bs)
unfolding plain gathered gather_from
stop_by v b bs h = rw h

text_by : (v : Value) (b : ℕ) (bs : List ℕ) → is_text b ≡ true → gathered v (plain (b ∷ bs)) ≡ gathered (added v b) (plain bs)
unfolding plain
text_by v b bs h = rw h (gathered_before v b (plain bs))

module _ (v : Value) (s : List ℕ) where
  pub plain_stop : 1 ≤ length s → is_text (get_or s 0 0) ≡ false → gathered v (plain s) ≡ some v s
  plain_stop l h = subst (λ t. gathered v (plain t) ≡ some v t) (sym (split s l)) (stop_by v _ _ h)

  pub plain_on : 1 ≤ length s → is_text (get_or s 0 0) ≡ true → gathered v (plain s) ≡ gathered (added v (get_or s 0 0)) (plain (behind s))
  plain_on l h = ap (λ t. gathered v (plain t)) (split s l) ∙ text_by v _ _ h

  pub plain_end : length s < 1 → gathered v (plain s) ≡ some v s
  unfolding plain gathered gather_from
  plain_end l = rw (none s l)

-- ---- a field in quotes

module _ (v : Value) where
  two_by : (bs : List ℕ) → gathered v (in_quotes false (quote ∷ quote ∷ bs)) ≡ gathered (added v quote) (in_quotes false bs)
  unfolding in_quotes
  two_by bs = gathered_before v quote (in_quotes false bs)

  one_by : (bs : List ℕ) → ((t : List ℕ) → bs ≢ quote ∷ t) → gathered v (in_quotes false (quote ∷ bs)) ≡ some v bs
  unfolding in_quotes gathered gather_from
  one_by [] n = refl
  one_by (b ∷ bs) n = rw (ne_eqb b quote (λ e. n bs (ap (λ c. c ∷ bs) e)))

  other_by : (b : ℕ) (bs : List ℕ) → (b ≡ quote → ⊥) → may_stand b ≡ true → gathered v (in_quotes false (b ∷ bs)) ≡ gathered (added v b) (in_quotes false bs)
  unfolding in_quotes
  other_by b bs n h = rw (ne_eqb b quote n, h) (gathered_before v b (in_quotes false bs))

  wrong_by : (b : ℕ) (bs : List ℕ) → (b ≡ quote → ⊥) → may_stand b ≡ false → gathered v (in_quotes false (b ∷ bs)) ≡ None
  unfolding in_quotes gathered
  wrong_by b bs n h = rw (ne_eqb b quote n, h)

module _ (v : Value) (s : List ℕ) where
  abbrev quoted : Option Gathered
  quoted = gathered v (in_quotes false s)

  split_quote : 1 ≤ length s → get_or s 0 0 ≡ quote → s ≡ quote ∷ behind s
  split_quote l q = split s l ∙ ap (λ b. b ∷ behind s) q

  pub quoted_two : 1 ≤ length s → get_or s 0 0 ≡ quote → (t : List ℕ) → behind s ≡ quote ∷ t → quoted ≡ gathered (added v quote) (in_quotes false t)
  quoted_two l q t e = ap (λ u. gathered v (in_quotes false u)) (split_quote l q ∙ ap (λ u. quote ∷ u) e) ∙ two_by v t

  pub quoted_one : 1 ≤ length s → get_or s 0 0 ≡ quote → ((t : List ℕ) → behind s ≢ quote ∷ t) → quoted ≡ some v (behind s)
  quoted_one l q n = ap (λ u. gathered v (in_quotes false u)) (split_quote l q) ∙ one_by v _ n

  pub quoted_on : 1 ≤ length s → (get_or s 0 0 ≡ quote → ⊥) → may_stand (get_or s 0 0) ≡ true → quoted ≡ gathered (added v (get_or s 0 0)) (in_quotes false (behind s))
  quoted_on l n h = ap (λ t. gathered v (in_quotes false t)) (split s l) ∙ other_by v _ _ n h

  pub quoted_wrong : 1 ≤ length s → (get_or s 0 0 ≡ quote → ⊥) → may_stand (get_or s 0 0) ≡ false → quoted ≡ None
  quoted_wrong l n h = ap (λ t. gathered v (in_quotes false t)) (split s l) ∙ wrong_by v _ _ n h

  pub quoted_open : length s < 1 → quoted ≡ None
  unfolding in_quotes gathered
  quoted_open l = rw (none s l)

-- ---- a field, plain or in quotes

pub field_quoted : (s t : List ℕ) → s ≡ quote ∷ t → in_quotes false t ≡ field_of s
unfolding field_of
field_quoted s t e = ap field_of (sym e)

pub field_plain : (s : List ℕ) → ((t : List ℕ) → s ≢ quote ∷ t) → plain s ≡ field_of s
unfolding plain field_of
field_plain [] n = refl
field_plain (b ∷ bs) n = rw (ne_eqb b quote (λ e. n bs (ap (λ c. c ∷ bs) e)))

-- ---- what stands behind a field

-- Where the code has no field, there is none.
pub no_field : (f : Field) → None ≡ gathered no_bytes f → f ≡ broken
unfolding gathered
no_field broken e = refl
no_field (field v bs) e = absurd (none-some _ e)

-- Without a field there is none with a comma or an end behind it.
pub no_more : (f : Field) → None ≡ gathered no_bytes f → (None ≡ gathered no_bytes (with_comma f)) × (None ≡ gathered no_bytes (with_end f))
unfolding gathered with_comma with_end
no_more f e = rw (no_field f e) (refl, refl)

comma_by : (v s : List ℕ) → ((t : List ℕ) → s ≢ comma ∷ t) → None ≡ gathered no_bytes (with_comma (field v s))
unfolding gathered with_comma
comma_by v [] n = refl
comma_by v (b ∷ bs) n = rw (ne_eqb b comma (λ e. n bs (ap (λ c. c ∷ bs) e)))

no_end : (b c : ℕ) → (b ≡ cr → c ≡ lf → ⊥) → (eqb b cr and eqb c lf) ≡ false
unfolding ◌and◌
no_end b c n = grind (arith, nat_tests)

end_by : (v s : List ℕ) → 1 ≤ length s → ((t : List ℕ) → s ≢ cr ∷ lf ∷ t) → None ≡ gathered no_bytes (with_end (field v s))
unfolding gathered with_end
end_by v [] l n = absurd (omega arith)
end_by v (b ∷ []) l n = refl
end_by v (b ∷ c ∷ bs) l n = rw (no_end b c (λ p q. n bs (ap₂ (λ x y. x ∷ y ∷ bs) p q)))

module _ (f : Field) (r : FieldT) (h : some r.value r.rest.now ≡ gathered no_bytes f) where
  abbrev s : List ℕ
  s = r.rest.now

  -- Where the code has a field, there is one.
  abbrev There : Type 0
  There = (v : List ℕ) × (f ≡ field v s) × (r.value ≡ gather_from no_bytes v)

  pub there : There
  unfolding gathered
  there = go f refl h
    where
      go : (g : Field) → f ≡ g → some r.value s ≡ gathered no_bytes g → There
      go broken e k = absurd (none-some _ (sym k))
      go (field v bs) e k =
          let same = same_Some _ _ k in
          (v, e ∙ ap (field v) (sym (ap (λ (x : Gathered). x.rest) same)), ap (λ (x : Gathered). x.value) same)

  pub comma_right : (t : List ℕ) → s ≡ comma ∷ t → some r.value t ≡ gathered no_bytes (with_comma f)
  unfolding gathered with_comma
  comma_right t e = ap (λ v. some v t) there.2 ∙ ap (λ g. gathered no_bytes (with_comma g)) (sym (there.1 ∙ ap (field there.0) e))

  pub comma_wrong : ((t : List ℕ) → s ≢ comma ∷ t) → None ≡ gathered no_bytes (with_comma f)
  comma_wrong n = comma_by there.0 s n ∙ ap (λ g. gathered no_bytes (with_comma g)) (sym there.1)

  pub end_list : length s < 1 → some r.value s ≡ gathered no_bytes (with_end f)
  unfolding gathered with_end
  end_list l = ap₂ some there.2 (none s l) ∙ ap (λ g. gathered no_bytes (with_end g)) (sym (there.1 ∙ ap (field there.0) (none s l)))

  pub end_right : (t : List ℕ) → s ≡ cr ∷ lf ∷ t → some r.value t ≡ gathered no_bytes (with_end f)
  unfolding gathered with_end ◌and◌
  end_right t e = ap (λ v. some v t) there.2 ∙ ap (λ g. gathered no_bytes (with_end g)) (sym (there.1 ∙ ap (field there.0) e))

  pub end_wrong : 1 ≤ length s → ((t : List ℕ) → s ≢ cr ∷ lf ∷ t) → None ≡ gathered no_bytes (with_end f)
  end_wrong l n = end_by there.0 s l n ∙ ap (λ g. gathered no_bytes (with_end g)) (sym there.1)
