-- What the code's tests of a row tell of the lists' definitions.
-- Assumes nothing.
use Prim.Native.Nat.{ℕ, suc, ◌≤◌, ◌<◌}
use native.Mathlib.Omega.{arith}
use mathlib.Core.Path.{◌≡◌, refl, sym, ap, ap₂, ◌∙◌}
use mathlib.Core.Bool.{Bool, true, false, not, cond}
use mathlib.Core.List.{List, [], ◌∷◌}
use mathlib.Core.Option.{none}
use Rattle.std.proofs.Common.{Some}
use lib.Dec.{ltb}
use lib.ListN.{length, get_or, take, length-take}
use lib.Seq.{get_or-take}
use borrow.Author.Tests.{leb-true}
use Rattle.plpb.specs.Lists.{◌and◌, ◌or◌, any, all}
use Rattle.format.proofs.Bools.{and_left, and_right}
use Rattle.cells.specs.declared.value.Value.{Value}
use Rattle.cells.specs.Grammar.{rows_of, column_of, same_bytes}
use Rattle.cells.specs.Values.{gather, same_value}
use Rattle.rows.specs.Reading.{is_some}
use Rattle.lists.specs.Refusals.{Entry, is_name, is_number, number_of, yes_bytes, no_bytes, is_yes, is_no, site_formed, zone_formed, site_fault, zone_fault, has}
use Rattle.lists.proofs.Values.{number_says, Bytes, same_alike}
use Rattle.lists.proofs.RowBytes.{rows_bytes}
use Rattle.entries.specs.Judging.{own_fault, zone_column}

-- ---- rows

-- A test behind another.
pub and_then : {p q v : Bool} → p ≡ true → v ≡ q → v ≡ (p and q)
unfolding ◌and◌
and_then e f = rw e f

pub and_else : {p v : Bool} (q : Bool) → p ≡ false → v ≡ false → v ≡ (p and q)
unfolding ◌and◌
and_else q e f = rw e f

-- A row that the grammar has is formed by its columns.
module _ (x : Entry) (h : is_some x ≡ true) where
  pub site_by_columns : (is_name (column_of 0 x) and is_number (column_of 1 x) and is_name (column_of 2 x)) ≡ site_formed x
  unfolding site_formed ◌and◌
  site_by_columns = rw h

  pub zone_by_columns :
      (is_name (column_of 0 x) and is_number (column_of 1 x) and is_number (column_of 2 x) and (is_yes (column_of 3 x) or is_no (column_of 3 x))) ≡ zone_formed x
  unfolding zone_formed ◌and◌
  zone_by_columns = rw h

-- `yes` or `no` in the last column.
pub answer_alike :
    (d : List ℕ) (v : Value) → v ≡ gather d → Bytes d → (same_value v (gather yes_bytes) or same_value v (gather no_bytes)) ≡ (is_yes d or is_no d)
unfolding is_yes is_no all ◌and◌
answer_alike d v e h =
    ap (λ (u : Value). same_value u (gather yes_bytes) or same_value u (gather no_bytes)) e
    ∙ ap₂ ◌or◌ (same_alike d yes_bytes (omega arith) h refl) (same_alike d no_bytes (omega arith) h refl)

pub yes_alike : (d : List ℕ) (v : Value) → v ≡ gather d → Bytes d → same_value v (gather yes_bytes) ≡ is_yes d
unfolding is_yes all ◌and◌
yes_alike d v e h = ap (λ (u : Value). same_value u (gather yes_bytes)) e ∙ same_alike d yes_bytes (omega arith) h refl

-- What a formed row says of its columns.
module _ (x : Entry) where
  pub formed_metres : site_formed x ≡ true → is_number (column_of 1 x) ≡ true
  unfolding site_formed
  formed_metres h = and_right _ _ (and_left _ _ h)

  pub formed_least : zone_formed x ≡ true → is_number (column_of 1 x) ≡ true
  unfolding zone_formed
  formed_least h = and_right _ _ (and_left _ _ (and_left _ _ h))

  pub formed_most : zone_formed x ≡ true → is_number (column_of 2 x) ≡ true
  unfolding zone_formed
  formed_most h = and_right _ _ (and_left _ _ h)

  site_code_short : site_formed x ≡ true → length (column_of 0 x) ≤ 16
  unfolding site_formed is_name
  site_code_short h = leb-true _ _ (and_right _ _ (and_right _ _ (and_left _ _ (and_left _ _ h))))

  site_zone_short : site_formed x ≡ true → length (column_of 2 x) ≤ 16
  unfolding site_formed is_name
  site_zone_short h = leb-true _ _ (and_right _ _ (and_right _ _ h))

  pub zone_name_short : zone_formed x ≡ true → length (column_of 0 x) ≤ 16
  unfolding zone_formed is_name
  zone_name_short h = leb-true _ _ (and_right _ _ (and_right _ _ (and_left _ _ (and_left _ _ (and_left _ _ h)))))

  pub site_sound : site_fault x ≡ 0 → site_formed x ≡ true
  unfolding site_fault
  site_sound e = go (site_formed x) e
    where
      go : (t : Bool) → ◌≡◌ {A = ℕ} (cond (not t) 51 (cond (ltb 1_000_000 (number_of (column_of 1 x))) 52 0)) 0 → t ≡ true
      go true h = refl
      go false h = absurd (omega (arith, h))

  pub zone_sound : zone_fault x ≡ 0 → zone_formed x ≡ true
  unfolding zone_fault
  zone_sound e = go (zone_formed x) e
    where
      go : (t : Bool) → ◌≡◌ {A = ℕ} (cond (not t) 51 (cond (ltb 512 (number_of (column_of 1 x)) or ltb 512 (number_of (column_of 2 x))) 52 0)) 0 → t ≡ true
      go true h = refl
      go false h = absurd (omega (arith, h))

  pub key_short : (zones : Bool) → own_fault zones x ≡ 0 → length (column_of 0 x) ≤ 16
  key_short true e = zone_name_short (zone_sound e)
  key_short false e = site_code_short (site_sound e)

  pub zone_short : (zones : Bool) → own_fault zones x ≡ 0 → length (column_of (zone_column zones) x) ≤ 16
  zone_short true e = zone_name_short (zone_sound e)
  zone_short false e = site_zone_short (site_sound e)

  -- The faults of a row.
  pub site_51 : site_formed x ≡ false → 51 ≡ site_fault x
  unfolding site_fault
  site_51 e = rw e

  pub zone_51 : zone_formed x ≡ false → 51 ≡ zone_fault x
  unfolding zone_fault
  zone_51 e = rw e

  -- .. by the code's tests of its numbers.
  module _ (v : Value) (e : v ≡ gather (column_of 1 x)) where
    pub site_by :
        {t b : Bool} → site_formed x ≡ true → ((n : ℕ) → v.number ≡ Some n → t ≡ ltb 1_000_000 n) → t ≡ b → ◌≡◌ {A = ℕ} (cond b 52 0) (site_fault x)
    unfolding site_fault
    site_by f h q = rw f (ap (λ u. cond u 52 0) (sym q ∙ h _ (ap (λ (u : Value). u.number) e ∙ number_says _ (formed_metres f))))

    module _ {t : Bool} (f : zone_formed x ≡ true) (h : (n : ℕ) → v.number ≡ Some n → t ≡ ltb 512 n) where
      least_is : t ≡ ltb 512 (number_of (column_of 1 x))
      least_is = h _ (ap (λ (u : Value). u.number) e ∙ number_says _ (formed_least f))

      pub least_52 : t ≡ true → 52 ≡ zone_fault x
      unfolding zone_fault ◌or◌
      least_52 q = rw (f, sym least_is ∙ q)

      pub zone_by :
          {u b : Bool} (w : Value) → w ≡ gather (column_of 2 x) → t ≡ false → ((n : ℕ) → w.number ≡ Some n → u ≡ ltb 512 n) → u ≡ b
          → ◌≡◌ {A = ℕ} (cond b 52 0) (zone_fault x)
      unfolding zone_fault ◌or◌
      zone_by w g q k r =
          rw (f, sym least_is ∙ q) (ap (λ u. cond u 52 0) (sym r ∙ k _ (ap (λ (u : Value). u.number) g ∙ number_says _ (formed_most f))))

-- ---- a value among the rows

any_alike : (p q : Entry → Bool) (xs : List Entry) → ((i : ℕ) → i < length xs → p (get_or xs i none) ≡ q (get_or xs i none)) → any p xs ≡ any q xs
unfolding any
any_alike p q [] h = refl
any_alike p q (x ∷ xs) h = ap₂ ◌or◌ (h 0 (omega arith)) (any_alike p q xs (λ i l. h (suc i) (omega arith)))

pub has_alike :
    (n : ℕ) (s : List ℕ) (which k : ℕ) (w : List ℕ) (v : Value) → v ≡ gather w → length w ≤ 16 → Bytes w
    → any (λ x. same_value (gather (column_of which x)) v) (take k (rows_of n s)) ≡ has which w (take k (rows_of n s))
unfolding has
has_alike n s which k w v e l h =
    any_alike (λ x. same_value (gather (column_of which x)) v) (λ x. same_bytes (column_of which x) w) (take k (rows_of n s))
    (λ i m.
    let j : i < k = omega (arith, m, length-take k (rows_of n s)) in
    ap (λ (u : Value). same_value (gather (column_of which (get_or (take k (rows_of n s)) i none))) u) e
    ∙ rw (get_or-take k (rows_of n s) i none j) (same_alike _ w l (rows_bytes n s i which) h))
