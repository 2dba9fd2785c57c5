-- What a search tests of what it is lent and set, test by test: the first one that fails decides.
-- Assumes nothing.
use Prim.Native.Nat.{ℕ, ◌≤◌, ◌<◌}
use mathlib.Core.Path.{◌≡◌, refl, sym, ◌∙◌}
use mathlib.Core.Bool.{Bool, true, false}
use mathlib.Core.List.{List}
use lib.Dec.{ltb}
use lib.ListN.{length}
use borrow.Author.Tests.{lt-ltb, le-ltb}
use Rattle.plpb.specs.Lists.{◌or◌}
use Rattle.format.specs.File.{refuse}
use Rattle.format.specs.Tables.{is_loaded}
use Rattle.settings.specs.declared.Settings.{Settings as Asked}
use Rattle.settings.specs.Settings.{settings_refusal}
use Rattle.lending.specs.Lent.{Lent, tables_small, work_small, too_small, search_refusal}
use Rattle.lending.specs.Work.{Work}
use Rattle.format.specs.Layout.{table_size, term_size}
use Rattle.columns.specs.Layout.{column_size, kept_size}

-- ---- room

module _ (tables terms assignment : List ℕ) where
  pub small_tables : length tables < table_size → true ≡ tables_small tables terms assignment
  unfolding tables_small ◌or◌
  small_tables h = rw (lt-ltb (length tables) table_size h)

  pub small_terms_lem : table_size ≤ length tables → length terms < term_size → true ≡ tables_small tables terms assignment
  unfolding tables_small ◌or◌
  small_terms_lem a h = rw (le-ltb (length tables) table_size a, lt-ltb (length terms) term_size h)

  pub small_assignment : table_size ≤ length tables → term_size ≤ length terms → ltb (length assignment) 512 ≡ tables_small tables terms assignment
  unfolding tables_small ◌or◌
  small_assignment a b = rw (le-ltb (length tables) table_size a, le-ltb (length terms) term_size b)

module _ (tables terms : List ℕ) (w : Work) {r : Bool} (e : r ≡ tables_small tables terms w.assignment) where
  pub small_first : r ≡ true → true ≡ work_small tables terms w
  unfolding work_small ◌or◌
  small_first t = rw (sym e ∙ t)

  pub small_tallies : r ≡ false → length w.tallies < kept_size → true ≡ work_small tables terms w
  unfolding work_small ◌or◌
  small_tallies t h = rw (sym e ∙ t, lt-ltb (length w.tallies) kept_size h)

  pub small_marks : r ≡ false → kept_size ≤ length w.tallies → ltb (length w.marks) column_size ≡ work_small tables terms w
  unfolding work_small ◌or◌
  small_marks t h = rw (sym e ∙ t, le-ltb (length w.tallies) kept_size h)

-- ---- the tests one after another

or_after : (s d e f g h : Bool) → (s or d or e or f or g or h) ≡ (s or (d or e or f or g or h))
unfolding ◌or◌
or_after true d e f g h = refl
or_after false d e f g h = refl

abbrev work_of : Lent → Work
work_of l = record { assignment = l.work_assignment; tallies = l.work_tallies; marks = l.work_marks }

small_parts : (l : Lent) → too_small l ≡ (tables_small l.tables l.terms l.assignment or work_small l.work_tables l.work_terms (work_of l))
unfolding too_small tables_small work_small
small_parts l = or_after _ _ _ _ _ _

module _ (l : Lent) (k : Asked) where
  pub tables_21 : {a : Bool} → a ≡ tables_small l.tables l.terms l.assignment → a ≡ true → 21 ≡ search_refusal l k
  unfolding search_refusal refuse ◌or◌
  tables_21 e t = rw (small_parts l, sym e ∙ t)

  module _ {a b : Bool} (e : a ≡ tables_small l.tables l.terms l.assignment) (t : a ≡ false)
      (f : b ≡ work_small l.work_tables l.work_terms (record { assignment = l.work_assignment; tallies = l.work_tallies; marks = l.work_marks }))
    where
      pub work_21 : b ≡ true → 21 ≡ search_refusal l k
      unfolding search_refusal refuse ◌or◌
      work_21 u = rw (small_parts l, sym e ∙ t, sym f ∙ u)

      module _ (u : b ≡ false) where
        large : too_small l ≡ false
        unfolding ◌or◌
        large = rw (small_parts l, sym e ∙ t, sym f ∙ u)

        pub tables_22 : is_loaded l.tables l.terms ≡ false → 22 ≡ search_refusal l k
        unfolding search_refusal refuse
        tables_22 h = rw (large, h)

        pub settings_last : is_loaded l.tables l.terms ≡ true → settings_refusal k ≡ search_refusal l k
        unfolding search_refusal refuse
        settings_last h = rw (large, h)
