-- The test of tables by the plan read back means what 22 says, for any lists: `isLoaded` holds of the tables that some accepted loading
-- leaves, and of no others. Of bytes of full size it is the test by words; of shorter lists it is false.
-- Assumes nothing.
use Prim.Native.Nat.{ℕ, ◌≤◌, ◌<◌}
use mathlib.Core.Path.{◌≡◌, refl, ap, ap₂}
use mathlib.Core.Bool.{Bool, true, false}
use mathlib.Core.List.{List, [], ◌∷◌}
use mathlib.Core.Logic.{◌↔◌}
use native.Mathlib.Omega.{arith}
use lib.Dec.{T}
use lib.ListN.{length, length-take}
use borrow.Author.Tests.{eqb-true, eq-eqb}
use Rattle.plpb.specs.Plan.{Plan}
use Rattle.words.specs.Words.{word_bytes, word_at}
use Rattle.words.proofs.Words.{Below, length_word_bytes}
use Rattle.format.specs.Limits.{lawful}
use Rattle.format.specs.Writer.{write}
use Rattle.format.specs.Tables.{table_words, term_words, table_size, term_size, Holds, Loaded, plan_of_tables, same_bytes, is_loaded}
use Rattle.format.proofs.Bools.{same_test, T_true, true_T, and_left, and_right, and_join}
use Rattle.format.proofs.Lawful.{RoomyPlan, plan_parts, room_for, lawful_roomy}
use Rattle.format.proofs.Sections.{length_table_words, length_term_words}
use Rattle.format.proofs.ReadBack.{read_back}
use Rattle.format.proofs.WriteBytes.{write_bytes}
use Rattle.format.proofs.RoundTrip.{read_write}
use Rattle.format.proofs.Accepted.{accepted_lawful}
use Rattle.format.specs.Good.{good_by}
use Rattle.format.proofs.GoodTables.{good_loaded, loaded_good}

-- The test of two lists for the same elements.
pub same_equal : (xs ys : List ℕ) → same_bytes xs ys ≡ true → xs ≡ ys
unfolding same_bytes
same_equal [] [] h = refl
same_equal [] (y ∷ ys) h = absurd (true_T false h)
same_equal (x ∷ xs) [] h = absurd (true_T false h)
same_equal (x ∷ xs) (y ∷ ys) h = ap₂ ◌∷◌ (eqb-true x y (and_left _ _ h)) (same_equal xs ys (and_right _ _ h))

pub same_self : (xs : List ℕ) → same_bytes xs xs ≡ true
unfolding same_bytes
same_self [] = refl
same_self (x ∷ xs) = and_join _ _ (eq-eqb x x refl) (same_self xs)

never : (b : Bool) → (b ≡ true → ⊥) → b ≡ false
never true p = absurd (p refl)
never false p = refl

module _ (tables terms : List ℕ) where
  -- What it says: the plan read back is lawful, and the tables hold its words.
  pub is_loaded_lawful : T (is_loaded tables terms) → T (lawful (plan_of_tables tables terms))
  unfolding is_loaded
  is_loaded_lawful t = true_T _ (and_left _ _ (and_left _ _ (T_true _ t)))

  pub is_loaded_holds : T (is_loaded tables terms) → Holds (plan_of_tables tables terms) tables terms
  unfolding is_loaded Holds
  is_loaded_holds t =
      let h = T_true _ t in
      (same_equal _ _ (and_right _ _ (and_left _ _ h)), same_equal _ _ (and_right _ _ h))

  holds_is_loaded : (p : Plan) → plan_of_tables tables terms ≡ p → T (lawful p) → Holds p tables terms → T (is_loaded tables terms)
  unfolding is_loaded Holds
  holds_is_loaded p e l h =
      rw (e, h.0, h.1) (true_T _ (and_join _ _ (and_join _ _ (T_true _ l) (same_self (word_bytes (table_words p)))) (same_self (word_bytes (term_words p)))))

  -- The file of the plan read back is one that leaves these tables.
  pub is_loaded_loaded : T (is_loaded tables terms) → Loaded tables terms
  unfolding Loaded
  is_loaded_loaded t =
      let p = plan_of_tables tables terms in
      (write p, p, write_bytes p, read_write p (is_loaded_lawful t), is_loaded_holds t)

  -- The plan of a file that leaves these tables is the one read back.
  pub loaded_is_loaded : Loaded tables terms → T (is_loaded tables terms)
  unfolding Loaded
  loaded_is_loaded l =
      let (file, p, bytes, accepted, holds) = l in
      let q = accepted_lawful file p accepted in
      holds_is_loaded p (read_back p tables terms (lawful_roomy p q) holds) q holds

  pub is_loaded_iff : T (is_loaded tables terms) ↔ Loaded tables terms
  is_loaded_iff = (is_loaded_loaded, loaded_is_loaded)

  -- Of bytes of full size it is the test by words.
  pub is_loaded_good :
      Below 256 tables → Below 256 terms → table_size ≤ length tables → term_size ≤ length terms
      → is_loaded tables terms ≡ good_by (word_at tables) (word_at terms)
  is_loaded_good bt bs nt ns =
      same_test _ _ (λ h. loaded_good tables terms (is_loaded_loaded (true_T _ h)))
      (λ h. T_true _ (loaded_is_loaded (good_loaded tables terms bt bs h nt ns)))

  -- Tables that an accepted loading leaves are of full size.
  room : T (is_loaded tables terms) → RoomyPlan (plan_of_tables tables terms)
  room t = room_for _ (plan_parts _ (is_loaded_lawful t))

  pub is_loaded_tables : T (is_loaded tables terms) → table_size ≤ length tables
  unfolding Holds
  is_loaded_tables t =
      let p = plan_of_tables tables terms in
      let e = ap length (is_loaded_holds t).0 in
      omega (arith, e, length-take table_size tables, length_word_bytes (table_words p), length_table_words p (room t))

  pub is_loaded_terms : T (is_loaded tables terms) → term_size ≤ length terms
  unfolding Holds
  is_loaded_terms t =
      let p = plan_of_tables tables terms in
      let e = ap length (is_loaded_holds t).1 in
      omega (arith, e, length-take term_size terms, length_word_bytes (term_words p), length_term_words p (room t))

  pub short_tables : length tables < table_size → is_loaded tables terms ≡ false
  short_tables h = never _ (λ t. let l = is_loaded_tables (true_T _ t) in omega arith)

  pub short_terms : length terms < term_size → is_loaded tables terms ≡ false
  short_terms h = never _ (λ t. let l = is_loaded_terms (true_T _ t) in omega arith)
