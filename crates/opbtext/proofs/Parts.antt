-- The first line, the objective and the locks as bytes.
-- Assumes nothing.
use Prim.Native.Nat.{ℕ, zero, suc, ◌+◌, ◌-◌, ◌≤◌, ◌<◌}
use native.Mathlib.Numerals.{add-one}
use native.Mathlib.Omega.{arith}
use mathlib.Core.Path.{◌≡◌, refl, sym, ap, ap₂, ◌∙◌}
use mathlib.Core.Bool.{Bool, true, false, cond}
use mathlib.Core.List.{List, [], ◌∷◌, ◌++◌, map}
use lib.Dec.{ltb}
use lib.IntN.{ℤ, nat_abs}
use lib.ListN.{length}
use borrow.Author.Tests.{lt-ltb}
use Rattle.plpb.specs.Lists.{keep, concat, row}
use Rattle.plpb.specs.Plan.{Term}
use Rattle.words.specs.Words.{word_at, signed}
use Rattle.format.specs.Layout.{objective_at, lock_at}
use Rattle.format.specs.Tables.{named, is_some, sparse, term_lock, objective_of}
use Rattle.texts.specs.Texts.{text, decimal, line}
use Rattle.opb.specs.Spell.{sum_items, term_items, spell_line, spell_first, spell_objective}
use Rattle.opb.specs.Tau.{weighted, has_weight, lock_line}
use Rattle.constraints.specs.Bytes.{term_bytes, sum_bytes, lines_bytes}
use Rattle.constraints.proofs.Bytes.{sum_none, sum_cons, line_terms, lines_none, lines_one, lines_append}
use Rattle.clauselines.proofs.Looping.{Pieces}
use Rattle.opbtext.specs.Whole.{dense_terms, lock_lines}

pub first_bytes : (n m : ℕ) → spell_first n m ≡ text "* #variable= " ++ (decimal n ++ (text " #constraint= " ++ (decimal m ++ text "\n")))
unfolding spell_first line text
first_bytes n m = refl

-- ---- the objective

module _ (tables : List ℕ) where
  abbrev f : ℕ → ℕ
  f = word_at tables

  dense_is : (i : ℕ) → named (λ x. signed (f (objective_at x))) (suc i) ≡ weighted (signed (f (4 + i))) (i + 1)
  unfolding named
  dense_is i =
      let e : 3 + suc i ≡ 4 + i = omega arith in
      ap₂ (λ (w : ℤ) (x : ℕ). weighted w x) (ap (λ n. signed (f n)) e) (sym (add-one i))

  module _ (n : ℕ) where
    abbrev pub dense_rest : ℕ → List ℕ
    dense_rest i = sum_bytes (dense_terms tables i (n - i))

    abbrev pub dense_piece : ℕ → List ℕ
    dense_piece i = sum_bytes (weighted (signed (f (4 + i))) (i + 1) ∷ [])

    dense_more : (i : ℕ) → i < n → dense_rest i ≡ dense_piece i ++ dense_rest (suc i)
    unfolding dense_terms row
    dense_more i h =
        let e : n - i ≡ suc (n - suc i) = omega arith in
        ap (λ k. sum_bytes (dense_terms tables i k)) e
        ∙ sum_cons (named (λ x. signed (f (objective_at x))) (suc i)) (dense_terms tables (suc i) (n - suc i))
        ∙ ap (λ t. sum_bytes (t ∷ []) ++ dense_rest (suc i)) (dense_is i)

    dense_none : dense_rest n ≡ []
    unfolding dense_terms row
    dense_none = let e : n - n ≡ 0 = omega arith in ap (λ k. sum_bytes (dense_terms tables n k)) e ∙ sum_none

    pub dense_pieces : Pieces (sum_bytes (dense_terms tables 0 n)) dense_piece dense_rest n
    dense_pieces = record { whole = (let z : n - 0 ≡ n = omega arith in ap (λ k. sum_bytes (dense_terms tables 0 k)) z); more = dense_more; none = dense_none }

  pub objective_terms : concat (map term_bytes (objective_of f)) ≡ sum_bytes (dense_terms tables 0 (f 0))
  unfolding objective_of sparse dense_terms sum_bytes is_some has_weight
  objective_terms = refl

  pub objective_count : length (sparse (λ x. signed (f (3 + x))) 0 (f 0)) ≡ length (objective_of f)
  unfolding objective_of
  objective_count = refl

objective_empty : (ts : List Term) → length ts ≡ 0 → [] ≡ spell_objective ts
unfolding spell_objective
objective_empty [] e = refl
objective_empty (t ∷ ts) e = absurd (omega (arith, e))

pub objective_full : (ts : List Term) → (length ts ≡ 0 → ⊥) → spell_objective ts ≡ text "min: " ++ (concat (map term_bytes ts) ++ text ";\n")
unfolding spell_objective
objective_full [] h = absurd (h refl)
objective_full (t ∷ ts) h = start ∙ ap (λ l. text "min:" ++ (text " " ++ l)) (line_terms (t ∷ ts) (text ";") []) ∙ shape (concat (map term_bytes (t ∷ ts)))
  where
    start : line (text "min:" ∷ (sum_items (t ∷ ts) ++ (text ";" ∷ []))) ≡ text "min:" ++ (text " " ++ line (sum_items (t ∷ ts) ++ (text ";" ∷ [])))
    start = unfold sum_items term_items concat line in refl

    shape : (b : List ℕ) → text "min:" ++ (text " " ++ (b ++ line (text ";" ∷ []))) ≡ text "min: " ++ (b ++ text ";\n")
    shape b = unfold line text in refl

module _ (tables : List ℕ) {m n : ℕ} (c : m ≡ length (sparse (λ x. signed (word_at tables (3 + x))) 0 n)) (i : n ≡ word_at tables 0) where
  counted : m ≡ length (objective_of (word_at tables))
  counted = c ∙ ap (λ k. length (sparse (λ x. signed (word_at tables (3 + x))) 0 k)) i ∙ objective_count tables

  pub objective_none : m ≡ 0 → [] ≡ spell_objective (objective_of (word_at tables))
  objective_none z = objective_empty (objective_of (word_at tables)) (sym counted ∙ z)

  pub objective_some : (m ≡ 0 → ⊥) → spell_objective (objective_of (word_at tables)) ≡ text "min: " ++ (sum_bytes (dense_terms tables 0 (word_at tables 0)) ++ text ";\n")
  objective_some h =
      objective_full (objective_of (word_at tables)) (λ z. h (counted ∙ z))
      ∙ ap (λ l. text "min: " ++ (l ++ text ";\n")) (objective_terms tables)

-- ---- the locks

small_size : (w : ℕ) → w ≤ 2 → nat_abs (signed w) ≡ w
unfolding signed
small_size w h = rw (lt-ltb w 2_147_483_648 (omega (arith, h))) refl

module _ (tables : List ℕ) where
  abbrev lock : ℕ → ℕ
  lock i = word_at tables (lock_at 1 + i)

  lock_is : (i : ℕ) → word_at tables (lock_at (suc i)) ≡ lock i
  lock_is i = let e : lock_at (suc i) ≡ lock_at 1 + i = omega arith in ap (word_at tables) e

  pub lock_none : (i : ℕ) → lock i ≡ 0 → [] ≡ lines_bytes (lock_lines tables i 1)
  unfolding lock_lines sparse row keep is_some named
  lock_none i e = rw (lock_is i, e) (unfold signed in sym lines_none)

  pub lock_some :
      (i : ℕ) → (lock i ≡ 0 → ⊥) → lock i ≤ 2 → spell_line (lock_line (record { variable = i + 1; value = ltb 1 (lock i) })) ≡ lines_bytes (lock_lines tables i 1)
  unfolding lock_lines sparse row keep is_some named term_lock
  lock_some i h l =
      let big : 0 < lock i = positive (lock i) h in
      rw (lock_is i, small_size (lock i) l, lt-ltb 0 (lock i) big, add-one i) (ap (λ w. spell_line (lock_line (record { variable = suc i; value = ltb 1 w }))) (sym (small_size (lock i) l)) ∙ sym (lines_one (lock_line (record { variable = suc i; value = ltb 1 (nat_abs (signed (lock i))) }))))
    where
      positive : (w : ℕ) → (w ≡ 0 → ⊥) → 0 < w
      positive zero k = absurd (k refl)
      positive (suc v) k = omega arith

  -- A lock as it is read.
  pub read_lock : (i : ℕ) {w : ℕ} → w ≡ lock i → (w ≡ 0 → ⊥) → word_at tables (lock_at (1 + i)) ≤ 2
      → spell_line (lock_line (record { variable = i + 1; value = ltb 1 w })) ≡ lines_bytes (lock_lines tables i 1)
  read_lock i e h l =
      let at : lock_at (1 + i) ≡ lock_at 1 + i = omega arith in
      ap (λ v. spell_line (lock_line (record { variable = i + 1; value = ltb 1 v }))) e ∙ lock_some i (λ z. h (e ∙ z)) (rw at at l)

  module _ (n : ℕ) where
    abbrev pub lock_rest : ℕ → List ℕ
    lock_rest i = lines_bytes (lock_lines tables i (n - i))

    abbrev pub lock_piece : ℕ → List ℕ
    lock_piece i = lines_bytes (lock_lines tables i 1)

    lock_split : (i k : ℕ) → lock_lines tables i (suc k) ≡ lock_lines tables i 1 ++ lock_lines tables (suc i) k
    unfolding lock_lines sparse row keep
    lock_split i k = by (is_some (named (λ x. signed (word_at tables (lock_at x))) (suc i)))
      where
        rest : List Term
        rest = keep is_some (map (named (λ x. signed (word_at tables (lock_at x)))) (row (suc (suc i)) k))

        by : (b : Bool)
            → map lock_line (map term_lock (cond b (named (λ x. signed (word_at tables (lock_at x))) (suc i) ∷ rest) rest))
            ≡ map lock_line (map term_lock (cond b (named (λ x. signed (word_at tables (lock_at x))) (suc i) ∷ []) [])) ++ map lock_line (map term_lock rest)
        by true = refl
        by false = refl

    lock_more : (i : ℕ) → i < n → lock_rest i ≡ lock_piece i ++ lock_rest (suc i)
    lock_more i h =
        let e : n - i ≡ suc (n - suc i) = omega arith in
        ap (λ k. lines_bytes (lock_lines tables i k)) e
        ∙ ap lines_bytes (lock_split i (n - suc i))
        ∙ lines_append (lock_lines tables i 1) (lock_lines tables (suc i) (n - suc i))

    lock_done : lock_rest n ≡ []
    unfolding lock_lines sparse row keep
    lock_done = let e : n - n ≡ 0 = omega arith in ap (λ k. lines_bytes (lock_lines tables n k)) e ∙ lines_none

    pub lock_pieces : Pieces (lines_bytes (lock_lines tables 0 n)) lock_piece lock_rest n
    lock_pieces = record { whole = (let z : n - 0 ≡ n = omega arith in ap (λ k. lines_bytes (lock_lines tables 0 k)) z); more = lock_more; none = lock_done }
