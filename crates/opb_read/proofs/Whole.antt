-- What reading a text comes to, and the sections that no constraint fills.
-- Assumes nothing.
use Prim.Native.Nat.{ℕ, ◌≤◌, ◌<◌}
use native.Mathlib.Omega.{arith}
use mathlib.Core.Path.{◌≡◌, refl, sym, ap, ◌∙◌}
use mathlib.Core.Bool.{Bool, true, false, cond}
use mathlib.Core.List.{List, [], ◌∷◌, ◌++◌}
use lib.Dec.{ltb}
use lib.ListN.{length, drop, replicate, length-map}
use borrow.Author.Tests.{lt-ltb, le-ltb}
use Rattle.plpb.specs.Lists.{◌or◌}
use Rattle.plpb.specs.Plan.{Plan, absent, lock_among, lock_of, is_variable, rising, rising_above}
use Rattle.plpb.specs.Lists.{all}
use Rattle.plpb.proofs.Lists.{or_true}
use Rattle.words.specs.Words.{word_bytes, unsigned}
use Rattle.words.specs.Writes.{front}
use Rattle.words.proofs.Words.{length_word_bytes}
use Rattle.format.specs.File.{Reading, refused, accepted}
use Rattle.format.specs.Tables.{coefficient, lock_word, table_words, term_words, table_size, term_size}
use Rattle.format.proofs.Lawful.{room_for}
use Rattle.format.proofs.Sections.{length_table_words}
use Rattle.format.specs.Layout.{lock_section_size}
use Rattle.verdict.specs.Answers.{Answer, Accepted, Refused}
use Rattle.verdict.specs.Answers.{outcome}
use Rattle.tables.specs.Load.{too_small, tables_of, terms_of}
use Rattle.tables.specs.Sections.{lock_words, placed}
use Rattle.tables.proofs.Whole.{terms_long, not_accepted, refused_tables, refused_terms}
use Rattle.tables.proofs.Dense.{dense}
use Rattle.tokens.proofs.Numbers.{seen_small}
use Rattle.statements.specs.Grammar.{rule_at}
use Rattle.opb_lines.specs.ReadText.{variables_in, constraints_in, plan_of_text, read_text}
use Rattle.opb_lines.specs.Lines.{FirstOf}
use Rattle.opb_lines.specs.declared.First.{First}
use Rattle.opb_fill.specs.Fill.{Says}
use Rattle.opb_fill.proofs.Accepted.{constraint_places, said, lawful_text}
use Rattle.opb_read.specs.Reads.{reading, tables_read, terms_read}

plan_here : (s : List ℕ) {p : Plan} → read_text s ≡ accepted p → Says s
plan_here s {p} e = e ∙ ap accepted (said s p e).0

by_reading_lem : (s : List ℕ) (r : Reading Plan) → read_text s ≡ r → Accepted ≡ outcome r → Says s
unfolding outcome
by_reading_lem s (refused n o) q e = absurd (not_accepted n o (sym e))
by_reading_lem s (accepted p) q e = plan_here s q

pub says : (s : List ℕ) → Accepted ≡ outcome (read_text s) → Says s
says s e = by_reading_lem s (read_text s) refl e

-- The numbers of an accepted text's first line.
module _ (s : List ℕ) (e : Says s) (r : First) (h : FirstOf s r) where
  pub first_variables : r.variables ≡ (plan_of_text s).variables
  unfolding plan_of_text
  first_variables = let w = lawful_text s (plan_of_text s) e in h.variables ∙ seen_small (variables_in s) (omega (arith, w.high))

  pub first_constraints : r.constraints ≡ length (plan_of_text s).clauses
  unfolding plan_of_text
  first_constraints =
      let k = (said s (plan_of_text s) e).1 in
      h.constraints
      ∙ seen_small (constraints_in s) (omega (arith, k.number, k.count))
      ∙ omega (arith, k.number, length-map (constraint_places s) (λ at. rule_at s at ∷ []))

-- "no locks": a section of zeros.
free : (p : Plan) (x : ℕ) → p.locks ≡ [] → 0 ≡ lock_word (lock_of p x)
unfolding lock_of lock_word lock_among is_variable
free p x e = rw e (go (is_variable p x))
  where
    go : (b : Bool) → 0 ≡ lock_word (cond b absent absent)
    go true = refl
    go false = refl

no_locks : (s : List ℕ) → replicate lock_section_size 0 ≡ word_bytes (lock_words (plan_of_text s))
unfolding lock_words placed coefficient unsigned rising rising_above all plan_of_text
no_locks s =
    dense 0 [] (λ x. lock_word (lock_of (plan_of_text s) x)) (omega arith) (record { rise = refl; within = refl }) (λ x l. free (plan_of_text s) x refl)

pub zeros_free : (s : List ℕ) {n : ℕ} {z : List ℕ} → z ≡ replicate n 0 → n ≡ lock_section_size → z ≡ word_bytes (lock_words (plan_of_text s))
zeros_free s e f = e ∙ ap (λ n. replicate n 0) f ∙ no_locks s

module _ (s : List ℕ) (e : Says s) where
  accepted_tables : (t : List ℕ) → front (word_bytes (table_words (plan_of_text s))) t ≡ tables_of (read_text s) t
  unfolding front tables_of
  accepted_tables t =
      let p = plan_of_text s in
      let n : length (word_bytes (table_words p)) ≡ table_size = omega (arith, length_word_bytes (table_words p), length_table_words p (room_for p (lawful_text s p e))) in
      ap (λ k. word_bytes (table_words p) ++ drop k t) n ∙ sym (ap (λ r. tables_of r t) e)

  accepted_terms : (t : List ℕ) → front (word_bytes (term_words (plan_of_text s))) t ≡ terms_of (read_text s) t
  unfolding front terms_of
  accepted_terms t =
      let p = plan_of_text s in
      ap (λ k. word_bytes (term_words p) ++ drop k t) (terms_long p (lawful_text s p e)) ∙ sym (ap (λ r. terms_of r t) e)

module _ (s tables terms : List ℕ) where
  abbrev Left : Answer → List ℕ → List ℕ → Type 0
  Left a t u = (a ≡ reading s tables terms) × ((t ≡ tables_read s tables terms) × (u ≡ terms_read s tables terms))

  small : too_small tables terms ≡ true → Left (Refused 21 0) tables terms
  unfolding reading tables_read terms_read
  small e = (rw e, (rw e, rw e))

  pub small_tables : length tables < table_size → Left (Refused 21 0) tables terms
  unfolding too_small ◌or◌
  small_tables h = small (rw (lt-ltb _ _ h))

  pub small_terms_lem : length terms < term_size → Left (Refused 21 0) tables terms
  unfolding too_small
  small_terms_lem h = small (rw (lt-ltb _ _ h) (or_true (ltb (length tables) table_size)))

  module _ (a : table_size ≤ length tables) (b : term_size ≤ length terms) where
    large : too_small tables terms ≡ false
    unfolding too_small ◌or◌
    large = rw (le-ltb _ _ a, le-ltb _ _ b)

    pub kept : (v : Answer) (n o : ℕ) → v ≡ outcome (read_text s) → v ≡ Refused n o → Left v tables terms
    unfolding reading tables_read terms_read
    kept v n o e r =
        (rw large e, (rw large (refused_tables (read_text s) n o tables (sym r ∙ e)), rw large (refused_terms (read_text s) n o terms (sym r ∙ e))))

    pub filled : (t u : List ℕ) → Says s → t ≡ front (word_bytes (table_words (plan_of_text s))) tables → u ≡ front (word_bytes (term_words (plan_of_text s))) terms → Left Accepted t u
    unfolding reading tables_read terms_read outcome
    filled t u e p q =
        (rw large (sym (ap outcome e)), (rw large (p ∙ accepted_tables s e tables), rw large (q ∙ accepted_terms s e terms)))
