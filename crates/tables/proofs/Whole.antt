-- Laws of the whole tables: the sections side by side, and what loading comes to.
-- Assumes nothing.
use Prim.Native.Nat.{ℕ, ◌+◌, ◌≤◌, ◌<◌}
use native.Mathlib.Omega.{arith}
use mathlib.Core.Path.{◌≡◌, refl, sym, ap, ap₂, ◌∙◌}
use mathlib.Core.Bool.{Bool, true, false}
use mathlib.Core.List.{List, [], ◌∷◌, ◌++◌, append_assoc}
use lib.Dec.{ltb}
use lib.ListN.{length, drop, length-append, length-map}
use borrow.Author.Tests.{lt-ltb, le-ltb}
use borrow.Rule.Slice.PartMut.{post_of, put_mid}
use Rattle.plpb.specs.Lists.{◌or◌, row}
use Rattle.plpb.specs.Plan.{Plan, lock_of}
use Rattle.plpb.specs.Tallies.{rules_of}
use Rattle.words.specs.Words.{word_bytes, unsigned}
use Rattle.words.specs.Writes.{front, put}
use Rattle.words.proofs.Words.{length_word_bytes}
use Rattle.words.proofs.Writes.{front_before, length_front, length_put, lent_part, put_put, word_bytes_append}
use Rattle.format.specs.Limits.{term_count}
use Rattle.format.specs.File.{Reading, refused, accepted, read}
use Rattle.format.specs.Tables.{coefficient, clause_entries, rule_entries, lock_word, base_words, table_words, term_words, table_size, term_size}
use Rattle.format.proofs.Lists.{length_row}
use Rattle.format.proofs.Lawful.{LawfulPlan, room_for}
use Rattle.format.proofs.Spells.{length_pad_to}
use Rattle.format.proofs.Sections.{length_clause_entries, length_rule_entries, length_base_words, length_table_words, length_term_words}
use Rattle.verdict.specs.Answers.{Answer, Accepted, Refused}
use Rattle.tables.specs.Load.{outcome, too_small, loading, tables_of, terms_of, tables_after, terms_after}
use Rattle.tables.specs.Places.{said}
use Rattle.tables.specs.Sections.{objective_words, clause_words, rule_words, lock_words}
use Rattle.tables.proofs.Filled.{lawful_file}
use Rattle.format.specs.Layout.{base_size, clause_section_size, clause_word_count, clauses_byte, lock_section_size, locks_byte, objective_byte, objective_size, rule_section_size, rule_word_count, rules_byte}

-- How long each section is.
module _ (p : Plan) (q : LawfulPlan p) where
  objective_long : length (word_bytes (objective_words p)) ≡ objective_size
  unfolding objective_words
  objective_long =
      length_word_bytes (objective_words p)
      ∙ omega (arith, length-map (row 1 512) (λ x. unsigned (coefficient p.objective x)), length_row 1 512)

  clauses_long : length (word_bytes (clause_words p)) ≡ clause_section_size
  unfolding clause_words
  clauses_long =
      let n = length_clause_entries 0 p.clauses in
      length_word_bytes (clause_words p) ∙ omega (arith, length_pad_to clause_word_count (clause_entries 0 p.clauses) (omega (arith, n, q.clause_count)))

  rules_long : length (word_bytes (rule_words p)) ≡ rule_section_size
  unfolding rule_words
  rules_long =
      let n = length_rule_entries 0 (rules_of p) in
      length_word_bytes (rule_words p) ∙ omega (arith, length_pad_to rule_word_count (rule_entries 0 (rules_of p)) (omega (arith, n, q.rule_count)))

  locks_long : length (word_bytes (lock_words p)) ≡ lock_section_size
  unfolding lock_words
  locks_long = length_word_bytes (lock_words p) ∙ omega (arith, length-map (row 1 512) (λ x. lock_word (lock_of p x)), length_row 1 512)

  pub terms_long : length (word_bytes (term_words p)) ≡ term_size
  terms_long = omega (arith, length_word_bytes (term_words p), length_term_words p (room_for p q))

  -- The sections behind the counts, written one behind the other: the first three, then the locks.
  abbrev three : List ℕ → List ℕ → List ℕ → List ℕ → List ℕ
  three o y z w = put_mid rules_byte rule_section_size (put_mid clauses_byte clause_section_size (put_mid objective_byte objective_size o y) z) w

  abbrev four : List ℕ → List ℕ → List ℕ → List ℕ → List ℕ → List ℕ
  four o y z w k = put_mid locks_byte lock_section_size (three o y z w) k

  module _ (o y z w : List ℕ) (n : table_size ≤ length o) (a : y ≡ word_bytes (objective_words p)) (b : z ≡ word_bytes (clause_words p)) (c : w ≡ word_bytes (rule_words p)) where
    ly : length y ≡ objective_size
    ly = ap length a ∙ objective_long

    lz : length z ≡ clause_section_size
    lz = ap length b ∙ clauses_long

    lw : length w ≡ rule_section_size
    lw = ap length c ∙ rules_long

    long : objective_byte + length (y ++ z ++ w) ≡ locks_byte
    long = omega (arith, length-append (y ++ z) w, length-append y z, ly, lz, lw)

    two : put clauses_byte z (put objective_byte y o) ≡ put objective_byte (y ++ z) o
    two = ap (λ (m : ℕ). put (16 + m) z (put objective_byte y o)) (sym ly) ∙ put_put objective_byte y z o (omega (arith, ly, n))

    behind_three : three o y z w ≡ put objective_byte (y ++ z ++ w) o
    behind_three =
        lent_part rules_byte locks_byte _ w (omega arith) lw
        ∙ ap (put rules_byte w) (lent_part clauses_byte rules_byte _ z (omega arith) lz ∙ ap (put clauses_byte z) (lent_part objective_byte clauses_byte o y (omega arith) ly) ∙ two)
        ∙ ap (λ (m : ℕ). put m w (put objective_byte (y ++ z) o)) (let e : rules_byte ≡ objective_byte + length (y ++ z) = omega (arith, length-append y z, ly, lz) in e)
        ∙ put_put objective_byte (y ++ z) w o (omega (arith, length-append y z, ly, lz, n))

    pub three_long : length (three o y z w) ≡ length o
    three_long = ap length behind_three ∙ length_put objective_byte (y ++ z ++ w) o (omega (arith, long, n))

    module _ (k : List ℕ) (d : k ≡ word_bytes (lock_words p)) where
      lk : length k ≡ lock_section_size
      lk = ap length d ∙ locks_long

      behind_head : four o y z w k ≡ put objective_byte (y ++ z ++ w ++ k) o
      behind_head =
          lent_part locks_byte base_size _ k (omega arith) lk
          ∙ ap (put locks_byte k) behind_three
          ∙ ap (λ (m : ℕ). put m k (put objective_byte (y ++ z ++ w) o)) (sym long)
          ∙ put_put objective_byte (y ++ z ++ w) k o (omega (arith, long, n))

      pub behind_long : length (four o y z w k) ≡ length o
      behind_long =
          ap length behind_head ∙ length_put objective_byte (y ++ z ++ w ++ k) o (omega (arith, length-append (y ++ z ++ w) k, long, lk, n))

      abbrev sections : List ℕ
      sections = objective_words p ++ (clause_words p ++ (rule_words p ++ lock_words p))

      bytes : y ++ z ++ w ++ k ≡ word_bytes sections
      bytes =
          append_assoc (y ++ z) w k
          ∙ append_assoc y z (w ++ k)
          ∙ ap₂ ◌++◌ a (ap₂ ◌++◌ b (ap₂ ◌++◌ c d ∙ sym (word_bytes_append (rule_words p) (lock_words p))) ∙ sym (word_bytes_append (clause_words p) (rule_words p ++ lock_words p)))
          ∙ sym (word_bytes_append (objective_words p) (clause_words p ++ (rule_words p ++ lock_words p)))

      pub tables_whole :
          (u : List ℕ) {v cl ru te : ℕ} → v ≡ p.variables → cl ≡ length p.clauses → ru ≡ length (rules_of p) → te ≡ term_count p
          → u ≡ front (word_bytes (v ∷ cl ∷ ru ∷ te ∷ [])) (four o y z w k)
          → u ≡ front (word_bytes (base_words p)) o
      unfolding base_words objective_words clause_words rule_words lock_words
      tables_whole u {v} {cl} {ru} {te} pv pc pr pt e =
          let hs = v ∷ cl ∷ ru ∷ te ∷ [] in
          let m : length (word_bytes hs) ≡ 16 = length_word_bytes hs in
          e
          ∙ ap (front (word_bytes hs)) (behind_head ∙ ap (λ (j : ℕ). put j (y ++ z ++ w ++ k) o) (sym m))
          ∙ front_before (word_bytes hs) (y ++ z ++ w ++ k) o (omega (arith, m, n))
          ∙ ap (λ (x : List ℕ). front x o) (ap (λ (x : List ℕ). word_bytes hs ++ x) bytes ∙ sym (word_bytes_append hs sections))
          ∙ ap (λ (ws : List ℕ). front (word_bytes (ws ++ sections)) o) (λ i. pv i ∷ pc i ∷ pr i ∷ pt i ∷ [])

  pub base_long : length (word_bytes (base_words p)) ≡ base_size
  base_long = omega (arith, length_word_bytes (base_words p), length_base_words p (room_for p q))

  pub base_size_lem : (o : List ℕ) → table_size ≤ length o → length (front (word_bytes (base_words p)) o) ≡ length o
  base_size_lem o n = length_front (word_bytes (base_words p)) o (omega (arith, base_long))

-- The term table.
pub terms_whole :
    (p : Plan) → LawfulPlan p → (o ys : List ℕ) → term_size ≤ length o → ys ≡ word_bytes (term_words p) → ys ++ post_of 0 term_size o ≡ front (word_bytes (term_words p)) o
unfolding front
terms_whole p q o ys n e = ap₂ (λ (x : List ℕ) (k : ℕ). x ++ drop k o) e (sym (terms_long p q))

-- What loading comes to.
pub not_accepted : (n o : ℕ) → ◌≡◌ {A = Answer} (Refused n o) Accepted → ⊥
not_accepted n o e = let z : ◌≡◌ {A = ℕ} 0 1 = cc in omega arith

pub accepts : (r : Reading Plan) → Accepted ≡ outcome r → r ≡ accepted (said r)
unfolding outcome said
accepts (refused n o) e = absurd (not_accepted n o (sym e))
accepts (accepted p) e = refl

or_true : (b : Bool) → (b or true) ≡ true
unfolding ◌or◌
or_true true = refl
or_true false = refl

pub refused_tables : (r : Reading Plan) (n o : ℕ) (t : List ℕ) → Refused n o ≡ outcome r → t ≡ tables_of r t
unfolding outcome tables_of
refused_tables (refused m k) n o t e = refl
refused_tables (accepted p) n o t e = absurd (not_accepted n o e)

pub refused_terms : (r : Reading Plan) (n o : ℕ) (t : List ℕ) → Refused n o ≡ outcome r → t ≡ terms_of r t
unfolding outcome terms_of
refused_terms (refused m k) n o t e = refl
refused_terms (accepted p) n o t e = absurd (not_accepted n o e)

accepted_outcome : (r : Reading Plan) → r ≡ accepted (said r) → Accepted ≡ outcome r
unfolding outcome
accepted_outcome r e = sym (ap outcome e)

module _ (file : List ℕ) (e : read file ≡ accepted (said (read file))) where
  lawful_here : LawfulPlan (said (read file))
  lawful_here = lawful_file file (said (read file)) e

  accepted_tables : (t : List ℕ) → front (word_bytes (table_words (said (read file)))) t ≡ tables_of (read file) t
  unfolding front tables_of
  accepted_tables t =
      let p = said (read file) in
      let n : length (word_bytes (table_words p)) ≡ table_size = omega (arith, length_word_bytes (table_words p), length_table_words p (room_for p lawful_here)) in
      ap (λ (k : ℕ). word_bytes (table_words p) ++ drop k t) n
      ∙ sym (ap (λ (r : Reading Plan). tables_of r t) e)

  accepted_terms : (t : List ℕ) → front (word_bytes (term_words (said (read file)))) t ≡ terms_of (read file) t
  unfolding front terms_of
  accepted_terms t =
      let p = said (read file) in
      ap (λ (k : ℕ). word_bytes (term_words p) ++ drop k t) (terms_long p lawful_here) ∙ sym (ap (λ (r : Reading Plan). terms_of r t) e)

module _ (file tables terms : List ℕ) where
  small : too_small tables terms ≡ true → (Refused 21 0 ≡ loading file tables terms) × ((tables ≡ tables_after file tables terms) × (terms ≡ terms_after file tables terms))
  unfolding loading tables_after terms_after
  small e = (rw e, (rw e, rw e))

  pub small_tables : length tables < table_size → (Refused 21 0 ≡ loading file tables terms) × ((tables ≡ tables_after file tables terms) × (terms ≡ terms_after file tables terms))
  unfolding too_small ◌or◌
  small_tables h = small (rw (lt-ltb _ _ h))

  pub small_terms_lem : length terms < term_size → (Refused 21 0 ≡ loading file tables terms) × ((tables ≡ tables_after file tables terms) × (terms ≡ terms_after file tables terms))
  unfolding too_small
  small_terms_lem h = small (rw (lt-ltb _ _ h) (or_true (ltb (length tables) table_size)))

  module _ (a : table_size ≤ length tables) (b : term_size ≤ length terms) where
    large : too_small tables terms ≡ false
    unfolding too_small ◌or◌
    large = rw (le-ltb _ _ a, le-ltb _ _ b)

    pub kept :
        (v : Answer) (n o : ℕ) → v ≡ outcome (read file) → v ≡ Refused n o
        → (v ≡ loading file tables terms) × ((tables ≡ tables_after file tables terms) × (terms ≡ terms_after file tables terms))
    unfolding loading tables_after terms_after
    kept v n o e r =
        (rw large e, (rw large (refused_tables (read file) n o tables (sym r ∙ e)), rw large (refused_terms (read file) n o terms (sym r ∙ e))))

    pub filled :
        (t u : List ℕ) → read file ≡ accepted (said (read file)) → t ≡ front (word_bytes (table_words (said (read file)))) tables → u ≡ front (word_bytes (term_words (said (read file)))) terms
        → (Accepted ≡ loading file tables terms) × ((t ≡ tables_after file tables terms) × (u ≡ terms_after file tables terms))
    unfolding loading tables_after terms_after
    filled t u e p q =
        (rw large (accepted_outcome (read file) e), (rw large (p ∙ accepted_tables file e tables), rw large (q ∙ accepted_terms file e terms)))
