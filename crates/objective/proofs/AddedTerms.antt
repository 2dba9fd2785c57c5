-- The objective's terms written one behind the other: those of the variables passed are written, and those to come will be.
-- Assumes nothing.
use Prim.Native.Nat.{ℕ, suc, ◌+◌, ◌*◌, ◌-◌, ◌≤◌, ◌<◌, zero-le}
use native.Mathlib.Nat.{eq-or-lt_of_le, add-zero}
use native.Mathlib.Numerals.{add-one}
use native.Mathlib.Omega.{arith}
use mathlib.Core.Path.{◌≡◌, refl, sym, ap, ap₂, ◌∙◌}
use mathlib.Core.List.{List, [], ◌∷◌, ◌++◌}
use mathlib.Core.Logic.{⊎_elim}
use lib.IntN.{ℤ, nat_abs}
use lib.ListN.{length, length-append}
use Rattle.plpb.specs.Lists.{keep, row}
use Rattle.plpb.specs.Plan.{Term}
use Rattle.words.specs.Words.{word_at, signed, unsigned}
use Rattle.words.proofs.Words.{unsigned_signed}
use Rattle.format.specs.Tables.{term_entries, objective_of, sparse, named, is_some}
use Rattle.format.proofs.Bounds.{nat_abs_zero}
use Rattle.format.proofs.Objective.{sparse_skip, sparse_hold}
use Rattle.format.proofs.Sections.{length_term_entries}
use Rattle.words.specs.Writes.{put_words}
use Rattle.objective.specs.Added.{terms_above}
use Rattle.costs.proofs.Coefficients.{place}
use Rattle.words.proofs.Writes.{no_words, words_next, length_put_words}

pub term_entries_append : (ts us : List Term) → term_entries (ts ++ us) ≡ term_entries ts ++ term_entries us
unfolding term_entries
term_entries_append [] us = refl
term_entries_append (t ∷ ts) us = ap (λ ws. t.variable ∷ unsigned t.weight ∷ ws) (term_entries_append ts us)

module _ (tables : List ℕ) where
  pub above_end : (v : ℕ) → terms_above tables v 0 ≡ []
  unfolding terms_above sparse keep row
  above_end v = refl

  pub above_all : terms_above tables 0 (word_at tables 0) ≡ objective_of (word_at tables)
  unfolding terms_above sparse named is_some objective_of
  above_all = refl

  abbrev weight : ℕ → ℤ
  weight x = signed (word_at tables (3 + x))

  pub above_split : (v k : ℕ) → terms_above tables v (suc k) ≡ terms_above tables v 1 ++ terms_above tables (suc v) k
  unfolding terms_above sparse keep row
  above_split v k =
      ⊎_elim
      (λ z. sparse_skip weight v k (sym z) ∙ ap (λ ts. ts ++ sparse weight (suc v) k) (sym (sparse_skip weight v 0 (sym z))))
      (λ z. sparse_hold weight v k z ∙ ap (λ ts. ts ++ sparse weight (suc v) k) (sym (sparse_hold weight v 0 z)))
      (eq-or-lt_of_le {n = 0} (zero-le {n = nat_abs (weight (suc v))}))

  -- A word of 0 is no term; any other is the term of variable v + 1.
  pub no_term_lem : (v : ℕ) → word_at tables (4 + v) ≡ 0 → terms_above tables v 1 ≡ []
  unfolding terms_above signed
  no_term_lem v e = sparse_skip weight v 0 (rw (place v, e)) ∙ above_end (suc v)

  is_zero : (w : ℕ) → w < 4_294_967_296 → nat_abs (signed w) ≡ 0 → w ≡ 0
  unfolding unsigned
  is_zero w h e = sym (unsigned_signed w h) ∙ ap unsigned (sym (nat_abs_zero (signed w) e))

  pub one_term :
      (v : ℕ) → (word_at tables (4 + v) ≡ 0 → ⊥) → word_at tables (4 + v) < 4_294_967_296
      → terms_above tables v 1 ≡ record { variable = suc v; weight = weight (suc v) } ∷ []
  unfolding terms_above named sparse keep row
  one_term v n h =
      ⊎_elim (λ z. absurd (n (is_zero (word_at tables (4 + v)) h (rw (← place v) (sym z))))) (λ z. sparse_hold weight v 0 z)
      (eq-or-lt_of_le {n = 0} (zero-le {n = nat_abs (weight (suc v))}))

  pub one_entry :
      (v : ℕ) → (word_at tables (4 + v) ≡ 0 → ⊥) → word_at tables (4 + v) < 4_294_967_296
      → term_entries (terms_above tables v 1) ≡ (v + 1) ∷ word_at tables (4 + v) ∷ []
  unfolding term_entries
  one_entry v n h =
      ap term_entries (one_term v n h)
      ∙ ap₂ (λ x w. x ∷ w ∷ []) (sym (add-one v)) (ap (λ i. unsigned (signed (word_at tables i))) (place v) ∙ unsigned_signed (word_at tables (4 + v)) h)

  -- One variable's step, with the word that was read and what was written.
  module _ (terms : List ℕ) (v at : ℕ) where
    pub skipped :
        word_at tables (4 + v) ≡ 0
        → (terms ≡ put_words (2 * at) (term_entries (terms_above tables v 1)) terms) × (at ≡ at + length (terms_above tables v 1))
    unfolding term_entries
    skipped e = rw (no_term_lem v e) (sym (no_words (2 * at) terms), sym (add-zero at))

    pub written :
        (out : List ℕ) (x w : ℕ) → w ≡ word_at tables (4 + v) → w < 4_294_967_296 → (w ≡ 0 → ⊥) → x ≡ v + 1
        → out ≡ put_words (2 * at) (x ∷ w ∷ []) terms
        → (out ≡ put_words (2 * at) (term_entries (terms_above tables v 1)) terms) × (at + 1 ≡ at + length (terms_above tables v 1))
    written out x w e h n f o =
        let some : word_at tables (4 + v) ≡ 0 → ⊥ = λ z. n (e ∙ z) in
        let low : word_at tables (4 + v) < 4_294_967_296 = rw e at h in (
          o ∙ ap₂ (λ a b. put_words (2 * at) (a ∷ b ∷ []) terms) f e ∙ ap (λ ws. put_words (2 * at) ws terms) (sym (one_entry v some low)),
          rw (one_term v some low),
        )

  few : (v : ℕ) → length (terms_above tables v 1) ≤ 1
  unfolding terms_above sparse keep row
  few v =
      ⊎_elim (λ z. rw (sparse_skip weight v 0 (sym z)) (omega arith)) (λ z. rw (sparse_hold weight v 0 z) (omega arith))
      (eq-or-lt_of_le {n = 0} (zero-le {n = nat_abs (weight (suc v))}))

-- With the terms of v of the n variables written over `before`, and the next to go to `at`.
pub record Adding (tables : List ℕ) (first n : ℕ) (before terms : List ℕ) (at v : ℕ) : Type 0 where
  pub within : v ≤ n
  pub low : at ≤ first + v
  pub counted : at + length (terms_above tables v (n - v)) ≡ first + length (terms_above tables 0 n)
  pub joined :
      put_words (2 * at) (term_entries (terms_above tables v (n - v))) terms ≡ put_words (2 * first) (term_entries (terms_above tables 0 n)) before
  pub kept : length terms ≡ length before

module _ (tables : List ℕ) (first n : ℕ) (before : List ℕ) where
  pub adding_none : Adding tables first n before before first 0
  adding_none =
      let z : n - 0 ≡ n = omega arith in
      record { within = zero-le; low = omega arith; counted = rw z; joined = rw z; kept = refl }

  module _ (room : 8 * (first + n) ≤ length before) (terms : List ℕ) (at v : ℕ) (h : v < n) (a : Adding tables first n before terms at v) where
    pub adding_room : 8 * at + 8 ≤ length terms
    adding_room = omega (arith, a.low, a.kept)

    pub adding_more :
        (out : List ℕ) (r : ℕ) → out ≡ put_words (2 * at) (term_entries (terms_above tables v 1)) terms → r ≡ at + length (terms_above tables v 1)
        → Adding tables first n before out r (v + 1)
    adding_more out r o e =
        let us = terms_above tables v 1 in
        let k : n - v ≡ suc (n - suc v) = omega arith in
        let vs = terms_above tables (suc v) (n - suc v) in
        let split : terms_above tables v (n - v) ≡ us ++ vs = ap (terms_above tables v) k ∙ above_split tables v (n - suc v) in
        let m = length_term_entries us in
        let l = few tables v in
        let fits : 4 * (2 * at + length (term_entries us)) ≤ length terms = omega (arith, adding_room) in
        let next : 2 * r ≡ 2 * at + length (term_entries us) = omega arith in
        record {
          within = omega arith;
          low = omega (arith, a.low);
          counted = rw (add-one v) (omega (arith, a.counted, ap length split, length-append us vs));
          joined =
              ap (λ x. put_words (2 * r) (term_entries (terms_above tables x (n - x))) out) (add-one v)
              ∙ ap₂ (λ i s. put_words i (term_entries vs) s) next o
              ∙ words_next (2 * at) (term_entries us) (term_entries vs) terms fits
              ∙ ap (λ ws. put_words (2 * at) ws terms) (sym (ap term_entries split ∙ term_entries_append us vs))
              ∙ a.joined;
          kept = ap length o ∙ length_put_words (2 * at) (term_entries us) terms fits ∙ a.kept;
        }

  pub adding_all :
      (terms : List ℕ) (at v : ℕ) → n ≡ word_at tables 0 → n ≤ v → Adding tables first n before terms at v
      → (terms ≡ put_words (2 * first) (term_entries (objective_of (word_at tables))) before) × (at ≡ first + length (objective_of (word_at tables)))
  unfolding term_entries
  adding_all terms at v e h a =
      let k : n - v ≡ 0 = omega arith in
      let none : terms_above tables v (n - v) ≡ [] = ap (terms_above tables v) k ∙ above_end tables v in
      let all : terms_above tables 0 n ≡ objective_of (word_at tables) = ap (terms_above tables 0) e ∙ above_all tables in (
        sym (no_words (2 * at) terms)
            ∙ ap (λ ts. put_words (2 * at) (term_entries ts) terms) (sym none)
            ∙ a.joined
            ∙ ap (λ ts. put_words (2 * first) (term_entries ts) before) all,
        omega (arith, a.counted, ap length none, ap length all),
      )
