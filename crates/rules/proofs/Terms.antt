-- Laws of terms in tables and of assignments in bytes: what is lawful of all terms of a rule is so of each and of those from a place on.
-- Assumes nothing.
use Prim.Native.Nat.{ℕ, zero, suc, ◌+◌, ◌*◌, ◌-◌, ◌≤◌, ◌<◌}
use native.Mathlib.Nat.{zero-add, add-zero, suc-add, add-suc}
use native.Mathlib.Numerals.{add-one}
use native.Mathlib.Omega.{arith}
use mathlib.Core.Path.{◌≡◌, refl, sym, ◌∙◌, subst}
use mathlib.Core.Bool.{Bool}
use mathlib.Core.List.{List, [], ◌∷◌}
use lib.Dec.{T, leb, ltb, eqb, leb→le, le→leb, ltb→lt, lt→ltb}
use lib.IntN.{ℤ, nat_abs}
use lib.ListN.{length, get_or, length-map, get_or-map}
use Rattle.plpb.specs.Lists.{◌and◌, all, row}
use Rattle.plpb.specs.Plan.{Term, value, rising_above, rising}
use Rattle.plpb.proofs.Lists.{and_left, and_right, and_both, length_row}
use Rattle.words.specs.Words.{word_at}
use Rattle.format.specs.Limits.{max_variables, weight_lawful, terms_lawful}
use Rattle.format.specs.Tables.{term_of}
use Rattle.format.proofs.Bools.{T_true}
use Rattle.format.proofs.Lawful.{LawfulTerms, terms_short, terms_parts, weight_small}
use Rattle.rules.specs.Terms.{bits_in, terms_at, TermReadable, Readable}

-- ---- assignments

pub value_read : (bytes : List ℕ) (i v : ℕ) → i + 1 ≡ v → eqb (get_or bytes i 0) 1 ≡ value (bits_in bytes) v
unfolding bits_in value
value_read bytes i v h = rw (← h, add-one) (sym (get_or-map (λ b. eqb b 1) bytes i 0))

-- ---- terms in a row

pub same_term : {v v' : ℕ} {w w' : ℤ} → v ≡ v' → w ≡ w' → ◌≡◌ {A = Term} (record { variable = v; weight = w }) (record { variable = v'; weight = w' })
same_term p q = λ i. record { variable = p i; weight = q i }

pub terms_none : (g : ℕ → ℕ) (i k : ℕ) → k ≡ 0 → terms_at g i k ≡ []
unfolding terms_at row
terms_none g i k h = rw h

pub terms_next : (g : ℕ → ℕ) (i k : ℕ) → terms_at g i (suc k) ≡ term_of g i ∷ terms_at g (suc i) k
unfolding terms_at row
terms_next g i k = refl

pub length_terms : (g : ℕ → ℕ) (i k : ℕ) → length (terms_at g i k) ≡ k
unfolding terms_at
length_terms g i k = length-map (row i k) (term_of g) ∙ length_row i k

module _ (p : Term → Bool) (g : ℕ → ℕ) where
  -- What holds of each holds of each from a place on ..
  pub each_rest : (i j k : ℕ) → T (all p (terms_at g i (j + k))) → T (all p (terms_at g (i + j) k))
  unfolding terms_at row all
  each_rest i zero k t = rw (add-zero i) (rw (zero-add k) at t)
  each_rest i (suc j) k t =
      rw (add-suc i j, ← suc-add i j) (each_rest (suc i) j k (and_right _ _ (rw (suc-add j k) at t)))

  -- .. and of the one there.
  pub each_at : (i j k : ℕ) → T (all p (terms_at g i k)) → j < k → T (p (term_of g (i + j)))
  unfolding terms_at row all
  each_at i j zero t h = absurd (omega arith)
  each_at i zero (suc k) t h = rw (add-zero i) (and_left _ _ t)
  each_at i (suc j) (suc k) t h = rw (add-suc i j, ← suc-add i j) (each_at (suc i) j k (and_right _ _ t) (omega arith))

-- ---- lawful terms

-- A term whose variable is one of n, and whose weight is lawful.
unfoldable pub term_legal : ℕ → Term → Bool
term_legal n t = ltb 0 t.variable and (leb t.variable n and weight_lawful t.weight)

each_legal : (n v : ℕ) (ts : List Term) → T (rising_above v ts) → T (all (λ t. leb t.variable n and weight_lawful t.weight) ts) → T (all (term_legal n) ts)
unfolding rising_above all term_legal
each_legal n v [] r w = tt
each_legal n v (t ∷ ts) r w =
    let above : v < t.variable = ltb→lt v t.variable (and_left _ _ r) in
    and_both _ _ (and_both _ _ (lt→ltb 0 t.variable (omega arith)) (and_left _ _ w)) (each_legal n t.variable ts (and_right _ _ r) (and_right _ _ w))

pub lawful_legal : (n : ℕ) (ts : List Term) → T (terms_lawful n ts) → T (all (term_legal n) ts)
unfolding terms_lawful rising
lawful_legal n ts t = each_legal n 0 ts (and_left _ _ t) (and_right _ _ t)

module _ (n : ℕ) (t : Term) (l : T (term_legal n t)) where
  pub legal_low : 0 < t.variable
  unfolding term_legal
  legal_low = ltb→lt 0 t.variable (and_left _ _ l)

  pub legal_high : t.variable ≤ n
  unfolding term_legal
  legal_high = leb→le t.variable n (and_left _ _ (and_right _ _ l))

  pub legal_weight : nat_abs t.weight ≤ 1_000_000
  unfolding term_legal
  legal_weight = weight_small t.weight (T_true _ (and_right _ _ (and_right _ _ l)))

-- Terms lawful among n variables are so among more.
within_more : (n m : ℕ) (ts : List Term) → n ≤ m → T (all (λ t. leb t.variable n and weight_lawful t.weight) ts) → T (all (λ t. leb t.variable m and weight_lawful t.weight) ts)
unfolding all
within_more n m [] h w = tt
within_more n m (t ∷ ts) h w =
    let low : t.variable ≤ n = leb→le _ _ (and_left _ _ (and_left _ _ w)) in
    and_both _ _ (and_both _ _ (le→leb t.variable m (omega arith)) (and_right _ _ (and_left _ _ w))) (within_more n m ts h (and_right _ _ w))

pub lawful_more : (n m : ℕ) (ts : List Term) → n ≤ m → T (terms_lawful n ts) → T (terms_lawful m ts)
unfolding terms_lawful
lawful_more n m ts h t = and_both _ _ (and_left _ _ t) (within_more n m ts h (and_right _ _ t))

-- ---- what reading needs

-- Lawful terms of a plan's n variables can be read.
module _ (terms assignment : List ℕ) (first count n : ℕ) where
  pub readable : 8 * (first + count) ≤ length terms → n ≤ max_variables → n ≤ length assignment → T (terms_lawful n (terms_at (word_at terms) first count)) → Readable terms assignment first count
  unfolding rising
  readable inside small bytes t =
      let ts = terms_at (word_at terms) first count in
      let l : LawfulTerms n ts = terms_parts n ts (T_true _ t) in
      let short = terms_short n 0 ts l.rise l.within (omega arith) in
      record {
        inside = inside;
        few = omega (arith, length_terms (word_at terms) first count);
        lawful = lawful_more n (length assignment) ts bytes t;
      }

module _ (terms assignment : List ℕ) (first count : ℕ) (r : Readable terms assignment first count) where
  -- Each term is legal, and so are those from a place on.
  legal : T (all (term_legal (length assignment)) (terms_at (word_at terms) first count))
  legal = lawful_legal (length assignment) (terms_at (word_at terms) first count) r.lawful

  pub legal_at : (i : ℕ) → i < count → T (term_legal (length assignment) (term_of (word_at terms) (first + i)))
  legal_at i h = each_at (term_legal (length assignment)) (word_at terms) first i count legal h

  pub legal_rest : (i : ℕ) → i ≤ count → T (all (term_legal (length assignment)) (terms_at (word_at terms) (first + i) (count - i)))
  legal_rest i h =
      let e : i + (count - i) ≡ count = omega arith in
      each_rest (term_legal (length assignment)) (word_at terms) first i (count - i)
      (subst (λ k. T (all (term_legal (length assignment)) (terms_at (word_at terms) first k))) (sym e) legal)

  pub term_readable : (i : ℕ) → i < count → TermReadable terms assignment (first + i)
  unfolding term_of
  term_readable i h =
      let t = term_of (word_at terms) (first + i) in
      record {
        inside = omega (arith, r.inside);
        low = legal_low (length assignment) t (legal_at i h);
        high = legal_high (length assignment) t (legal_at i h);
      }
