-- Locks and the words that stand for them: a lock's word is the coefficient of its term, so the laws of sums serve the locks too.
use Prim.Native.Nat.{ℕ, zero, suc, ◌+◌, ◌≤◌, ◌<◌}
use mathlib.Core.Path.{◌≡◌, refl, ap₂}
use mathlib.Core.Bool.{Bool, true, false, cond}
use mathlib.Core.List.{List, [], ◌∷◌, map}
use native.Mathlib.Decide.{dec_le}
use native.Mathlib.Omega.{arith}
use lib.Dec.{eqb, ltb}
use lib.IntN.{ℤ, pos, nat_abs}
use borrow.Author.Tests.{lt-ltb, le-ltb}
use Rattle.plpb.specs.Lists.{◌and◌, all}
use Rattle.plpb.specs.Plan.{Bound, absent, present, Lock, Plan, is_variable, lock_among, lock_of}
use Rattle.words.specs.Words.{signed, unsigned}
use Rattle.words.proofs.Words.{signed_unsigned}
use Rattle.format.specs.Limits.{lock_term, lock_terms, term_within}
use Rattle.format.specs.Tables.{coefficient, lock_word, term_lock, named, sparse}
use Rattle.format.proofs.Objective.{coefficient_above, one_more, sparse_none}

-- A variable of the plan, and one beyond the last.
pub variable_here : (p : Plan) (x : ℕ) → 1 ≤ x → x ≤ p.variables → is_variable p x ≡ true
unfolding is_variable ◌and◌
variable_here p x a b = rw (lt-ltb 0 x (omega arith), lt-ltb x (suc p.variables) (omega arith))

pub variable_beyond : (p : Plan) (x : ℕ) → p.variables < x → is_variable p x ≡ false
unfolding is_variable ◌and◌
variable_beyond p x a = rw (lt-ltb 0 x (omega arith), le-ltb x (suc p.variables) (omega arith))

pub free_beyond : (p : Plan) (x : ℕ) → p.variables < x → lock_of p x ≡ absent
unfolding lock_of
free_beyond p x a = rw (variable_beyond p x a)

-- A lock's word is the coefficient of its term.
word_weight : (v : Bool) → cond v (pos 2) (pos 1) ≡ pos (cond v 2 1)
word_weight true = refl
word_weight false = refl

choose_word : (b v : Bool) (z : ℤ) (w : Bound Bool) → z ≡ pos (lock_word w) → cond b (cond v (pos 2) (pos 1)) z ≡ pos (lock_word (cond b (present v) w))
unfolding lock_word
choose_word true v z w e = word_weight v
choose_word false v z w e = e

among_coefficient : (ks : List Lock) (x : ℕ) → coefficient (map lock_term ks) x ≡ pos (lock_word (lock_among ks x))
unfolding coefficient lock_term lock_among lock_word
among_coefficient [] x = refl
among_coefficient (k ∷ ks) x = choose_word (eqb k.variable x) k.value _ _ (among_coefficient ks x)

pub lock_coefficient : (p : Plan) (x : ℕ) → 1 ≤ x → x ≤ p.variables → coefficient (lock_terms p) x ≡ pos (lock_word (lock_of p x))
unfolding lock_of
lock_coefficient p x a b = rw (variable_here p x a b) (among_coefficient p.locks x)

-- The same for every variable that the tables have a place for.
pub lock_dense :
    (p : Plan) (x : ℕ) → all (term_within p.variables) (lock_terms p) ≡ true → 1 ≤ x → unsigned (coefficient (lock_terms p) x) ≡ lock_word (lock_of p x)
unfolding unsigned lock_word
lock_dense p x w a = by (dec_le x p.variables)
  where
    by : Dec (x ≤ p.variables) → unsigned (coefficient (lock_terms p) x) ≡ lock_word (lock_of p x)
    by (yes b) = rw (lock_coefficient p x a b)
    by (no b) = rw (coefficient_above p.variables x (lock_terms p) w (omega arith), free_beyond p x (omega arith))

-- Locks come back from their terms.
one_back : (k : Lock) → term_lock (lock_term k) ≡ k
unfolding term_lock lock_term
one_back k = let v = value_back k.value in λ i. record { variable = k.variable; value = v i }
  where
    value_back : (v : Bool) → ltb 1 (nat_abs (cond v (pos 2) (pos 1))) ≡ v
    value_back true = refl
    value_back false = refl

pub locks_back : (ks : List Lock) → map term_lock (map lock_term ks) ≡ ks
locks_back [] = refl
locks_back (k ∷ ks) = ap₂ (λ a b. a ∷ b) (one_back k) (locks_back ks)

-- A word from 0 to 2 as a coefficient, and back.
pub small_signed : (w : ℕ) → w ≤ 2 → signed w ≡ pos w
unfolding unsigned
small_signed w h = signed_unsigned (pos w) (omega arith)

-- Terms of such words come back from their locks.
module _ (h : ℕ → ℤ) (f : ℕ → ℕ) where
  term_back : (x : ℕ) → h x ≡ pos (f x) → 0 < f x → f x ≤ 2 → lock_term (term_lock (named h x)) ≡ named h x
  unfolding term_lock lock_term named
  term_back x e a b =
      let w : cond (ltb 1 (nat_abs (h x))) (pos 2) (pos 1) ≡ h x = rw e (weight_back (f x) a b) in
      λ i. record { variable = x; weight = w i }
    where
      weight_back : (w : ℕ) → 0 < w → w ≤ 2 → cond (ltb 1 w) (pos 2) (pos 1) ≡ pos w
      weight_back zero a b = absurd (omega arith)
      weight_back (suc zero) a b = refl
      weight_back (suc (suc zero)) a b = refl
      weight_back (suc (suc (suc w))) a b = absurd (omega arith)

  pub terms_back :
      (v k : ℕ) → ((x : ℕ) → v < x → x ≤ v + k → (h x ≡ pos (f x)) × (f x ≤ 2)) → map lock_term (map term_lock (sparse h v k)) ≡ sparse h v k
  terms_back v zero e = rw (sparse_none h v)
  terms_back v (suc k) e =
      let rest = terms_back (suc v) k (λ x a b. e x (omega arith) (omega arith)) in
      let (same, small) = e (suc v) (omega arith) (omega arith) in
      one_more h (λ ts. map lock_term (map term_lock ts) ≡ ts) v k (λ z. rest)
      (λ z. ap₂ (λ a b. a ∷ b) (term_back (suc v) same (rw same at z) small) rest)
