-- A sum's terms and its coefficients by variable say the same: by induction over the variables, from the lowest.
use Prim.Native.Nat.{ℕ, zero, suc, ◌+◌, ◌≤◌, ◌<◌, zero-le}
use mathlib.Core.Path.{◌≡◌, refl, sym, ap, ap₂, ◌∙◌}
use mathlib.Core.Bool.{true}
use mathlib.Core.List.{List, [], ◌∷◌}
use mathlib.Core.Logic.{⊎_elim}
use native.Mathlib.Nat.{eq-or-lt_of_le}
use native.Mathlib.Omega.{arith}
use lib.IntN.{ℤ, pos, nat_abs}
use borrow.Author.Tests.{leb-true, ltb-true, le-leb, lt-ltb, le-ltb, eq-eqb, ne_eqb}
use Rattle.plpb.specs.Lists.{all, keep, row}
use Rattle.plpb.specs.Plan.{Term, rising_above}
use Rattle.format.specs.Limits.{weight_lawful, term_within}
use Rattle.format.specs.Tables.{coefficient, named, is_some, sparse}
use Rattle.format.proofs.Bools.{and_left, and_right, and_join}
use Rattle.format.proofs.Bounds.{nat_abs_zero}
use Rattle.format.proofs.Lawful.{weight_some}

-- A variable that stands below all terms, or above all, has coefficient 0.
pub coefficient_below : (v x : ℕ) (ts : List Term) → rising_above v ts ≡ true → x ≤ v → coefficient ts x ≡ pos 0
unfolding coefficient rising_above
coefficient_below v x [] r h = refl
coefficient_below v x (t ∷ ts) r h =
    let a : v < t.variable = ltb-true _ _ (and_left _ _ r) in
    rw (ne_eqb t.variable x (λ e. omega arith)) (coefficient_below t.variable x ts (and_right _ _ r) (omega arith))

pub coefficient_above : (n x : ℕ) (ts : List Term) → all (term_within n) ts ≡ true → n < x → coefficient ts x ≡ pos 0
unfolding coefficient all term_within
coefficient_above n x [] w h = refl
coefficient_above n x (t ∷ ts) w h =
    let a : t.variable ≤ n = leb-true _ _ (and_left _ _ (and_left _ _ w)) in
    rw (ne_eqb t.variable x (λ e. omega arith)) (coefficient_above n x ts (and_right _ _ w) h)

module _ (h : ℕ → ℤ) where
  pub sparse_none : (v : ℕ) → sparse h v 0 ≡ []
  unfolding sparse keep row
  sparse_none v = refl

  pub sparse_skip : (v k : ℕ) → nat_abs (h (suc v)) ≡ 0 → sparse h v (suc k) ≡ sparse h (suc v) k
  unfolding sparse keep row is_some named
  sparse_skip v k e = rw (le-ltb 0 (nat_abs (h (suc v))) (omega arith))

  pub sparse_hold : (v k : ℕ) → 0 < nat_abs (h (suc v)) → sparse h v (suc k) ≡ named h (suc v) ∷ sparse h (suc v) k
  unfolding sparse keep row is_some named
  sparse_hold v k e = rw (lt-ltb 0 (nat_abs (h (suc v))) e)

  -- Terms whose numbers rise from above v come back from their coefficients: the next variable has none, or the first term is its.
  step_skip :
      (n v k : ℕ) (ts : List Term) → v + suc k ≡ n → rising_above (suc v) ts ≡ true
      → ((x : ℕ) → v < x → x ≤ n → h x ≡ coefficient ts x) → sparse h (suc v) k ≡ ts → sparse h v (suc k) ≡ ts
  step_skip n v k ts l r e ih =
      sparse_skip v k (ap nat_abs (e (suc v) (omega arith) (omega arith) ∙ coefficient_below (suc v) (suc v) ts r (omega arith))) ∙ ih

  step_hold :
      (n v k : ℕ) (t : Term) (ts : List Term) → v + suc k ≡ n → t.variable ≡ suc v → 0 < nat_abs t.weight
      → ((x : ℕ) → v < x → x ≤ n → h x ≡ coefficient (t ∷ ts) x) → sparse h (suc v) k ≡ ts → sparse h v (suc k) ≡ t ∷ ts
  unfolding coefficient named
  step_hold n v k t ts l m s e ih =
      let w : h (suc v) ≡ t.weight = e (suc v) (omega arith) (omega arith) ∙ rw (eq-eqb t.variable (suc v) m) in
      let same : named h (suc v) ≡ t = λ i. record { variable = sym m i; weight = w i } in
      sparse_hold v k (rw w s) ∙ ap₂ (λ a b. a ∷ b) same ih

  pub sparse_back :
      (n v k : ℕ) (ts : List Term) → v + k ≡ n → rising_above v ts ≡ true → all (term_within n) ts ≡ true
      → ((x : ℕ) → v < x → x ≤ n → h x ≡ coefficient ts x) → sparse h v k ≡ ts
  unfolding rising_above all term_within coefficient
  sparse_back n v zero [] l r w e = sparse_none v
  sparse_back n v zero (t ∷ ts) l r w e =
      let a : v < t.variable = ltb-true _ _ (and_left _ _ r) in
      let b : t.variable ≤ n = leb-true _ _ (and_left _ _ (and_left _ _ w)) in
      absurd (omega arith)
  sparse_back n v (suc k) [] l r w e =
      step_skip n v k [] l refl e (sparse_back n (suc v) k [] (omega arith) refl refl (λ x a b. e x (omega arith) b))
  sparse_back n v (suc k) (t ∷ ts) l r w e =
      let a : v < t.variable = ltb-true _ _ (and_left _ _ r) in
      ⊎_elim
      (λ m. step_hold n v k t ts l (sym m) (weight_some t.weight (and_right _ _ (and_left _ _ w))) e
      (sparse_back n (suc v) k ts (omega arith) (rw m (and_right _ _ r)) (and_right _ _ w)
      (λ x c d. e x (omega arith) d ∙ rw (ne_eqb t.variable x (λ z. omega arith)))))
      (λ m.
      let r' = and_join _ _ (lt-ltb (suc v) t.variable m) (and_right _ _ r) in
      step_skip n v k (t ∷ ts) l r' e (sparse_back n (suc v) k (t ∷ ts) (omega arith) r' w (λ x c d. e x (omega arith) d)))
      (eq-or-lt_of_le a)

  -- The other way: such terms rise, are in range, and have the coefficients that they were taken from.
  pub one_more :
      (P : List Term → Type 0) (v k : ℕ) → (nat_abs (h (suc v)) ≡ 0 → P (sparse h (suc v) k))
      → (0 < nat_abs (h (suc v)) → P (named h (suc v) ∷ sparse h (suc v) k)) → P (sparse h v (suc k))
  one_more P v k a b =
      ⊎_elim (λ e. rw (sparse_skip v k (sym e)) (a (sym e))) (λ e. rw (sparse_hold v k e) (b e)) (eq-or-lt_of_le {n = 0} zero-le)

  pub sparse_rising : (u v k : ℕ) → u ≤ v → rising_above u (sparse h v k) ≡ true
  unfolding rising_above named
  sparse_rising u v zero l = rw (sparse_none v)
  sparse_rising u v (suc k) l =
      one_more (λ ts. rising_above u ts ≡ true) v k (λ z. sparse_rising u (suc v) k (omega arith))
      (λ z. and_join _ _ (lt-ltb u (suc v) (omega arith)) (sparse_rising (suc v) (suc v) k (omega arith)))

  pub sparse_within :
      (n v k : ℕ) → v + k ≡ n → ((x : ℕ) → v < x → x ≤ n → nat_abs (h x) ≤ 1_000_000) → all (term_within n) (sparse h v k) ≡ true
  unfolding all term_within weight_lawful named
  sparse_within n v zero l s = rw (sparse_none v)
  sparse_within n v (suc k) l s =
      let rest = sparse_within n (suc v) k (omega arith) (λ x a b. s x (omega arith) b) in
      one_more (λ ts. all (term_within n) ts ≡ true) v k (λ z. rest)
      (λ z. and_join _ _
      (and_join _ _ (le-leb (suc v) n (omega arith)) (and_join _ _ (lt-ltb 0 _ z) (le-leb _ _ (s (suc v) (omega arith) (omega arith))))) rest)

  pub sparse_coefficient : (v k x : ℕ) → v < x → x ≤ v + k → coefficient (sparse h v k) x ≡ h x
  unfolding coefficient named
  sparse_coefficient v zero x a b = absurd (omega arith)
  sparse_coefficient v (suc k) x a b =
      ⊎_elim
      (λ e. one_more (λ ts. coefficient ts x ≡ h x) v k
      (λ z. coefficient_below (suc v) x (sparse h (suc v) k) (sparse_rising (suc v) (suc v) k (omega arith)) (omega arith) ∙ nat_abs_zero (h x) (rw (← e) z))
      (λ z. rw (← e, eq-eqb (suc v) (suc v) refl)))
      (λ m.
      let rest = sparse_coefficient (suc v) k x m (omega arith) in
      one_more (λ ts. coefficient ts x ≡ h x) v k (λ z. rest) (λ z. rw (ne_eqb (suc v) x (λ e. omega arith)) rest))
      (eq-or-lt_of_le a)
