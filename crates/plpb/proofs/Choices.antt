-- How many choices of k pass a test everywhere: Pascal's rule is the rule by which `choose` goes on.
use Prim.Native.Nat.{ℕ, zero, suc, ◌+◌}
use native.Mathlib.Nat.{zero-add}
use native.Mathlib.Numerals.{one-add}
use native.Mathlib.Omega.{arith}
use mathlib.Core.Path.{◌≡◌, refl, sym, ap, ap₂, ◌∙◌}
use mathlib.Core.Bool.{Bool, true, false, not, cond}
use mathlib.Core.List.{List, [], ◌∷◌, map}
use lib.Dec.{ltb, eqb}
use borrow.Author.Tests.{ltb-true, ltb-false, eq-eqb, ne_eqb}
use lib.ListN.{length, length-append, length-replicate, replicate}
use Rattle.plpb.specs.Lists.{◌and◌, count, all, sum_by}
use Rattle.plpb.specs.Plan.{Bound, absent, present, Term, Assignment, value}
use Rattle.plpb.specs.Normal.{Literal, opposite, literal, literal_true, size, K, P, N, copies}
use Rattle.plpb.specs.Expansion.{choose, choices}
use Rattle.plpb.specs.Equations.{binom, over}
use Rattle.plpb.proofs.Lists.{count_nil, count_cons, count_append, count_map, count_same, count_false, count_not, count_replicate, true_and, false_and, not_not}
use Rattle.plpb.proofs.Normal.{N_and_P}
use Rattle.plpb.proofs.Binomial.{binom_vanishes, binom_positive}

-- ---- choices

module _ {A : Type 0} where
  -- One more element: the choices with it, then those without it.
  with_first : (p : A → Bool) (b : Bool) (n k : ℕ) (cs : List (List A)) → count (all p) cs ≡ binom n k → count (λ c. b and all p c) cs + binom n (suc k) ≡ binom (cond b 1 0 + n) (suc k)
  unfolding binom
  with_first p true n k cs e = rw one-add (ap (λ m. m + binom n (suc k)) (count_same (λ c. true and all p c) (all p) cs (λ c. true_and (all p c)) ∙ e))
  with_first p false n k cs e = simp (false_and, count_false, zero-add)

  pub count_choose : (p : A → Bool) (k : ℕ) (xs : List A) → count (all p) (choose k xs) ≡ binom (count p xs) k
  unfolding choose binom all
  count_choose p zero xs = simp (count_cons, count_nil)
  count_choose p (suc k) [] = simp count_nil
  count_choose p (suc k) (x ∷ xs) =
      count_append (all p) (map (λ c. x ∷ c) (choose k xs)) (choose (suc k) xs)
      ∙ ap₂ ◌+◌ (count_map (all p) (λ c. x ∷ c) (choose k xs)) (count_choose p (suc k) xs)
      ∙ with_first p (p x) (count p xs) k (choose k xs) (count_choose p k xs)
      ∙ ap (λ n. binom n (suc k)) (sym (count_cons p x xs))

pub count_choices : (p : Literal → Bool) (b : Bound ℕ) (ks : List Literal) → count (all p) (choices b ks) ≡ over (count p ks) b
unfolding choices over
count_choices p absent ks = count_nil (all p)
count_choices p (present k) ks = count_choose p k ks

-- ---- binomials

-- There is no choice exactly where fewer than k are there to choose from.
pub binom_zero : (n k : ℕ) → eqb (binom n k) 0 ≡ ltb n k
binom_zero n k = at (ltb n k) refl
  where
    at : (b : Bool) → ltb n k ≡ b → eqb (binom n k) 0 ≡ b
    at true e = eq-eqb (binom n k) 0 (binom_vanishes n k (ltb-true n k e))
    at false e = ne_eqb (binom n k) 0 (λ z. omega (arith, binom_positive n k (ltb-false n k e)))

-- ---- copies

pub length_copies : (ts : List Term) → length (copies ts) ≡ K ts
unfolding copies K sum_by
length_copies [] = refl
length_copies (t ∷ ts) =
    length-append (replicate (size t) (literal t)) (copies ts) ∙ ap₂ ◌+◌ (length-replicate (size t) (literal t)) (length_copies ts)

-- Each term's copies pass a test of literals together.
pub count_copies : (p : Literal → Bool) (ts : List Term) → count p (copies ts) ≡ sum_by (λ t. cond (p (literal t)) (size t) 0) ts
unfolding copies sum_by
count_copies p [] = count_nil p
count_copies p (t ∷ ts) =
    count_append p (replicate (size t) (literal t)) (copies ts) ∙ ap₂ ◌+◌ (count_replicate p (size t) (literal t)) (count_copies p ts)

pub true_copies : (a : Assignment) (ts : List Term) → count (literal_true a) (copies ts) ≡ P a ts
unfolding P
true_copies a ts = count_copies (literal_true a) ts

pub false_copies : (a : Assignment) (ts : List Term) → count (λ k. not (literal_true a k)) (copies ts) ≡ N a ts
false_copies a ts =
    omega (arith, count_not (literal_true a) (copies ts), true_copies a ts, length_copies ts, N_and_P a ts)

pub opposite_true : (a : Assignment) (k : Literal) → literal_true a (opposite k) ≡ not (literal_true a k)
unfolding literal_true opposite
opposite_true a k = turned k.negated (value a k.variable)
  where
    turned : (n v : Bool) → cond (not n) (not v) v ≡ not (cond n (not v) v)
    turned true v = sym (not_not v)
    turned false v = refl

pub opposite_false : (a : Assignment) (k : Literal) → not (literal_true a (opposite k)) ≡ literal_true a k
opposite_false a k = ap not (opposite_true a k) ∙ not_not (literal_true a k)

pub false_opposites : (a : Assignment) (ts : List Term) → count (λ k. not (literal_true a k)) (map opposite (copies ts)) ≡ P a ts
false_opposites a ts =
    count_map (λ k. not (literal_true a k)) opposite (copies ts)
    ∙ count_same (λ k. not (literal_true a (opposite k))) (literal_true a) (copies ts) (opposite_false a)
    ∙ true_copies a ts
