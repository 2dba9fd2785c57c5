-- A clause's variables are no more than its terms, so its list ends where its terms do or before.
-- Assumes nothing.
use Prim.Native.Nat.{ℕ, zero, suc, ◌+◌, ◌≤◌, ◌<◌}
use native.Mathlib.Omega.{arith}
use mathlib.Core.Path.{◌≡◌, refl, sym, ap, ap₂, ◌∙◌}
use mathlib.Core.Bool.{Bool, true, false, not, cond}
use mathlib.Core.List.{List, [], ◌∷◌, ◌++◌, append_assoc}
use lib.Dec.{T, leb, eqb, leb→le, le→leb}
use lib.ListN.{length, get_or, take, drop}
use lib.Seq.{take-append_seam, split_at}
use borrow.Author.Tests.{ne_eqb, eqb-true}
use Rattle.plpb.specs.Lists.{◌and◌, ◌or◌, keep, count, any, all, sum_by, concat, row}
use Rattle.plpb.specs.Plan.{Term, Rule, Clause, Plan, is_locked, named_in, names}
use Rattle.plpb.specs.Tallies.{rules_of}
use Rattle.plpb.specs.Choice.{choosable}
use Rattle.plpb.proofs.Lists.{and_left, and_right, and_both, count_nil, count_cons, count_false, sum_by_append, all_at, all_still, length_row}
use Rattle.order.specs.Order.{term_count, first_rule}
use Rattle.order.specs.Mentions.{terms_before}
use Rattle.columns.specs.Columns.{terms_ahead}

-- ---- counts

module _ {A : Type 0} where
  kept_count : (f : A → Bool) (xs : List A) → length (keep f xs) ≡ count f xs
  unfolding count
  kept_count f xs = refl

  count_more : (f g : A → Bool) → ((x : A) → T (f x) → T (g x)) → (xs : List A) → count f xs ≤ count g xs
  count_more f g h [] = omega (arith, count_nil f)
  count_more f g h (x ∷ xs) = at (f x) (g x) (h x) (count_cons f x xs) (count_cons g x xs) (count_more f g h xs)
    where
      at : (b c : Bool) → (T b → T c) → count f (x ∷ xs) ≡ cond b 1 0 + count f xs → count g (x ∷ xs) ≡ cond c 1 0 + count g xs → count f xs ≤ count g xs → count f (x ∷ xs) ≤ count g (x ∷ xs)
      at true true t e k ih = omega arith
      at true false t e k ih = absurd (t tt)
      at false true t e k ih = omega arith
      at false false t e k ih = omega arith

  count_or : (f g : A → Bool) (xs : List A) → count (λ x. f x or g x) xs ≤ count f xs + count g xs
  unfolding ◌or◌
  count_or f g [] = omega (arith, count_nil (λ x. f x or g x))
  count_or f g (x ∷ xs) = at (f x) (g x) (count_cons (λ x. f x or g x) x xs) (count_cons f x xs) (count_cons g x xs) (count_or f g xs)
    where
      at : (b c : Bool) → count (λ x. f x or g x) (x ∷ xs) ≡ cond (b or c) 1 0 + count (λ x. f x or g x) xs → count f (x ∷ xs) ≡ cond b 1 0 + count f xs → count g (x ∷ xs) ≡ cond c 1 0 + count g xs → count (λ x. f x or g x) xs ≤ count f xs + count g xs → count (λ x. f x or g x) (x ∷ xs) ≤ count f (x ∷ xs) + count g (x ∷ xs)
      at true true e k l ih = omega arith
      at true false e k l ih = omega arith
      at false true e k l ih = omega arith
      at false false e k l ih = omega arith

-- A number stands in a row once at most.
passed_by : (v i n : ℕ) → v < i → count (λ x. eqb v x) (row i n) ≡ 0
unfolding row
passed_by v i zero h = count_nil (λ x. eqb v x)
passed_by v i (suc n) h = count_cons (λ x. eqb v x) i (row (suc i) n) ∙ ap₂ (λ b m. cond b 1 0 + m) (ne_eqb v i (λ e. omega arith)) (passed_by v (suc i) n (omega arith))

once : (v i n : ℕ) → count (λ x. eqb v x) (row i n) ≤ 1
unfolding row
once v i zero = omega (arith, count_nil (λ x. eqb v x))
once v i (suc n) = at (eqb v i) refl (count_cons (λ x. eqb v x) i (row (suc i) n)) (once v (suc i) n)
  where
    at : (b : Bool) → eqb v i ≡ b → count (λ x. eqb v x) (i ∷ row (suc i) n) ≡ cond b 1 0 + count (λ x. eqb v x) (row (suc i) n) → count (λ x. eqb v x) (row (suc i) n) ≤ 1 → count (λ x. eqb v x) (i ∷ row (suc i) n) ≤ 1
    at true e k ih = let same : v ≡ i = eqb-true v i e in omega (arith, passed_by v (suc i) n (omega arith))
    at false e k ih = omega arith

terms_named : (ts : List Term) (i n : ℕ) → count (λ x. named_in x ts) (row i n) ≤ length ts
unfolding named_in any
terms_named [] i n = omega (arith, count_false (row i n))
terms_named (t ∷ ts) i n = omega (arith, count_or (λ x. eqb t.variable x) (λ x. named_in x ts) (row i n), once t.variable i n, terms_named ts i n)

rules_named_lem : (k : Clause) (i n : ℕ) → count (λ x. names k x) (row i n) ≤ sum_by (λ q. length q.terms) k
unfolding names any sum_by
rules_named_lem [] i n = omega (arith, count_false (row i n))
rules_named_lem (q ∷ qs) i n = omega (arith, count_or (λ x. named_in x q.terms) (λ x. names qs x) (row i n), terms_named q.terms i n, rules_named_lem qs i n)

pub choosable_few : (p : Plan) (k : Clause) → length (choosable p k) ≤ sum_by (λ q. length q.terms) k
unfolding choosable
choosable_few p k =
    omega (arith, kept_count (λ x. names k x and not (is_locked p x)) (row 1 p.variables), count_more (λ x. names k x and not (is_locked p x)) (λ x. names k x) (λ x t. and_left (names k x) (not (is_locked p x)) t) (row 1 p.variables), rules_named_lem k 1 p.variables)

-- ---- where a clause's terms stand

concat_append : {A : Type 0} (xs ys : List (List A)) → concat (xs ++ ys) ≡ concat xs ++ concat ys
unfolding concat
concat_append [] ys = refl
concat_append (x ∷ xs) ys = ap (λ zs. x ++ zs) (concat_append xs ys) ∙ sym (append_assoc x (concat xs) (concat ys))

module _ (p : Plan) (c : ℕ) (h : c < length p.clauses) where
  abbrev ks : List Clause
  ks = p.clauses

  abbrev len : Rule → ℕ
  len q = length q.terms

  whole : rules_of p ≡ concat (take c ks) ++ concat (get_or ks c [] ∷ drop (suc c) ks)
  unfolding rules_of
  whole = ap concat (split_at ks c [] h) ∙ concat_append (take c ks) (get_or ks c [] ∷ drop (suc c) ks)

  pub list_room : terms_ahead p c + length (choosable p (get_or p.clauses c [])) ≤ term_count p
  unfolding terms_ahead terms_before first_rule term_count concat
  list_room =
      let front = concat (take c ks) in
      let rest = get_or ks c [] ++ concat (drop (suc c) ks) in
      let ahead : sum_by len (take (length front) (rules_of p)) ≡ sum_by len front = ap (λ rs. sum_by len (take (length front) rs)) whole ∙ ap (sum_by len) (take-append_seam front rest) in
      let all : sum_by len (rules_of p) ≡ sum_by len front + (sum_by len (get_or ks c []) + sum_by len (concat (drop (suc c) ks))) =
      ap (sum_by len) whole ∙ sum_by_append len front rest ∙ ap (λ n. sum_by len front + n) (sum_by_append len (get_or ks c []) (concat (drop (suc c) ks))) in
      omega (arith, ahead, all, choosable_few p (get_or ks c []))

-- ---- the variables that are listed

row_within : (n i k : ℕ) → 1 ≤ i → i + k ≤ suc n → T (all (λ x. leb 1 x and leb x n) (row i k))
unfolding row all
row_within n i zero h l = tt
row_within n i (suc k) h l = and_both _ _ (and_both _ _ (le→leb 1 i h) (le→leb i n (omega arith))) (row_within n (suc i) k (omega arith) (omega arith))

pub choosable_within : (p : Plan) (k : Clause) (i : ℕ) → i < length (choosable p k) → (1 ≤ get_or (choosable p k) i 0) × (get_or (choosable p k) i 0 ≤ p.variables)
unfolding choosable
choosable_within p k i h =
    let f : ℕ → Bool = λ x. names k x and not (is_locked p x) in
    let g : ℕ → Bool = λ x. leb 1 x and leb x p.variables in
    let t : T (g (get_or (keep f (row 1 p.variables)) i 0)) = all_at g (keep f (row 1 p.variables)) i 0 (all_still f g (row 1 p.variables) (row_within p.variables 1 p.variables (omega arith) (omega arith))) h in
    (leb→le 1 _ (and_left _ _ t), leb→le _ p.variables (and_right _ _ t))

pub keep_fewer : {A : Type 0} (f : A → Bool) (xs : List A) → length (keep f xs) ≤ length xs
unfolding keep
keep_fewer f [] = omega arith
keep_fewer f (x ∷ xs) = at (f x) (keep_fewer f xs)
  where
    at : (b : Bool) → length (keep f xs) ≤ length xs → length (cond b (x ∷ keep f xs) (keep f xs)) ≤ suc (length xs)
    at true h = omega arith
    at false h = omega arith

pub choosable_most : (p : Plan) (k : Clause) → length (choosable p k) ≤ p.variables
unfolding choosable
choosable_most p k = omega (arith, keep_fewer (λ x. names k x and not (is_locked p x)) (row 1 p.variables), length_row 1 p.variables)
