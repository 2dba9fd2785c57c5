-- Laws of tests, counts and sums over lists: each holds by induction on the list.
use Prim.Native.Nat.{ℕ, zero, suc, ◌+◌, ◌*◌, ◌≤◌, ◌<◌, zero-le}
use native.Mathlib.Nat.{zero-add, add-zero, add_assoc, zero-mul, add-mul, not-suc-le-zero, le_of_suc-le-suc}
use native.Mathlib.Numerals.{one-add}
use native.Mathlib.Omega.{arith}
use mathlib.Core.Path.{◌≡◌, refl, sym, ap, ap₂, ◌∙◌, fun_ext}
use mathlib.Core.Bool.{Bool, true, false, not, cond}
use mathlib.Core.List.{List, [], ◌∷◌, ◌++◌, map, reverse_aux, append-nil, append_assoc}
use lib.Dec.{T, eqb, eqb-suc-zero, lit≤}
use lib.ListN.{length, get_or, replicate}
use Rattle.plpb.specs.Lists.{◌and◌, ◌or◌, keep, count, any, all, sum_by, concat, is_empty, row}

-- ---- and, or, not

pub and_left : (a b : Bool) → T (a and b) → T a
unfolding ◌and◌
and_left true b t = tt
and_left false b t = t

pub and_right : (a b : Bool) → T (a and b) → T b
unfolding ◌and◌
and_right true b t = t
and_right false b t = absurd t

pub and_both : (a b : Bool) → T a → T b → T (a and b)
unfolding ◌and◌
and_both true b s t = t
and_both false b s t = s

pub or_left : (a b : Bool) → T a → T (a or b)
unfolding ◌or◌
or_left true b t = tt
or_left false b t = absurd t

pub or_right : (a b : Bool) → T b → T (a or b)
unfolding ◌or◌
or_right true b t = tt
or_right false b t = t

pub true_and : (b : Bool) → true and b ≡ b
unfolding ◌and◌
true_and b = refl

pub false_and : (b : Bool) → false and b ≡ false
unfolding ◌and◌
false_and b = refl

pub true_or : (b : Bool) → true or b ≡ true
unfolding ◌or◌
true_or b = refl

pub false_or : (b : Bool) → false or b ≡ b
unfolding ◌or◌
false_or b = refl

pub and_true : (a : Bool) → a and true ≡ a
unfolding ◌and◌
and_true true = refl
and_true false = refl

pub and_false : (a : Bool) → a and false ≡ false
unfolding ◌and◌
and_false true = refl
and_false false = refl

pub or_true : (a : Bool) → a or true ≡ true
unfolding ◌or◌
or_true true = refl
or_true false = refl

pub or_false : (a : Bool) → a or false ≡ a
unfolding ◌or◌
or_false true = refl
or_false false = refl

pub and_not_self : (a : Bool) → a and not a ≡ false
unfolding ◌and◌
and_not_self true = refl
and_not_self false = refl

pub not_self_and : (a : Bool) → not a and a ≡ false
unfolding ◌and◌
not_self_and true = refl
not_self_and false = refl

pub and_assoc : (a b c : Bool) → (a and b) and c ≡ a and (b and c)
unfolding ◌and◌
and_assoc true b c = refl
and_assoc false b c = refl

pub or_assoc : (a b c : Bool) → (a or b) or c ≡ a or (b or c)
unfolding ◌or◌
or_assoc true b c = refl
or_assoc false b c = refl

pub and_comm : (a b : Bool) → a and b ≡ b and a
unfolding ◌and◌
and_comm true b = sym (and_true b)
and_comm false b = sym (and_false b)

pub not_not : (a : Bool) → not (not a) ≡ a
not_not true = refl
not_not false = refl

pub not_and : (a b : Bool) → not (a and b) ≡ not a or not b
unfolding ◌and◌ ◌or◌
not_and true b = refl
not_and false b = refl

pub not_or : (a b : Bool) → not (a or b) ≡ not a and not b
unfolding ◌and◌ ◌or◌
not_or true b = refl
not_or false b = refl

-- (a and b) and (c and d), with the middle two changed about
pub and_middle : (a b c d : Bool) → (a and b) and (c and d) ≡ (a and c) and (b and d)
and_middle a b c d =
    simp and_assoc (ap (λ e. a and e) (sym (and_assoc b c d) ∙ ap (λ e. e and d) (and_comm b c) ∙ and_assoc c b d))

pub or_left_over_and : (a b c : Bool) → a or (b and c) ≡ (a or b) and (a or c)
unfolding ◌and◌ ◌or◌
or_left_over_and true b c = refl
or_left_over_and false b c = refl

pub or_right_over_and : (a b c : Bool) → (a and b) or c ≡ (a or c) and (b or c)
unfolding ◌and◌ ◌or◌
or_right_over_and true b c = refl
or_right_over_and false b true = sym (or_true b)
or_right_over_and false b false = refl

-- Two tests are equal where each follows from the other.
pub T_true : {b : Bool} → b ≡ true → T b
T_true e = rw e tt

pub false_T : {b : Bool} → b ≡ false → T b → ⊥
false_T e t = rw e at t

pub or_left_comm : (a b c : Bool) → a or (b or c) ≡ b or (a or c)
unfolding ◌or◌
or_left_comm true true c = refl
or_left_comm true false c = refl
or_left_comm false b c = refl

pub same_test : (a b : Bool) → (T a → T b) → (T b → T a) → a ≡ b
same_test true true f g = refl
same_test true false f g = absurd (f tt)
same_test false true f g = absurd (g tt)
same_test false false f g = refl

pub is_true : (a : Bool) → T a → a ≡ true
is_true true t = refl
is_true false t = absurd t

pub is_false : (a : Bool) → T (not a) → a ≡ false
is_false true t = absurd t
is_false false t = refl

-- ---- a number for a test

cond_same : (b : Bool) (n : ℕ) → cond b n n ≡ n
cond_same true n = refl
cond_same false n = refl

one_more : (b : Bool) (n : ℕ) → cond b 1 0 + cond b n 0 ≡ cond b (suc n) 0
one_more true n = one-add n
one_more false n = refl

at_most_one : (b : Bool) → cond b 1 0 ≤ 1
at_most_one true = lit≤ tt
at_most_one false = lit≤ tt

split_one : (a b : Bool) → cond (not a and b) 1 0 + cond (a and b) 1 0 ≡ cond b 1 0
unfolding ◌and◌
split_one true b = zero-add (cond b 1 0)
split_one false b = add-zero (cond b 1 0)

one_of_two : (b : Bool) → cond (not b) 1 0 + cond b 1 0 ≡ 1
one_of_two true = refl
one_of_two false = refl

none_one : (b : Bool) (n : ℕ) → not b and eqb n 0 ≡ eqb (cond b 1 0 + n) 0
none_one true n = false_and (eqb n 0) ∙ sym (rw one-add (eqb-suc-zero n))
none_one false n = true_and (eqb n 0) ∙ sym (rw zero-add refl)

-- ---- how many pass a test

module _ {A : Type 0} where
  length_keep : (b : Bool) (x : A) (xs : List A) → length (cond b (x ∷ xs) xs) ≡ cond b 1 0 + length xs
  length_keep true x xs = sym (one-add (length xs))
  length_keep false x xs = sym (zero-add (length xs))

  pub count_nil : (p : A → Bool) → count p [] ≡ 0
  unfolding count keep
  count_nil p = refl

  pub count_cons : (p : A → Bool) (x : A) (xs : List A) → count p (x ∷ xs) ≡ cond (p x) 1 0 + count p xs
  unfolding count keep
  count_cons p x xs = length_keep (p x) x (keep p xs)

  pub count_append : (p : A → Bool) (xs ys : List A) → count p (xs ++ ys) ≡ count p xs + count p ys
  count_append p [] ys = simp (count_nil, zero-add)
  count_append p (x ∷ xs) ys = simp (count_cons, count_append p xs ys, add_assoc)

  pub count_concat : (p : A → Bool) (xss : List (List A)) → count p (concat xss) ≡ sum_by (count p) xss
  unfolding concat sum_by
  count_concat p [] = count_nil p
  count_concat p (xs ∷ xss) = count_append p xs (concat xss) ∙ ap (λ n. count p xs + n) (count_concat p xss)

  pub count_same : (p q : A → Bool) (xs : List A) → ((x : A) → p x ≡ q x) → count p xs ≡ count q xs
  count_same p q xs h = ap (λ t. count t xs) (fun_ext h)

  pub count_replicate : (p : A → Bool) (n : ℕ) (x : A) → count p (replicate n x) ≡ cond (p x) n 0
  count_replicate p zero x = count_nil p ∙ sym (cond_same (p x) 0)
  count_replicate p (suc n) x = count_cons p x (replicate n x) ∙ ap (λ k. cond (p x) 1 0 + k) (count_replicate p n x) ∙ one_more (p x) n

  pub count_le : (p : A → Bool) (xs : List A) → count p xs ≤ length xs
  count_le p [] = simp count_nil zero-le
  count_le p (x ∷ xs) = simp count_cons (omega (arith, count_le p xs, at_most_one (p x)))

  pub count_false : (xs : List A) → count (λ x. false) xs ≡ 0
  count_false [] = count_nil (λ x. false)
  count_false (x ∷ xs) = simp (count_cons, count_false xs)

  -- Those that pass q are those that pass p too and those that do not.
  pub count_split : (p q : A → Bool) (xs : List A) → count (λ x. not (p x) and q x) xs + count (λ x. p x and q x) xs ≡ count q xs
  count_split p q [] = simp (count_nil, add-zero)
  count_split p q (x ∷ xs) = simp count_cons (omega (arith, count_split p q xs, split_one (p x) (q x)))

  pub count_split_right : (p q : A → Bool) (xs : List A) → count (λ x. q x and not (p x)) xs + count (λ x. q x and p x) xs ≡ count q xs
  count_split_right p q xs =
      ap₂ ◌+◌ (count_same (λ x. q x and not (p x)) (λ x. not (p x) and q x) xs (λ x. and_comm (q x) (not (p x))))
      (count_same (λ x. q x and p x) (λ x. p x and q x) xs (λ x. and_comm (q x) (p x)))
      ∙ count_split p q xs

  pub count_not : (p : A → Bool) (xs : List A) → count (λ x. not (p x)) xs + count p xs ≡ length xs
  count_not p [] = simp (count_nil, add-zero)
  count_not p (x ∷ xs) = simp count_cons (omega (arith, count_not p xs, one_of_two (p x)))

  -- ---- whether any or all pass it

  pub any_append : (p : A → Bool) (xs ys : List A) → any p (xs ++ ys) ≡ any p xs or any p ys
  unfolding any
  any_append p [] ys = sym (false_or (any p ys))
  any_append p (x ∷ xs) ys = ap (λ b. p x or b) (any_append p xs ys) ∙ sym (or_assoc (p x) (any p xs) (any p ys))

  pub all_append : (p : A → Bool) (xs ys : List A) → all p (xs ++ ys) ≡ all p xs and all p ys
  unfolding all
  all_append p [] ys = sym (true_and (all p ys))
  all_append p (x ∷ xs) ys = ap (λ b. p x and b) (all_append p xs ys) ∙ sym (and_assoc (p x) (all p xs) (all p ys))

  pub concat_last : (xss : List (List A)) (ys : List A) → concat (xss ++ (ys ∷ [])) ≡ concat xss ++ ys
  unfolding concat
  concat_last [] ys = append-nil ys
  concat_last (xs ∷ xss) ys = ap (λ zs. xs ++ zs) (concat_last xss ys) ∙ sym (append_assoc xs (concat xss) ys)

  pub all_concat : (p : A → Bool) (xss : List (List A)) → all p (concat xss) ≡ all (all p) xss
  unfolding all concat
  all_concat p [] = refl
  all_concat p (xs ∷ xss) = all_append p xs (concat xss) ∙ ap (λ b. all p xs and b) (all_concat p xss)

  pub all_same : (p q : A → Bool) (xs : List A) → ((x : A) → p x ≡ q x) → all p xs ≡ all q xs
  all_same p q xs h = ap (λ t. all t xs) (fun_ext h)

  pub not_any : (p : A → Bool) (xs : List A) → not (any p xs) ≡ all (λ x. not (p x)) xs
  unfolding any all
  not_any p [] = refl
  not_any p (x ∷ xs) = not_or (p x) (any p xs) ∙ ap (λ b. not (p x) and b) (not_any p xs)

  pub not_all : (p : A → Bool) (xs : List A) → not (all p xs) ≡ any (λ x. not (p x)) xs
  unfolding any all
  not_all p [] = refl
  not_all p (x ∷ xs) = not_and (p x) (all p xs) ∙ ap (λ b. not (p x) or b) (not_all p xs)

  pub all_and : (p q : A → Bool) (xs : List A) → all (λ x. p x and q x) xs ≡ all p xs and all q xs
  unfolding all
  all_and p q [] = sym (true_and true)
  all_and p q (x ∷ xs) = ap (λ b. (p x and q x) and b) (all_and p q xs) ∙ and_middle (p x) (q x) (all p xs) (all q xs)

  -- What is or-ed to every test may be or-ed to them all.
  pub all_or_left : (b : Bool) (p : A → Bool) (xs : List A) → all (λ x. b or p x) xs ≡ b or all p xs
  unfolding all
  all_or_left b p [] = sym (or_true b)
  all_or_left b p (x ∷ xs) = ap (λ c. (b or p x) and c) (all_or_left b p xs) ∙ sym (or_left_over_and b (p x) (all p xs))

  pub all_or_right : (p : A → Bool) (b : Bool) (xs : List A) → all (λ x. p x or b) xs ≡ all p xs or b
  unfolding all
  all_or_right p b [] = sym (true_or b)
  all_or_right p b (x ∷ xs) = ap (λ c. (p x or b) and c) (all_or_right p b xs) ∙ sym (or_right_over_and (p x) (all p xs) b)

  -- None passes exactly where the count is 0; all pass where the count of those that do not is 0.
  pub none_by_count : (p : A → Bool) (xs : List A) → not (any p xs) ≡ eqb (count p xs) 0
  unfolding any
  none_by_count p [] = simp count_nil
  none_by_count p (x ∷ xs) = simp (count_cons, not_or, none_by_count p xs) (none_one (p x) (count p xs))

  pub all_by_count : (p : A → Bool) (xs : List A) → all p xs ≡ eqb (count (λ x. not (p x)) xs) 0
  all_by_count p xs = sym (not_not (all p xs)) ∙ ap not (not_all p xs) ∙ none_by_count (λ x. not (p x)) xs

  pub all_at : (p : A → Bool) (xs : List A) (i : ℕ) (d : A) → T (all p xs) → i < length xs → T (p (get_or xs i d))
  unfolding all
  all_at p [] i d t h = absurd (not-suc-le-zero h)
  all_at p (x ∷ xs) zero d t h = and_left (p x) (all p xs) t
  all_at p (x ∷ xs) (suc i) d t h = all_at p xs i d (and_right (p x) (all p xs) t) (le_of_suc-le-suc h)

  pub all_keep : (p : A → Bool) (xs : List A) → T (all p (keep p xs))
  unfolding all keep
  all_keep p [] = tt
  all_keep p (x ∷ xs) = kept (p x) refl (all_keep p xs)
    where
      kept : (b : Bool) → p x ≡ b → T (all p (keep p xs)) → T (all p (cond b (x ∷ keep p xs) (keep p xs)))
      kept true e t = rw (e, true_and) t
      kept false e t = t

  pub all_still : (p q : A → Bool) (xs : List A) → T (all q xs) → T (all q (keep p xs))
  unfolding all keep
  all_still p q [] t = tt
  all_still p q (x ∷ xs) t = kept (p x) (all_still p q xs (and_right (q x) (all q xs) t))
    where
      kept : (b : Bool) → T (all q (keep p xs)) → T (all q (cond b (x ∷ keep p xs) (keep p xs)))
      kept true u = and_both (q x) (all q (keep p xs)) (and_left (q x) (all q xs) t) u
      kept false u = u

  pub keep_append : (p : A → Bool) (xs ys : List A) → keep p (xs ++ ys) ≡ keep p xs ++ keep p ys
  unfolding keep
  keep_append p [] ys = refl
  keep_append p (x ∷ xs) ys = kept (p x) (keep_append p xs ys)
    where
      kept : (b : Bool) → keep p (xs ++ ys) ≡ keep p xs ++ keep p ys → cond b (x ∷ keep p (xs ++ ys)) (keep p (xs ++ ys)) ≡ cond b (x ∷ keep p xs) (keep p xs) ++ keep p ys
      kept true e = rw e refl
      kept false e = e

  pub keep_empty : (p : A → Bool) (xs : List A) → is_empty (keep p xs) ≡ not (any p xs)
  unfolding keep any is_empty ◌or◌
  keep_empty p [] = refl
  keep_empty p (x ∷ xs) = kept (p x) (keep_empty p xs)
    where
      kept : (b : Bool) → is_empty (keep p xs) ≡ not (any p xs) → is_empty (cond b (x ∷ keep p xs) (keep p xs)) ≡ not (b or any p xs)
      kept true e = refl
      kept false e = e

  -- ---- sums

  pub sum_by_append : (f : A → ℕ) (xs ys : List A) → sum_by f (xs ++ ys) ≡ sum_by f xs + sum_by f ys
  unfolding sum_by
  sum_by_append f [] ys = sym (zero-add (sum_by f ys))
  sum_by_append f (x ∷ xs) ys = omega (arith, sum_by_append f xs ys)

  -- Two sums are equal where the summands are, at least for elements that pass a test all pass.
  pub sum_by_each : (p : A → Bool) (f g : A → ℕ) (xs : List A) → ((x : A) → T (p x) → f x ≡ g x) → T (all p xs) → sum_by f xs ≡ sum_by g xs
  unfolding sum_by all
  sum_by_each p f g [] h t = refl
  sum_by_each p f g (x ∷ xs) h t =
      ap₂ ◌+◌ (h x (and_left (p x) (all p xs) t)) (sum_by_each p f g xs h (and_right (p x) (all p xs) t))

  pub sum_by_same : (f g : A → ℕ) (xs : List A) → ((x : A) → f x ≡ g x) → sum_by f xs ≡ sum_by g xs
  sum_by_same f g xs h = ap (λ t. sum_by t xs) (fun_ext h)

  pub sum_by_plus : (f g : A → ℕ) (xs : List A) → sum_by (λ x. f x + g x) xs ≡ sum_by f xs + sum_by g xs
  unfolding sum_by
  sum_by_plus f g [] = refl
  sum_by_plus f g (x ∷ xs) = omega (arith, sum_by_plus f g xs)

  pub sum_by_times : (f : A → ℕ) (k : ℕ) (xs : List A) → sum_by (λ x. f x * k) xs ≡ sum_by f xs * k
  unfolding sum_by
  sum_by_times f k [] = sym (zero-mul k)
  sum_by_times f k (x ∷ xs) = ap (λ n. f x * k + n) (sum_by_times f k xs) ∙ sym (add-mul (f x) (sum_by f xs) k)

  pub count_is_sum : (p : A → Bool) (xs : List A) → count p xs ≡ sum_by (λ x. cond (p x) 1 0) xs
  unfolding sum_by
  count_is_sum p [] = count_nil p
  count_is_sum p (x ∷ xs) = count_cons p x xs ∙ ap (λ n. cond (p x) 1 0 + n) (count_is_sum p xs)

-- ---- over a map

module _ {A B : Type 0} where
  pub count_map : (p : B → Bool) (f : A → B) (xs : List A) → count p (map f xs) ≡ count (λ x. p (f x)) xs
  count_map p f [] = simp count_nil
  count_map p f (x ∷ xs) = simp (count_cons, count_map p f xs)

  pub any_map : (p : B → Bool) (f : A → B) (xs : List A) → any p (map f xs) ≡ any (λ x. p (f x)) xs
  unfolding any
  any_map p f [] = refl
  any_map p f (x ∷ xs) = ap (λ b. p (f x) or b) (any_map p f xs)

  pub all_map : (p : B → Bool) (f : A → B) (xs : List A) → all p (map f xs) ≡ all (λ x. p (f x)) xs
  unfolding all
  all_map p f [] = refl
  all_map p f (x ∷ xs) = ap (λ b. p (f x) and b) (all_map p f xs)

  pub sum_by_map : (g : B → ℕ) (f : A → B) (xs : List A) → sum_by g (map f xs) ≡ sum_by (λ x. g (f x)) xs
  unfolding sum_by
  sum_by_map g f [] = refl
  sum_by_map g f (x ∷ xs) = ap (λ n. g (f x) + n) (sum_by_map g f xs)

-- ---- numbers in a row

pub length_row : (i k : ℕ) → length (row i k) ≡ k
unfolding row
length_row i zero = refl
length_row i (suc k) = ap suc (length_row (suc i) k)

pub row_at : (i k j d : ℕ) → j < k → get_or (row i k) j d ≡ i + j
unfolding row
row_at i zero j d h = absurd (not-suc-le-zero h)
row_at i (suc k) zero d h = sym (add-zero i)
row_at i (suc k) (suc j) d h = row_at (suc i) k j d (le_of_suc-le-suc h) ∙ omega arith

module _ {A : Type 0} (p : A → Bool) where
  pub any_reverse : (xs ys : List A) → any p (reverse_aux xs ys) ≡ any p xs or any p ys
  unfolding any ◌or◌
  any_reverse [] ys = refl
  any_reverse (x ∷ xs) ys =
      any_reverse xs (x ∷ ys) ∙ or_left_comm (any p xs) (p x) (any p ys) ∙ sym (or_assoc (p x) (any p xs) (any p ys))
