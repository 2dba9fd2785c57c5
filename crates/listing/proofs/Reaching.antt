-- Which clauses the run of a variable reaches, and how long their lists become.
-- Assumes nothing.
use Prim.Native.Nat.{ℕ, zero, suc, ◌+◌, ◌-◌, ◌≤◌, ◌<◌}
use native.Mathlib.Nat.{add-zero, add-suc, suc-add, zero-add}
use native.Mathlib.Decide.{ℕ_discrete}
use native.Mathlib.Omega.{arith}
use mathlib.Core.Path.{◌≡◌, refl, sym, ap, ap₂, ◌∙◌}
use mathlib.Core.Bool.{Bool, true, false, not, cond}
use mathlib.Core.List.{List, [], ◌∷◌, ◌++◌, append_assoc, append-nil}
use borrow.Author.Tests.{eq-eqb, ne_eqb}
use lib.Dec.{T, eqb, ltb, lt→ltb, ltb→lt}
use lib.ListN.{length, get_or, take, drop, length-append, take-append-drop}
use lib.Seq.{take-suc, take-length, take-append_seam, get_or-append_seam}
use Rattle.plpb.specs.Lists.{◌and◌, ◌or◌, any, all, keep, count, concat, row, sum_by}
use Rattle.plpb.specs.Plan.{Term, Rule, Clause, Plan, is_locked, named_in, names}
use Rattle.plpb.specs.Tallies.{rules_of}
use Rattle.plpb.specs.Choice.{choosable}
use Rattle.plpb.proofs.Lists.{any_append, keep_append, sum_by_append, count_cons, all_at, all_still, and_both, or_false, true_or, false_or, and_true, and_false, count_nil, count_false}
use Rattle.order.specs.Order.{Place, in_terms, in_rules, in_clauses, occurrences, first_rule, term_count}
use Rattle.order.specs.Mentions.{terms_before}
use Rattle.format.proofs.Lists.{row_split}
use Rattle.columns.specs.Columns.{terms_ahead}
use Rattle.listing.specs.Listing.{reached_by, list_to}

-- ---- the clauses of a run

abbrev of_clause : ℕ → Place → Bool
of_clause d q = eqb q.clause d

any_cond : {A : Type 0} (f : A → Bool) (b : Bool) (q : A) (rest : List A) → any f (cond b (q ∷ rest) rest) ≡ (b and f q) or any f rest
unfolding any ◌and◌ ◌or◌
any_cond f true q rest = refl
any_cond f false q rest = refl

shared : (a e n : Bool) → (a and e) or (e and n) ≡ e and (a or n)
unfolding ◌and◌ ◌or◌
shared true true n = refl
shared true false n = refl
shared false true n = refl
shared false false n = refl

shared_both : (e m n : Bool) → (e and m) or (e and n) ≡ e and (m or n)
unfolding ◌and◌ ◌or◌
shared_both true m n = refl
shared_both false m n = refl

terms_reach : (d x c r i : ℕ) (ts : List Term) → any (of_clause d) (in_terms x c r i ts) ≡ eqb c d and named_in x ts
unfolding in_terms named_in any
terms_reach d x c r i [] = sym (and_false (eqb c d))
terms_reach d x c r i (t ∷ ts) =
    any_cond (of_clause d) (eqb t.variable x) (record { clause = c; rule = r; term = i }) (in_terms x c r (suc i) ts)
    ∙ ap (λ b. (eqb t.variable x and eqb c d) or b) (terms_reach d x c r (suc i) ts)
    ∙ shared (eqb t.variable x) (eqb c d) (named_in x ts)

rules_reach : (d x c r : ℕ) (k : List Rule) → any (of_clause d) (in_rules x c r k) ≡ eqb c d and names k x
unfolding in_rules names any
rules_reach d x c r [] = sym (and_false (eqb c d))
rules_reach d x c r (q ∷ qs) =
    any_append (of_clause d) (in_terms x c r 0 q.terms) (in_rules x c (suc r) qs)
    ∙ ap₂ ◌or◌ (terms_reach d x c r 0 q.terms) (rules_reach d x c (suc r) qs)
    ∙ shared_both (eqb c d) (named_in x q.terms) (names qs x)

clauses_above : (d x c r : ℕ) (ks : List Clause) → d < c → any (of_clause d) (in_clauses x c r ks) ≡ false
unfolding in_clauses any ◌or◌ ◌and◌
clauses_above d x c r [] h = refl
clauses_above d x c r (k ∷ ks) h =
    any_append (of_clause d) (in_rules x c r k) (in_clauses x (suc c) (r + length k) ks)
    ∙ ap₂ ◌or◌ (rules_reach d x c r k ∙ ap (λ b. b and names k x) (ne_eqb c d (λ e. omega (arith, e)))) (clauses_above d x (suc c) (r + length k) ks (omega arith))

clauses_reach : (j x c r : ℕ) (ks : List Clause) → j < length ks → any (of_clause (c + j)) (in_clauses x c r ks) ≡ names (get_or ks j []) x
unfolding in_clauses ◌and◌
clauses_reach j x c r [] h = absurd (omega arith)
clauses_reach zero x c r (k ∷ ks) h =
    any_append (of_clause (c + 0)) (in_rules x c r k) (in_clauses x (suc c) (r + length k) ks)
    ∙ ap₂ ◌or◌ (rules_reach (c + 0) x c r k ∙ ap (λ b. b and names k x) (eq-eqb c (c + 0) (omega arith))) (clauses_above (c + 0) x (suc c) (r + length k) ks (omega arith))
    ∙ or_false (names k x)
clauses_reach (suc j) x c r (k ∷ ks) h =
    any_append (of_clause (c + suc j)) (in_rules x c r k) (in_clauses x (suc c) (r + length k) ks)
    ∙ ap₂ ◌or◌ (rules_reach (c + suc j) x c r k ∙ ap (λ b. b and names k x) (ne_eqb c (c + suc j) (λ e. omega (arith, e)))) (ap (λ d. any (of_clause d) (in_clauses x (suc c) (r + length k) ks)) (add-suc c j ∙ sym (suc-add c j)) ∙ clauses_reach j x (suc c) (r + length k) ks (omega arith))
    ∙ unfold ◌or◌ in refl

-- The whole run of x reaches the clauses that name it.
pub reached_all : (p : Plan) (x d : ℕ) → d < length p.clauses → reached_by p x (length (occurrences p x)) d ≡ names (get_or p.clauses d []) x
unfolding reached_by occurrences
reached_all p x d h = ap (any (of_clause d)) (take-length (occurrences p x)) ∙ ap (λ j. any (of_clause j) (occurrences p x)) (sym (zero-add d)) ∙ clauses_reach d x 0 0 p.clauses h

pub reached_next : (p : Plan) (x i d : ℕ) (o : Place) → i < length (occurrences p x) → reached_by p x (suc i) d ≡ reached_by p x i d or eqb (get_or (occurrences p x) i o).clause d
unfolding reached_by any
reached_next p x i d o h =
    ap (any (of_clause d)) (take-suc (occurrences p x) i o h) ∙ any_append (of_clause d) (take i (occurrences p x)) (get_or (occurrences p x) i o ∷ []) ∙ ap (λ b. any (of_clause d) (take i (occurrences p x)) or b) (or_false (eqb (get_or (occurrences p x) i o).clause d))

-- ---- how many variables a clause names

abbrev sizes : List Rule → ℕ
sizes k = sum_by (λ q. length q.terms) k

either : (s t : Bool) → cond (s or t) 1 0 ≤ cond s 1 0 + cond t 1 0
unfolding ◌or◌
either true t = omega arith
either false t = omega arith

both : (s t : Bool) → cond (s and t) 1 0 ≤ cond s 1 0
unfolding ◌and◌
both true true = omega arith
both true false = omega arith
both false t = omega arith

one : (b : Bool) → cond b 1 0 ≤ 1
one true = omega arith
one false = omega arith

count_either : (a b : ℕ → Bool) (xs : List ℕ) → count (λ y. a y or b y) xs ≤ count a xs + count b xs
count_either a b [] = omega (arith, count_nil (λ y. a y or b y), count_nil a, count_nil b)
count_either a b (x ∷ xs) = omega (arith, count_cons (λ y. a y or b y) x xs, count_cons a x xs, count_cons b x xs, count_either a b xs, either (a x) (b x))

count_behind : (v i m : ℕ) → v < i → count (eqb v) (row i m) ≡ 0
unfolding row
count_behind v i zero h = count_nil (eqb v)
count_behind v i (suc m) h = count_cons (eqb v) i (row (suc i) m) ∙ ap₂ (λ b n. cond b 1 0 + n) (ne_eqb v i (λ e. omega (arith, e))) (count_behind v (suc i) m (omega arith))

count_one : (v i m : ℕ) → count (eqb v) (row i m) ≤ 1
unfolding row
count_one v i zero = omega (arith, count_nil (eqb v))
count_one v i (suc m) = elim (ℕ_discrete v i) [
  | yes e ↦ omega (arith, count_cons (eqb v) i (row (suc i) m), one (eqb v i), count_behind v (suc i) m (omega (arith, e)))
  | no n ↦ omega (arith, count_cons (eqb v) i (row (suc i) m), ap (λ b. cond {A = ℕ} b 1 0) (ne_eqb v i n), count_one v (suc i) m)
]

terms_few : (ts : List Term) (i m : ℕ) → count (λ y. named_in y ts) (row i m) ≤ length ts
unfolding named_in any
terms_few [] i m = omega (arith, count_false (row i m))
terms_few (t ∷ ts) i m = omega (arith, count_either (λ y. eqb t.variable y) (λ y. named_in y ts) (row i m), count_one t.variable i m, terms_few ts i m)

names_few : (k : Clause) (i m : ℕ) → count (names k) (row i m) ≤ sizes k
unfolding names any sum_by
names_few [] i m = omega (arith, count_false (row i m))
names_few (q ∷ qs) i m = omega (arith, count_either (λ y. named_in y q.terms) (names qs) (row i m), terms_few q.terms i m, names_few qs i m)

fewer : (a b : ℕ → Bool) (xs : List ℕ) → count (λ y. a y and b y) xs ≤ count a xs
fewer a b [] = omega (arith, count_nil (λ y. a y and b y), count_nil a)
fewer a b (x ∷ xs) = omega (arith, count_cons (λ y. a y and b y) x xs, count_cons a x xs, fewer a b xs, both (a x) (b x))

-- ---- where a clause's list stands

-- How many terms the first clauses have.
sized : List Clause → ℕ → ℕ
sized ks d = sizes (concat (take d ks))

concat_append : (ks ls : List Clause) → concat (ks ++ ls) ≡ concat ks ++ concat ls
unfolding concat
concat_append [] ls = refl
concat_append (k ∷ ks) ls = ap (λ qs. k ++ qs) (concat_append ks ls) ∙ sym (append_assoc k (concat ks) (concat ls))

concat_front : (ks : List Clause) (d : ℕ) → concat (take d ks) ++ concat (drop d ks) ≡ concat ks
concat_front ks d = sym (concat_append (take d ks) (drop d ks)) ∙ ap concat (take-append-drop d ks)

front_taken : (ks : List Clause) (d : ℕ) → sizes (take (first_rule ks d) (concat ks)) ≡ sized ks d
unfolding sized first_rule
front_taken ks d = ap (λ qs. sizes (take (length (concat (take d ks))) qs)) (sym (concat_front ks d)) ∙ ap sizes (take-append_seam (concat (take d ks)) (concat (drop d ks)))

sized_next : (ks : List Clause) (d : ℕ) → d < length ks → sized ks (suc d) ≡ sized ks d + sizes (get_or ks d [])
unfolding sized
sized_next ks d h =
    ap (λ cs. sizes (concat cs)) (take-suc ks d [] h)
    ∙ ap sizes (concat_append (take d ks) (get_or ks d [] ∷ []))
    ∙ sum_by_append (λ q. length q.terms) (concat (take d ks)) (concat (get_or ks d [] ∷ []))
    ∙ ap (λ qs. sizes (concat (take d ks)) + sizes qs) (unfold concat in append-nil (get_or ks d []))

sized_all : (ks : List Clause) (d : ℕ) → sized ks d ≤ sizes (concat ks)
unfolding sized
sized_all ks d = omega (arith, sum_by_append (λ q. length q.terms) (concat (take d ks)) (concat (drop d ks)), ap sizes (concat_front ks d))

sized_rise : (ks : List Clause) (d j : ℕ) → d + j ≤ length ks → sized ks d ≤ sized ks (d + j)
sized_rise ks d zero h = omega (arith, ap (sized ks) (add-zero d))
sized_rise ks d (suc j) h = omega (arith, sized_rise ks d j (omega arith), sized_next ks (d + j) (omega arith), ap (sized ks) (add-suc d j))

module _ (p : Plan) where
  ahead : (d : ℕ) → terms_ahead p d ≡ sized p.clauses d
  unfolding terms_ahead terms_before rules_of
  ahead d = front_taken p.clauses d

  pub ahead_next : (d : ℕ) → d < length p.clauses → terms_ahead p (suc d) ≡ terms_ahead p d + sum_by (λ q. length q.terms) (get_or p.clauses d [])
  ahead_next d h = ahead (suc d) ∙ sized_next p.clauses d h ∙ ap (λ n. n + sizes (get_or p.clauses d [])) (sym (ahead d))

  pub ahead_rise : (d e : ℕ) → d ≤ e → e ≤ length p.clauses → terms_ahead p d ≤ terms_ahead p e
  ahead_rise d e l h =
      let z : d + (e - d) ≡ e = omega arith in
      omega (arith, ahead d, ahead e, sized_rise p.clauses d (e - d) (omega arith), ap (sized p.clauses) z)

  pub ahead_all : (d : ℕ) → terms_ahead p d ≤ term_count p
  unfolding term_count rules_of
  ahead_all d = omega (arith, ahead d, sized_all p.clauses d)

-- ---- the lists

module _ (p : Plan) where
  abbrev may : ℕ → ℕ → Bool
  may d y = names (get_or p.clauses d []) y and not (is_locked p y)

  -- Before a run the lists have the variables below it.
  pub list_begun : (x d : ℕ) → list_to p (suc x) 0 d ≡ keep (λ y. names (get_or p.clauses d []) y and not (is_locked p y)) (row 1 x)
  unfolding list_to reached_by any
  list_begun x d = let z : suc x - 1 ≡ x = omega arith in ap (λ n. keep (may d) (row 1 n) ++ []) z ∙ append-nil (keep (may d) (row 1 x))

  pub list_first : (d : ℕ) → list_to p 1 0 d ≡ []
  list_first d = list_begun 0 d ∙ unfold row keep in refl

  pub list_last : (d : ℕ) → list_to p (suc p.variables) 0 d ≡ choosable p (get_or p.clauses d [])
  unfolding choosable
  list_last d = list_begun p.variables d

module _ (p : Plan) (x : ℕ) (low : 1 ≤ x) where
  row_next : row 1 x ≡ row 1 (x - 1) ++ (x ∷ [])
  unfolding row
  row_next =
      let z : x - 1 + 1 ≡ x = omega arith in
      let y : 1 + (x - 1) ≡ x = omega arith in
      ap (row 1) (sym z) ∙ row_split 1 (x - 1) 1 ∙ ap (λ n. row 1 (x - 1) ++ (n ∷ [])) y

  kept_next : (d : ℕ) → keep (may p d) (row 1 x) ≡ keep (may p d) (row 1 (x - 1)) ++ cond (may p d x) (x ∷ []) []
  unfolding keep
  kept_next d = ap (keep (may p d)) row_next ∙ keep_append (may p d) (row 1 (x - 1)) (x ∷ [])

  -- Behind the run of x they are those before the next; a locked variable is in none.
  pub list_passed : is_locked p x ≡ false → (d : ℕ) → d < length p.clauses → list_to p x (length (occurrences p x)) d ≡ list_to p (suc x) 0 d
  unfolding list_to
  list_passed free d h =
      ap (λ b. keep (may p d) (row 1 (x - 1)) ++ cond b (x ∷ []) []) (reached_all p x d h ∙ sym (ap (λ b. names (get_or p.clauses d []) x and not b) free ∙ and_true (names (get_or p.clauses d []) x)))
      ∙ sym (kept_next d)
      ∙ sym (list_begun p x d)

  pub list_locked : is_locked p x ≡ true → (d : ℕ) → list_to p x 0 d ≡ list_to p (suc x) 0 d
  unfolding list_to reached_by any
  list_locked locked d =
      ap (λ b. keep (may p d) (row 1 (x - 1)) ++ cond b (x ∷ []) []) (sym (ap (λ b. names (get_or p.clauses d []) x and not b) locked ∙ and_false (names (get_or p.clauses d []) x)))
      ∙ sym (kept_next d)
      ∙ sym (list_begun p x d)

  -- A list is no longer than the terms of its clause.
  module _ (free : is_locked p x ≡ false) (d : ℕ) (h : d < length p.clauses) where
    reached_named : (i : ℕ) → reached_by p x i d ≡ true → names (get_or p.clauses d []) x ≡ true
    unfolding reached_by
    reached_named i e =
        sym (reached_all p x d h)
        ∙ unfold reached_by in ap (any (of_clause d)) (take-length (occurrences p x) ∙ sym (take-append-drop i (occurrences p x)))
        ∙ any_append (of_clause d) (take i (occurrences p x)) (drop i (occurrences p x))
        ∙ ap (λ b. b or any (of_clause d) (drop i (occurrences p x))) e
        ∙ true_or (any (of_clause d) (drop i (occurrences p x)))

    kept_few : length (keep (may p d) (row 1 x)) ≤ sizes (get_or p.clauses d [])
    unfolding count
    kept_few = omega (arith, fewer (names (get_or p.clauses d [])) (λ y. not (is_locked p y)) (row 1 x), names_few (get_or p.clauses d []) 1 x)

    tail_few : (b e : Bool) (xs : List ℕ) → (b ≡ true → e ≡ true) → length (xs ++ cond b (x ∷ []) []) ≤ length (xs ++ cond e (x ∷ []) [])
    tail_few true e xs f = rw (f refl) (omega arith)
    tail_few false e xs f = omega (arith, length-append xs [], length-append xs (cond e (x ∷ []) []))

    pub list_few : (i : ℕ) → length (list_to p x i d) ≤ sum_by (λ q. length q.terms) (get_or p.clauses d [])
    unfolding list_to ◌and◌
    list_few i =
        omega (arith, kept_few, ap length (kept_next d), tail_few (reached_by p x i d) (may p d x) (keep (may p d) (row 1 (x - 1))) (λ e. ap (λ b. b and not (is_locked p x)) (reached_named i e) ∙ ap not free))

-- ---- one entry of the run

module _ (p : Plan) (x i : ℕ) (o : Place) (h : i < length (occurrences p x)) where
  abbrev c : ℕ
  c = (get_or (occurrences p x) i o).clause

  same_list : (d : ℕ) → reached_by p x (suc i) d ≡ reached_by p x i d → list_to p x (suc i) d ≡ list_to p x i d
  unfolding list_to
  same_list d e = ap (λ b. keep (may p d) (row 1 (x - 1)) ++ cond b (x ∷ []) []) e

  -- It reaches no other clause.
  pub list_beside : (d : ℕ) → (d ≡ (get_or (occurrences p x) i o).clause → ⊥) → list_to p x (suc i) d ≡ list_to p x i d
  list_beside d n = same_list d (reached_next p x i d o h ∙ ap (λ b. reached_by p x i d or b) (ne_eqb c d (λ e. n (sym e))) ∙ or_false (reached_by p x i d))

  -- Its clause has the variable already, or gets it.
  pub list_there : reached_by p x i (get_or (occurrences p x) i o).clause ≡ true → list_to p x (suc i) (get_or (occurrences p x) i o).clause ≡ list_to p x i (get_or (occurrences p x) i o).clause
  unfolding ◌or◌
  list_there e = same_list c (reached_next p x i c o h ∙ ap (λ b. b or eqb c c) e ∙ sym e)

  pub list_longer : reached_by p x i (get_or (occurrences p x) i o).clause ≡ false → list_to p x (suc i) (get_or (occurrences p x) i o).clause ≡ list_to p x i (get_or (occurrences p x) i o).clause ++ (x ∷ [])
  unfolding list_to
  list_longer e =
      ap (λ b. keep (may p c) (row 1 (x - 1)) ++ cond b (x ∷ []) []) (reached_next p x i c o h ∙ ap₂ ◌or◌ e (eq-eqb c c refl) ∙ false_or true)
      ∙ sym (ap (λ xs. xs ++ (x ∷ [])) (ap (λ b. keep (may p c) (row 1 (x - 1)) ++ cond b (x ∷ []) []) e ∙ append-nil (keep (may p c) (row 1 (x - 1)))))

-- ---- whether a list ends with the variable

below_row : (x i k : ℕ) → i + k ≤ x → T (all (λ y. ltb y x) (row i k))
unfolding row all
below_row x i zero h = tt
below_row x i (suc k) h = and_both (ltb i x) (all (λ y. ltb y x) (row (suc i) k)) (lt→ltb i x (omega arith)) (below_row x (suc i) k (omega arith))

module _ (p : Plan) (x i d : ℕ) (low : 1 ≤ x) where
  pub ends_there : reached_by p x i d ≡ true → (0 < length (list_to p x i d)) × (get_or (list_to p x i d) (length (list_to p x i d) - 1) 0 ≡ x)
  unfolding list_to
  ends_there e = rw e (last (keep (may p d) (row 1 (x - 1))))
    where
      last : (xs : List ℕ) → (0 < length (xs ++ (x ∷ []))) × (get_or (xs ++ (x ∷ [])) (length (xs ++ (x ∷ [])) - 1) 0 ≡ x)
      last xs =
          let z : length (xs ++ (x ∷ [])) - 1 ≡ length xs = omega (arith, length-append xs (x ∷ [])) in
          (omega (arith, length-append xs (x ∷ [])), ap (λ j. get_or (xs ++ (x ∷ [])) j 0) z ∙ get_or-append_seam xs x [] 0)

  pub ends_elsewhere : reached_by p x i d ≡ false → 0 < length (list_to p x i d) → get_or (list_to p x i d) (length (list_to p x i d) - 1) 0 < x
  unfolding list_to
  ends_elsewhere e k =
      let none : list_to p x i d ≡ keep (may p d) (row 1 (x - 1)) = ap (λ b. keep (may p d) (row 1 (x - 1)) ++ cond b (x ∷ []) []) e ∙ append-nil (keep (may p d) (row 1 (x - 1))) in
      let few : T (all (λ y. ltb y x) (list_to p x i d)) = rw none (all_still (may p d) (λ y. ltb y x) (row 1 (x - 1)) (below_row x 1 (x - 1) (omega arith))) in
      ltb→lt _ _ (all_at (λ y. ltb y x) (list_to p x i d) (length (list_to p x i d) - 1) 0 few (omega arith))
