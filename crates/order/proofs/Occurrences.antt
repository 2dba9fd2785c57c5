-- A variable's occurrences: their rules are the rules that name it, in order, because rising numbers let a rule name it once; and all variables'
-- occurrences together are as many as the terms, because each term names one variable.
use Prim.Native.Nat.{ℕ, zero, suc, ◌+◌, ◌≤◌, ◌<◌}
use native.Mathlib.Nat.{zero-add, add-zero, add-suc, suc-add}
use native.Mathlib.Numerals.{one-add}
use native.Mathlib.Omega.{arith}
use mathlib.Core.Path.{◌≡◌, refl, sym, ap, ap₂, ◌∙◌}
use mathlib.Core.Bool.{Bool, true, false, cond}
use mathlib.Core.List.{List, [], ◌∷◌, ◌++◌, map}
use lib.Dec.{T, leb, ltb, eqb, ltb→lt, leb→le, le→leb}
use lib.ListN.{length, get_or, length-append, length-map, get_or-append}
use lib.Seq.{get_or-append-add}
use borrow.Author.Tests.{eqb-true, eqb-false, ne_eqb}
use Rattle.plpb.specs.Lists.{◌and◌, ◌or◌, keep, count, any, all, sum_by, concat, row}
use Rattle.plpb.specs.Plan.{Term, Rule, Clause, Plan, is_variable, rising_above, rising, numbers_rise, named_in}
use Rattle.plpb.specs.Tallies.{rules_of, rules_named}
use Rattle.plpb.proofs.Lists.{false_T, and_left, and_right, and_both, and_true, and_false, or_false, false_or, count_nil, count_cons, count_le, keep_append, any_map, all_concat, sum_by_append, sum_by_plus, sum_by_same}
use Rattle.order.specs.Order.{Place, in_terms, in_rules, in_clauses, occurrences, term_count, numbers_within, no_rule, rule_at, rise_within}

-- ---- lists

pub map_append : {A B : Type 0} (f : A → B) (xs ys : List A) → map f (xs ++ ys) ≡ map f xs ++ map f ys
map_append f [] ys = refl
map_append f (x ∷ xs) ys = ap (λ zs. f x ∷ zs) (map_append f xs ys)

-- ---- one rule

-- The place of x among terms.
unfoldable pub place_in : ℕ → List Term → ℕ
place_in x [] = 0
place_in x (t ∷ ts) = cond (eqb t.variable x) 0 (suc (place_in x ts))

-- Terms that do not name x hold no place of it.
pub terms_none : (x c r i : ℕ) (ts : List Term) → named_in x ts ≡ false → in_terms x c r i ts ≡ []
unfolding in_terms named_in any ◌or◌
terms_none x c r i [] h = refl
terms_none x c r i (t ∷ ts) h = at (eqb t.variable x) (terms_none x c r (suc i) ts) h
  where
    at : (b : Bool) → (named_in x ts ≡ false → in_terms x c r (suc i) ts ≡ []) → b or named_in x ts ≡ false → cond b (record { clause = c; rule = r; term = i } ∷ in_terms x c r (suc i) ts) (in_terms x c r (suc i) ts) ≡ []
    at true ih k = absurd (false_T k tt)
    at false ih k = ih k

-- Terms above x do not name it.
above_none : (x v : ℕ) (ts : List Term) → T (rising_above v ts) → x ≤ v → named_in x ts ≡ false
unfolding rising_above named_in any ◌or◌
above_none x v [] rise h = refl
above_none x v (t ∷ ts) rise h =
    let above : v < t.variable = ltb→lt v t.variable (and_left (ltb v t.variable) (rising_above t.variable ts) rise) in
    rw (ne_eqb t.variable x (omega arith)) (above_none x t.variable ts (and_right (ltb v t.variable) (rising_above t.variable ts) rise) (omega arith))

-- Rising terms that name x hold one place of it.
pub terms_one : (x c r i v : ℕ) (ts : List Term) → T (rising_above v ts) → named_in x ts ≡ true → in_terms x c r i ts ≡ record { clause = c; rule = r; term = i + place_in x ts } ∷ []
unfolding in_terms named_in any ◌or◌ rising_above place_in
terms_one x c r i v [] rise h = absurd (false_T (sym h) tt)
terms_one x c r i v (t ∷ ts) rise h = at (eqb t.variable x) refl (terms_one x c r (suc i) t.variable ts above) h
  where
    above : T (rising_above t.variable ts)
    above = and_right (ltb v t.variable) (rising_above t.variable ts) rise

    at : (b : Bool) → eqb t.variable x ≡ b → (named_in x ts ≡ true → in_terms x c r (suc i) ts ≡ record { clause = c; rule = r; term = suc i + place_in x ts } ∷ []) → b or named_in x ts ≡ true → cond b (record { clause = c; rule = r; term = i } ∷ in_terms x c r (suc i) ts) (in_terms x c r (suc i) ts) ≡ record { clause = c; rule = r; term = i + cond b 0 (suc (place_in x ts)) } ∷ []
    at true e ih k =
        let same : t.variable ≡ x = eqb-true t.variable x e in
        rw (add-zero i) (ap (λ qs. record { clause = c; rule = r; term = i } ∷ qs) (terms_none x c r (suc i) ts (above_none x t.variable ts above (omega arith))))
    at false e ih k =
        let next : suc i + place_in x ts ≡ i + suc (place_in x ts) = omega arith in
        rw (← next) (ih k)

-- Either way.
unfoldable pub placed : ℕ → ℕ → ℕ → List Term → List Place
placed x c r ts = cond (named_in x ts) (record { clause = c; rule = r; term = place_in x ts } ∷ []) []

pub terms_placed : (x c r : ℕ) (ts : List Term) → T (rising ts) → in_terms x c r 0 ts ≡ placed x c r ts
unfolding rising placed
terms_placed x c r ts rise = at (named_in x ts) refl
  where
    at : (b : Bool) → named_in x ts ≡ b → in_terms x c r 0 ts ≡ cond b (record { clause = c; rule = r; term = place_in x ts } ∷ []) []
    at true e = terms_one x c r 0 0 ts rise e ∙ ap (λ i. record { clause = c; rule = r; term = i } ∷ []) (zero-add (place_in x ts))
    at false e = terms_none x c r 0 ts e

-- ---- the rules along a run are those that name the variable

abbrev rules : List Place → List ℕ
rules qs = map (λ q. q.rule) qs

one_rule : (x c r : ℕ) (ts : List Term) → T (rising ts) → rules (in_terms x c r 0 ts) ≡ cond (named_in x ts) (r ∷ []) []
unfolding placed
one_rule x c r ts rise = ap rules (terms_placed x c r ts rise) ∙ at (named_in x ts)
  where
    at : (b : Bool) → rules (cond b (record { clause = c; rule = r; term = place_in x ts } ∷ []) []) ≡ cond b (r ∷ []) []
    at true = refl
    at false = refl

cond_append : {A : Type 0} (b : Bool) (x : A) (xs : List A) → cond b (x ∷ []) [] ++ xs ≡ cond b (x ∷ xs) xs
cond_append true x xs = refl
cond_append false x xs = refl

row_append : (b m n : ℕ) → row b (m + n) ≡ row b m ++ row (b + m) n
unfolding row
row_append b zero n = ap₂ row (sym (add-zero b)) (zero-add n)
row_append b (suc m) n = rw (suc-add m n) (ap (λ ns. b ∷ ns) (row_append (suc b) m n ∙ ap (λ i. row (suc b) m ++ row i n) next))
  where
    next : suc b + m ≡ b + suc m
    next = omega arith

rules_kept : (x c b : ℕ) (qs : List Rule) (f : ℕ → Bool) → T (all (λ r. rising r.terms) qs) → ((i : ℕ) → i < length qs → f (b + i) ≡ named_in x (get_or qs i no_rule).terms) → rules (in_rules x c b qs) ≡ keep f (row b (length qs))
unfolding in_rules keep row all
rules_kept x c b [] f rise h = refl
rules_kept x c b (q ∷ qs) f rise h =
    let here : f b ≡ named_in x q.terms = ap f (sym (add-zero b)) ∙ h 0 (omega arith) in
    map_append (λ q. q.rule) (in_terms x c b 0 q.terms) (in_rules x c (suc b) qs)
    ∙ ap₂ ◌++◌ (one_rule x c b q.terms (and_left (rising q.terms) (all (λ r. rising r.terms) qs) rise) ∙ ap (λ t. cond t (b ∷ []) []) (sym here))
    (rules_kept x c (suc b) qs f (and_right (rising q.terms) (all (λ r. rising r.terms) qs) rise) (λ i l. ap f (later i) ∙ h (suc i) (omega arith)))
    ∙ cond_append (f b) b (keep f (row (suc b) (length qs)))
  where
    later : (i : ℕ) → suc b + i ≡ b + suc i
    later i = omega arith

clauses_kept : (x c b : ℕ) (ks : List Clause) (f : ℕ → Bool) → T (all (all (λ r. rising r.terms)) ks) → ((i : ℕ) → i < length (concat ks) → f (b + i) ≡ named_in x (get_or (concat ks) i no_rule).terms) → rules (in_clauses x c b ks) ≡ keep f (row b (length (concat ks)))
unfolding in_clauses concat all keep row
clauses_kept x c b [] f rise h = refl
clauses_kept x c b (k ∷ ks) f rise h =
    map_append (λ q. q.rule) (in_rules x c b k) (in_clauses x (suc c) (b + length k) ks)
    ∙ ap₂ ◌++◌
    (rules_kept x c b k f (and_left (all (λ r. rising r.terms) k) (all (all (λ r. rising r.terms)) ks) rise) first)
    (clauses_kept x (suc c) (b + length k) ks f (and_right (all (λ r. rising r.terms) k) (all (all (λ r. rising r.terms)) ks) rise) others)
    ∙ sym (keep_append f (row b (length k)) (row (b + length k) (length (concat ks))))
    ∙ ap (keep f) (sym (row_append b (length k) (length (concat ks))) ∙ ap (row b) (sym (length-append k (concat ks))))
  where
    size : length (k ++ concat ks) ≡ length k + length (concat ks)
    size = length-append k (concat ks)

    first : (i : ℕ) → i < length k → f (b + i) ≡ named_in x (get_or k i no_rule).terms
    first i l = h i (omega (arith, size)) ∙ ap (λ q. named_in x q.terms) (get_or-append k (concat ks) no_rule i l)

    others : (i : ℕ) → i < length (concat ks) → f (b + length k + i) ≡ named_in x (get_or (concat ks) i no_rule).terms
    others i l =
        let e : b + length k + i ≡ b + (length k + i) = omega arith in
        ap f e ∙ h (length k + i) (omega (arith, size)) ∙ ap (λ q. named_in x q.terms) (get_or-append-add k (concat ks) i no_rule)

-- The numbers of the rules that name a variable.
unfoldable pub rules_naming : Plan → ℕ → List ℕ
rules_naming p x = keep (λ r. named_in x (rule_at p r).terms) (row 0 (length (rules_of p)))

-- A variable's occurrences go through the rules that name it, each once: its numbers rise, so it names x at one place.
pub occurring_rules : (p : Plan) (x : ℕ) → T (numbers_rise p) → map (λ q. q.rule) (occurrences p x) ≡ rules_naming p x
unfolding occurrences rules_naming rule_at numbers_rise rules_of
occurring_rules p x rise =
    clauses_kept x 0 0 p.clauses (λ r. named_in x (get_or (concat p.clauses) r no_rule).terms) rise
    (λ i l. ap (λ r. named_in x (get_or (concat p.clauses) r no_rule).terms) (zero-add i))

-- ---- .. so they rise strictly, below the number of rules

pub rise_sooner : (a b e : ℕ) (ns : List ℕ) → a ≤ b → T (rise_within b e ns) → T (rise_within a e ns)
unfolding rise_within
rise_sooner a b e [] h t = le→leb a e (omega (arith, leb→le b e t))
rise_sooner a b e (n ∷ ns) h t =
    and_both (leb a n) (rise_within (suc n) e ns) (le→leb a n (omega (arith, leb→le b n (and_left (leb b n) (rise_within (suc n) e ns) t))))
    (and_right (leb b n) (rise_within (suc n) e ns) t)

kept_rise : (f : ℕ → Bool) (b n : ℕ) → T (rise_within b (b + n) (keep f (row b n)))
unfolding keep row rise_within
kept_rise f b zero = le→leb b (b + 0) (omega arith)
kept_rise f b (suc n) = rw (add-suc b n) (at (f b) (rw (suc-add b n) at (kept_rise f (suc b) n)))
  where
    at : (t : Bool) → T (rise_within (suc b) (suc (b + n)) (keep f (row (suc b) n))) → T (rise_within b (suc (b + n)) (cond t (b ∷ keep f (row (suc b) n)) (keep f (row (suc b) n))))
    at true u = and_both (leb b b) (rise_within (suc b) (suc (b + n)) (keep f (row (suc b) n))) (le→leb b b (omega arith)) u
    at false u = rise_sooner b (suc b) (suc (b + n)) (keep f (row (suc b) n)) (omega arith) u

pub occurrences_rise : (p : Plan) (x : ℕ) → T (numbers_rise p) → T (rise_within 0 (length (rules_of p)) (map (λ q. q.rule) (occurrences p x)))
unfolding rules_naming
occurrences_rise p x rise =
    rw (occurring_rules p x rise) (rw zero-add at (kept_rise (λ r. named_in x (rule_at p r).terms) 0 (length (rules_of p))))

-- ---- .. a rule is among them exactly where it names the variable

any_cond : (r b : ℕ) (t : Bool) (ns : List ℕ) → any (eqb r) (cond t (b ∷ ns) ns) ≡ (t and eqb r b) or any (eqb r) ns
unfolding any ◌and◌ ◌or◌
any_cond r b true ns = refl
any_cond r b false ns = refl

kept_below : (f : ℕ → Bool) (b n r : ℕ) → r < b → any (eqb r) (keep f (row b n)) ≡ false
unfolding keep row any
kept_below f b zero r h = refl
kept_below f b (suc n) r h =
    any_cond r b (f b) (keep f (row (suc b) n))
    ∙ ap₂ (λ s t. (f b and s) or t) (ne_eqb r b (omega arith)) (kept_below f (suc b) n r (omega arith))
    ∙ or_false (f b and false) ∙ and_false (f b)

kept_any : (f : ℕ → Bool) (b n r : ℕ) → b ≤ r → r < b + n → any (eqb r) (keep f (row b n)) ≡ f r
unfolding keep row
kept_any f b zero r l h = absurd (omega arith)
kept_any f b (suc n) r l h = any_cond r b (f b) (keep f (row (suc b) n)) ∙ at (eqb r b) refl (λ m. kept_any f (suc b) n r m (omega arith))
  where
    at : (s : Bool) → eqb r b ≡ s → (suc b ≤ r → any (eqb r) (keep f (row (suc b) n)) ≡ f r) → (f b and s) or any (eqb r) (keep f (row (suc b) n)) ≡ f r
    at true e ih =
        let same : r ≡ b = eqb-true r b e in
        ap₂ ◌or◌ (and_true (f b)) (kept_below f (suc b) n r (omega arith)) ∙ or_false (f b) ∙ ap f (sym same)
    at false e ih =
        let other : r ≡ b → ⊥ = eqb-false r b e in
        ap (λ t. t or any (eqb r) (keep f (row (suc b) n))) (and_false (f b)) ∙ false_or _ ∙ ih (omega (arith, other))

pub occurs_exactly : (p : Plan) (x r : ℕ) → T (numbers_rise p) → r < length (rules_of p) → any (λ q. eqb r q.rule) (occurrences p x) ≡ named_in x (rule_at p r).terms
unfolding rules_naming
occurs_exactly p x r rise h =
    sym (any_map (eqb r) (λ q. q.rule) (occurrences p x))
    ∙ ap (any (eqb r)) (occurring_rules p x rise)
    ∙ kept_any (λ i. named_in x (rule_at p i).terms) 0 (length (rules_of p)) r (omega arith) (omega arith)

-- ---- .. and they are as many as the rules that name it

kept_count : {A : Type 0} (d : A) (g : A → Bool) (f : ℕ → Bool) (b : ℕ) (xs : List A) → ((i : ℕ) → i < length xs → f (b + i) ≡ g (get_or xs i d)) → length (keep f (row b (length xs))) ≡ count g xs
unfolding row keep count
kept_count d g f b [] h = sym (count_nil g)
kept_count d g f b (x ∷ xs) h =
    let rest = kept_count d g f (suc b) xs (λ i l. ap f (later i) ∙ h (suc i) (omega arith)) in
    count_cons f b (row (suc b) (length xs)) ∙ ap₂ (λ t n. cond t 1 0 + n) (ap f (sym (add-zero b)) ∙ h 0 (omega arith)) rest ∙ sym (count_cons g x xs)
  where
    later : (i : ℕ) → suc b + i ≡ b + suc i
    later i = omega arith

pub occurrences_length : (p : Plan) (x : ℕ) → T (numbers_rise p) → length (occurrences p x) ≡ rules_named p x
unfolding rules_naming rules_named rule_at
occurrences_length p x rise =
    sym (length-map (occurrences p x) (λ q. q.rule))
    ∙ ap length (occurring_rules p x rise)
    ∙ kept_count no_rule (λ q. named_in x q.terms) (λ r. named_in x (get_or (rules_of p) r no_rule).terms) 0 (rules_of p) (λ i l. ap (λ r. named_in x (get_or (rules_of p) r no_rule).terms) (zero-add i))

pub named_at_most : (p : Plan) (x : ℕ) → rules_named p x ≤ length (rules_of p)
unfolding rules_named
named_at_most p x = count_le (λ q. named_in x q.terms) (rules_of p)

-- ---- all variables' occurrences are all terms

-- Each number of a row is met once.
row_apart : (v i k : ℕ) → v < i → sum_by (λ x. cond (eqb v x) 1 0) (row i k) ≡ 0
unfolding row sum_by
row_apart v i zero h = refl
row_apart v i (suc k) h = rw (ne_eqb v i (omega arith)) (zero-add _ ∙ row_apart v (suc i) k (omega arith))

row_once : (v i k : ℕ) → i ≤ v → v < i + k → sum_by (λ x. cond (eqb v x) 1 0) (row i k) ≡ 1
unfolding row sum_by
row_once v i zero l h = absurd (omega arith)
row_once v i (suc k) l h = at (eqb v i) refl (λ m. row_once v (suc i) k m (omega arith))
  where
    at : (t : Bool) → eqb v i ≡ t → (suc i ≤ v → sum_by (λ x. cond (eqb v x) 1 0) (row (suc i) k) ≡ 1) → cond t 1 0 + sum_by (λ x. cond (eqb v x) 1 0) (row (suc i) k) ≡ 1
    at true e ih = let same : v ≡ i = eqb-true v i e in ap (λ n. 1 + n) (row_apart v (suc i) k (omega arith))
    at false e ih = let other : v ≡ i → ⊥ = eqb-false v i e in zero-add _ ∙ ih (omega (arith, other))

-- What is summed over nothing is nothing.
sum_none : {A : Type 0} (xs : List A) → sum_by (λ x. 0) xs ≡ 0
unfolding sum_by
sum_none [] = refl
sum_none (x ∷ xs) = zero-add _ ∙ sum_none xs

length_cond : {A : Type 0} (b : Bool) (x : A) (xs : List A) → length (cond b (x ∷ xs) xs) ≡ cond b 1 0 + length xs
length_cond true x xs = sym (one-add (length xs))
length_cond false x xs = sym (zero-add (length xs))

module _ (n : ℕ) where
  within : Term → Bool
  within t = ltb 0 t.variable and ltb t.variable (suc n)

  terms_shared : (c r i : ℕ) (ts : List Term) → T (all within ts) → sum_by (λ x. length (in_terms x c r i ts)) (row 1 n) ≡ length ts
  unfolding in_terms all within
  terms_shared c r i [] h = sum_none (row 1 n)
  terms_shared c r i (t ∷ ts) h =
      let v = t.variable in
      let here = and_left (within t) (all within ts) h in
      let low : 0 < v = ltb→lt 0 v (and_left (ltb 0 v) (ltb v (suc n)) here) in
      let high : v < suc n = ltb→lt v (suc n) (and_right (ltb 0 v) (ltb v (suc n)) here) in
      sum_by_same _ (λ x. cond (eqb v x) 1 0 + length (in_terms x c r (suc i) ts)) (row 1 n) (λ x. length_cond (eqb v x) (record { clause = c; rule = r; term = i }) (in_terms x c r (suc i) ts))
      ∙ sum_by_plus (λ x. cond (eqb v x) 1 0) (λ x. length (in_terms x c r (suc i) ts)) (row 1 n)
      ∙ ap₂ ◌+◌ (row_once v 1 n (omega arith) (omega arith)) (terms_shared c r (suc i) ts (and_right (within t) (all within ts) h))
      ∙ one-add (length ts)

  rules_shared : (c r : ℕ) (qs : List Rule) → T (all (λ q. all within q.terms) qs) → sum_by (λ x. length (in_rules x c r qs)) (row 1 n) ≡ sum_by (λ q. length q.terms) qs
  unfolding in_rules all sum_by
  rules_shared c r [] h = sum_none (row 1 n)
  rules_shared c r (q ∷ qs) h =
      sum_by_same _ (λ x. length (in_terms x c r 0 q.terms) + length (in_rules x c (suc r) qs)) (row 1 n) (λ x. length-append (in_terms x c r 0 q.terms) (in_rules x c (suc r) qs))
      ∙ sum_by_plus (λ x. length (in_terms x c r 0 q.terms)) (λ x. length (in_rules x c (suc r) qs)) (row 1 n)
      ∙ ap₂ ◌+◌ (terms_shared c r 0 q.terms (and_left (all within q.terms) (all (λ q. all within q.terms) qs) h)) (rules_shared c (suc r) qs (and_right (all within q.terms) (all (λ q. all within q.terms) qs) h))

  clauses_shared : (c r : ℕ) (ks : List Clause) → T (all (all (λ q. all within q.terms)) ks) → sum_by (λ x. length (in_clauses x c r ks)) (row 1 n) ≡ sum_by (λ q. length q.terms) (concat ks)
  unfolding in_clauses all concat sum_by
  clauses_shared c r [] h = sum_none (row 1 n)
  clauses_shared c r (k ∷ ks) h =
      sum_by_same _ (λ x. length (in_rules x c r k) + length (in_clauses x (suc c) (r + length k) ks)) (row 1 n) (λ x. length-append (in_rules x c r k) (in_clauses x (suc c) (r + length k) ks))
      ∙ sum_by_plus (λ x. length (in_rules x c r k)) (λ x. length (in_clauses x (suc c) (r + length k) ks)) (row 1 n)
      ∙ ap₂ ◌+◌ (rules_shared c r k (and_left (all (λ q. all within q.terms) k) (all (all (λ q. all within q.terms)) ks) h)) (clauses_shared (suc c) (r + length k) ks (and_right (all (λ q. all within q.terms) k) (all (all (λ q. all within q.terms)) ks) h))
      ∙ sym (sum_by_append (λ q. length q.terms) k (concat ks))

-- Each term names one variable of the plan, so the runs of all of them hold each term once.
pub occurrences_add_up : (p : Plan) → T (numbers_within p) → sum_by (λ x. length (occurrences p x)) (row 1 p.variables) ≡ term_count p
unfolding occurrences term_count numbers_within is_variable rules_of within
occurrences_add_up p h =
    clauses_shared p.variables 0 0 p.clauses (rw (← all_concat (λ q. all (within p.variables) q.terms) p.clauses) h)
