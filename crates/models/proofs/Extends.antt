-- "Each assignment that satisfies plan and locks has exactly one extension that satisfies the text, and no other has any." (document 02, T-02; paper 004,
-- Theorem 3)
-- Assumes nothing.
use Prim.Native.Nat.{ℕ, suc, ◌+◌, ◌*◌, ◌≤◌, ◌<◌}
use native.Mathlib.Nat.{zero-add}
use native.Mathlib.Omega.{arith}
use mathlib.Core.Path.{◌≡◌, refl, sym, ap, ap₂, ◌∙◌, subst}
use mathlib.Core.Bool.{Bool, true, false, cond}
use mathlib.Core.List.{List, [], ◌∷◌, ◌++◌, map, append_assoc, append-nil}
use lib.Dec.{T, eqb, leb, ltb}
use lib.IntN.{pos}
use lib.Signed.{le_z}
use lib.ListN.{length, get_or, take, drop, length-append, length-drop, take-append-drop}
use lib.Seq.{length-take-le, take_at, drop_at}
use borrow.Author.Tests.{leb-true, ltb-true, lt-ltb, eqb-true, eq-eqb, ne_eqb}
use Rattle.plpb.specs.Lists.{◌and◌, ◌or◌, any, all, concat, sum_by}
use Rattle.plpb.specs.Plan.{Bound, absent, present, Term, Rule, Clause, Lock, Plan, Assignment, value, is_variable, lock_among, lock_of, agrees, obeys, total, at_least, at_most, rule_holds, clause_holds, satisfies, rising_above, rising}
use Rattle.format.specs.Limits.{lock_term, lock_terms, rule_lawful, term_within}
use Rattle.format.proofs.Lawful.{clause_lawful, clause_rules, rule_parts, Within, plan_parts}
use Rattle.plpb.proofs.Lists.{T_true, is_true, and_left, and_right, and_both, and_true, or_false, all_append, same_test}
use Rattle.plpb.proofs.Locks.{all_in_row, obeyed}
use Rattle.opb.specs.Opb.{Line, meets, Text, solves, line_rule, plan_of}
use Rattle.opb.specs.Tau.{geq, straight, rule_lines, rules_lines, rule_atoms, or_lines, is_single, clause_lines, new_atoms, clauses_lines, lock_line, tau, rule_values, clause_values, extension}
use Rattle.models.specs.Claims.{ExactlyOne, SameSolutions}
use Rattle.models.proofs.Sums.{value_front, total_front}
use Rattle.models.proofs.Rules.{same, rule_says, straight_says, lock_says, some_rule, some_says}

same_path : (v t : Bool) → T (same v t) → v ≡ t
unfolding same
same_path true true h = refl
same_path true false h = absurd h
same_path false true h = absurd h
same_path false false h = refl

path_same : (v : Bool) → T (same v v)
unfolding same
path_same true = tt
path_same false = tt

-- ---- the values of new variables, clause by clause

module _ (b : Assignment) where
  unfoldable read_rules : ℕ → Clause → Assignment
  read_rules k [] = []
  read_rules k (r ∷ rs) = value b (k + 1) ∷ value b (k + 2) ∷ value b (k + 3) ∷ read_rules (k + 3) rs

  unfoldable read_clauses : ℕ → List Clause → Assignment
  read_clauses k [] = []
  read_clauses k (c ∷ cs) = cond (is_single c) [] (read_rules k c) ++ read_clauses (k + new_atoms c) cs

-- What stands behind a prefix.
value_behind : (pre : Assignment) (x : Bool) (e : Assignment) → value (pre ++ (x ∷ e)) (length pre + 1) ≡ x
unfolding value
value_behind pre x e = let n : length pre + 1 ≡ suc (length pre) = omega arith in ap (value (pre ++ (x ∷ e))) n ∙ here pre
  where
    here : (pre : Assignment) → get_or (pre ++ (x ∷ e)) (length pre) false ≡ x
    here [] = refl
    here (p ∷ pre) = here pre

-- Three of them.
behind_three : (pre : Assignment) (x y z : Bool) (e : Assignment)
    → (value (pre ++ (x ∷ y ∷ z ∷ e)) (length pre + 1) ≡ x) × (value (pre ++ (x ∷ y ∷ z ∷ e)) (length pre + 2) ≡ y) × (value (pre ++ (x ∷ y ∷ z ∷ e)) (length pre + 3) ≡ z)
behind_three pre x y z e = (
  value_behind pre x (y ∷ z ∷ e),
  step (x ∷ []) y (z ∷ e) 2 (omega (arith, length-append pre (x ∷ []))),
  step (x ∷ y ∷ []) z e 3 (omega (arith, length-append pre (x ∷ y ∷ []))),
)
  where
    step : (q : Assignment) (w : Bool) (r : Assignment) (n : ℕ) → length (pre ++ q) + 1 ≡ length pre + n → value (pre ++ (q ++ (w ∷ r))) (length pre + n) ≡ w
    step q w r n h = ap₂ (λ l i. value l i) (sym (append_assoc pre q (w ∷ r))) (sym h) ∙ value_behind (pre ++ q) w r

read_rules_lem : (pre : Assignment) (c : Clause) (e f : Assignment) → length e ≡ 3 * length c → read_rules (pre ++ (e ++ f)) (length pre) c ≡ e
unfolding read_rules
read_rules_lem pre [] [] f h = refl
read_rules_lem pre [] (x ∷ e) f h = absurd (let z : suc (length e) ≡ 0 = h in omega (arith, z))
read_rules_lem pre (r ∷ rs) [] f h = absurd (omega (arith, h))
read_rules_lem pre (r ∷ rs) (x ∷ []) f h = absurd (omega (arith, h))
read_rules_lem pre (r ∷ rs) (x ∷ y ∷ []) f h = absurd (omega (arith, h))
read_rules_lem pre (r ∷ rs) (x ∷ y ∷ z ∷ e) f h =
    let three = behind_three pre x y z (e ++ f) in
    let q = x ∷ y ∷ z ∷ [] in
    let n : length (pre ++ q) ≡ length pre + 3 = length-append pre q in
    let rest : read_rules (pre ++ (x ∷ y ∷ z ∷ (e ++ f))) (length pre + 3) rs ≡ e =
    ap₂ (λ l i. read_rules l i rs) (sym (append_assoc pre q (e ++ f))) (sym n) ∙ read_rules_lem (pre ++ q) rs e f (omega (arith, h)) in
    ap₂ ◌∷◌ three.0 (ap₂ ◌∷◌ three.1 (ap₂ ◌∷◌ three.2 rest))

-- All new variables stand behind the plan's.
read_clauses_lem : (pre : Assignment) (cs : List Clause) (e : Assignment) → length e ≡ sum_by new_atoms cs → read_clauses (pre ++ e) (length pre) cs ≡ e
unfolding read_clauses sum_by new_atoms
read_clauses_lem pre [] [] h = refl
read_clauses_lem pre [] (x ∷ e) h = absurd (let z : suc (length e) ≡ 0 = h in omega (arith, z))
read_clauses_lem pre (c ∷ cs) e h = by (is_single c) refl (λ q. read_clauses_lem (pre ++ q) cs) h
  where
    Rest : Type 0
    Rest = (q : Assignment) (d : Assignment) → length d ≡ sum_by new_atoms cs → read_clauses ((pre ++ q) ++ d) (length (pre ++ q)) cs ≡ d

    by : (s : Bool) → is_single c ≡ s → Rest → length e ≡ cond s 0 (3 * length c) + sum_by new_atoms cs
        → cond s [] (read_rules (pre ++ e) (length pre) c) ++ read_clauses (pre ++ e) (length pre + cond s 0 (3 * length c)) cs ≡ e
    by true t rest k =
        let z : length pre + 0 ≡ length (pre ++ []) = omega (arith, length-append pre []) in
        ap₂ (λ l n. read_clauses l n cs) (ap (λ l. l ++ e) (sym (append-nil pre))) z ∙ rest [] e (omega (arith, k))
    by false t rest k =
        let q = take (3 * length c) e in
        let d = drop (3 * length c) e in
        let few : 3 * length c ≤ length e = omega (arith, k) in
        let n : length q ≡ 3 * length c = length-take-le (3 * length c) e few in
        let m : length d ≡ sum_by new_atoms cs = omega (arith, length-drop (3 * length c) e, k) in
        let whole : q ++ d ≡ e = take-append-drop (3 * length c) e in
        let at : length pre + 3 * length c ≡ length (pre ++ q) = omega (arith, length-append pre q, n) in
        ap₂ ◌++◌ (ap (λ l. read_rules (pre ++ l) (length pre) c) (sym whole) ∙ read_rules_lem pre c q d n)
        (ap₂ (λ l i. read_clauses l i cs) (ap (λ l. pre ++ l) (sym whole) ∙ sym (append_assoc pre q d)) at ∙ rest q d m)
        ∙ whole

-- ---- rules and clauses

same_parts : (xs us ys vs : Assignment) → length xs ≡ length us → xs ++ ys ≡ us ++ vs → (xs ≡ us) × (ys ≡ vs)
same_parts xs us ys vs l e = (
  sym (take_at xs ys (length us) l) ∙ ap (take (length us)) e ∙ take_at us vs (length us) refl,
  sym (drop_at xs ys (length us) l) ∙ ap (drop (length us)) e ∙ drop_at us vs (length us) refl,
)

single : (c : Clause) → is_single c ≡ true → length c ≡ 1
unfolding is_single
single c h = eqb-true (length c) 1 h

heads : {x y z u v w : Bool} {l m : Assignment} → x ∷ y ∷ z ∷ l ≡ u ∷ v ∷ w ∷ m → (x ≡ u) × (y ≡ v) × (z ≡ w) × (l ≡ m)
heads e = (ap (λ l. get_or l 0 false) e, ap (λ l. get_or l 1 false) e, ap (λ l. get_or l 2 false) e, ap (drop 3) e)

-- An assignment with an extension.
module _ (a e : Assignment) where
  abbrev b : Assignment
  b = a ++ e

  abbrev Named : Rule → Bool
  Named r = all (λ t. leb t.variable (length a)) r.terms

  known : (r : Rule) → Named r ≡ true → total b r.terms ≡ total a r.terms
  known r h = total_front a e r.terms h

  -- A rule's lines say its three values, and the values say the lines.
  rule_values_lem : (k : ℕ) (r : Rule) → Named r ≡ true → T (all (meets b) (rule_lines k r))
      → (value b (k + 1) ≡ at_least r.lower (total a r.terms)) × (value b (k + 2) ≡ at_most r.upper (total a r.terms)) × (value b (k + 3) ≡ rule_holds a r)
  unfolding rule_holds
  rule_values_lem k r n t =
      let h : T (same (value b (k + 2)) (at_most r.upper (total b r.terms)) and (same (value b (k + 1)) (at_least r.lower (total b r.terms)) and same (value b (k + 3)) (value b (k + 1) and value b (k + 2)))) =
      subst T (rule_says b k r) t in
      let m = same_path _ _ (and_left _ _ h) ∙ ap (at_most r.upper) (known r n) in
      let p = same_path _ _ (and_left _ _ (and_right _ _ h)) ∙ ap (at_least r.lower) (known r n) in
      (p, m, same_path _ _ (and_right _ _ (and_right _ _ h)) ∙ ap₂ ◌and◌ p m)

  values_rule : (k : ℕ) (r : Rule) → Named r ≡ true → value b (k + 1) ≡ at_least r.lower (total a r.terms) → value b (k + 2) ≡ at_most r.upper (total a r.terms)
      → value b (k + 3) ≡ rule_holds a r → T (all (meets b) (rule_lines k r))
  unfolding rule_holds
  values_rule k r n p m w =
      let low = at_least r.lower (total a r.terms) in
      let high = at_most r.upper (total a r.terms) in
      let says : all (meets b) (rule_lines k r) ≡ same high high and (same low low and same (low and high) (low and high)) =
      rule_says b k r
      ∙ ap₂ ◌and◌ (ap₂ same m (ap (at_most r.upper) (known r n))) (ap₂ ◌and◌ (ap₂ same p (ap (at_least r.lower) (known r n))) (ap₂ same w (ap₂ ◌and◌ p m))) in
      subst T (sym says) (and_both _ _ (path_same high) (and_both _ _ (path_same low) (path_same (low and high))))

  rules_values : (k : ℕ) (c : Clause) → all Named c ≡ true → T (all (meets b) (rules_lines k c)) → read_rules b k c ≡ concat (map (rule_values a) c)
  unfolding rules_lines read_rules concat rule_values all
  rules_values k [] n t = refl
  rules_values k (r ∷ rs) n t =
      let both = subst T (all_append (meets b) (rule_lines k r) (rules_lines (k + 3) rs)) t in
      let v = rule_values_lem k r (is_true _ (and_left _ _ (T_true n))) (and_left _ _ both) in
      ap₂ ◌∷◌ v.0 (ap₂ ◌∷◌ v.1 (ap₂ ◌∷◌ v.2 (rules_values (k + 3) rs (is_true _ (and_right (Named r) _ (T_true n))) (and_right (all (meets b) (rule_lines k r)) _ both))))

  values_rules : (k : ℕ) (c : Clause) → all Named c ≡ true → read_rules b k c ≡ concat (map (rule_values a) c) → T (all (meets b) (rules_lines k c))
  unfolding rules_lines read_rules concat rule_values all
  values_rules k [] n h = tt
  values_rules k (r ∷ rs) n h =
      let v = heads h in
      subst T (sym (all_append (meets b) (rule_lines k r) (rules_lines (k + 3) rs)))
      (and_both _ _ (values_rule k r (is_true _ (and_left _ _ (T_true n))) v.0 v.1 v.2) (values_rules (k + 3) rs (is_true _ (and_right (Named r) _ (T_true n))) v.3))

  some_holds : (k : ℕ) (c : Clause) → read_rules b k c ≡ concat (map (rule_values a) c) → some_rule b k c ≡ clause_holds a c
  unfolding some_rule read_rules concat rule_values clause_holds any
  some_holds k [] h = refl
  some_holds k (r ∷ rs) h = let v = heads h in ap₂ ◌or◌ v.2 (some_holds (k + 3) rs v.3)

  or_values : (k : ℕ) (c : Clause) → all Named c ≡ true → T (all (meets b) (or_lines k c)) → T (clause_holds a c) × (read_rules b k c ≡ concat (map (rule_values a) c))
  unfolding or_lines all
  or_values k c n t =
      let values = rules_values k c n (and_right (meets b (geq (rule_atoms k c) (pos 1))) _ t) in
      (subst T (some_says b k c ∙ some_holds k c values) (and_left _ _ t), values)

  values_or : (k : ℕ) (c : Clause) → all Named c ≡ true → T (clause_holds a c) → read_rules b k c ≡ concat (map (rule_values a) c) → T (all (meets b) (or_lines k c))
  unfolding or_lines all
  values_or k c n h values = and_both _ _ (subst T (sym (some_says b k c ∙ some_holds k c values)) h) (values_rules k c n values)

  straight_holds : (c : Clause) → all Named c ≡ true → length c ≡ 1 → all (meets b) (concat (map straight c)) ≡ clause_holds a c
  unfolding concat clause_holds any all rule_holds
  straight_holds [] n l = absurd (let z : 0 ≡ 1 = l in omega (arith, z))
  straight_holds (r ∷ []) n l =
      let k = known r (is_true _ (and_left _ _ (T_true n))) in
      ap (all (meets b)) (append-nil (straight r)) ∙ straight_says b r ∙ ap (λ s. at_least r.lower s and at_most r.upper s) k ∙ sym (or_false (at_least r.lower (total a r.terms) and at_most r.upper (total a r.terms)))
  straight_holds (r ∷ q ∷ rs) n l = absurd (omega (arith, l))

  clause_values_lem : (k : ℕ) (c : Clause) → all Named c ≡ true → T (all (meets b) (clause_lines k c)) → T (clause_holds a c) × (cond (is_single c) [] (read_rules b k c) ≡ clause_values a c)
  unfolding clause_lines clause_values
  clause_values_lem k c n t = by (is_single c) refl t
    where
      by : (s : Bool) → is_single c ≡ s → T (all (meets b) (cond s (concat (map straight c)) (or_lines k c)))
          → T (clause_holds a c) × (cond s [] (read_rules b k c) ≡ cond s [] (concat (map (rule_values a) c)))
      by true q t = (subst T (straight_holds c n (single c q)) t, refl)
      by false q t = or_values k c n t

  values_clause : (k : ℕ) (c : Clause) → all Named c ≡ true → T (clause_holds a c) → cond (is_single c) [] (read_rules b k c) ≡ clause_values a c → T (all (meets b) (clause_lines k c))
  unfolding clause_lines clause_values
  values_clause k c n t v = by (is_single c) refl v
    where
      by : (s : Bool) → is_single c ≡ s → cond s [] (read_rules b k c) ≡ cond s [] (concat (map (rule_values a) c)) → T (all (meets b) (cond s (concat (map straight c)) (or_lines k c)))
      by true q v = subst T (sym (straight_holds c n (single c q))) t
      by false q v = values_or k c n t v

  clauses_values :
      (k : ℕ) (cs : List Clause) → all (all Named) cs ≡ true → T (all (meets b) (clauses_lines k cs))
      → T (all (clause_holds a) cs) × (read_clauses b k cs ≡ concat (map (clause_values a) cs))
  unfolding clauses_lines read_clauses concat all
  clauses_values k [] n t = (tt, refl)
  clauses_values k (c ∷ cs) n t =
      let both = subst T (all_append (meets b) (clause_lines k c) (clauses_lines (k + new_atoms c) cs)) t in
      let h = clause_values_lem k c (is_true _ (and_left _ _ (T_true n))) (and_left _ _ both) in
      let r = clauses_values (k + new_atoms c) cs (is_true _ (and_right (all Named c) _ (T_true n))) (and_right (all (meets b) (clause_lines k c)) _ both) in
      (and_both _ _ h.0 r.0, ap₂ ◌++◌ h.1 r.1)

  read_length : (k : ℕ) (c : Clause) → length (read_rules b k c) ≡ 3 * length c
  unfolding read_rules
  read_length k [] = refl
  read_length k (r ∷ rs) = omega (arith, read_length (k + 3) rs)

  values_length : (c : Clause) → length (concat (map (rule_values a) c)) ≡ 3 * length c
  unfolding concat rule_values
  values_length [] = refl
  values_length (r ∷ rs) = omega (arith, values_length rs)

  values_first :
      (k : ℕ) (c : Clause) (xs ys : Assignment) → cond (is_single c) [] (read_rules b k c) ++ xs ≡ clause_values a c ++ ys → (cond (is_single c) [] (read_rules b k c) ≡ clause_values a c) × (xs ≡ ys)
  unfolding clause_values
  values_first k c xs ys e = same_parts _ _ xs ys (by (is_single c)) e
    where
      by : (s : Bool) → length (cond s [] (read_rules b k c)) ≡ length (cond s [] (concat (map (rule_values a) c)))
      by true = refl
      by false = read_length k c ∙ sym (values_length c)

  values_clauses : (k : ℕ) (cs : List Clause) → all (all Named) cs ≡ true → T (all (clause_holds a) cs) → read_clauses b k cs ≡ concat (map (clause_values a) cs) → T (all (meets b) (clauses_lines k cs))
  unfolding clauses_lines read_clauses concat all
  values_clauses k [] n t v = tt
  values_clauses k (c ∷ cs) n t v =
      let first = values_first k c _ _ v in
      subst T (sym (all_append (meets b) (clause_lines k c) (clauses_lines (k + new_atoms c) cs)))
      (and_both _ _ (values_clause k c (is_true _ (and_left _ _ (T_true n))) (and_left _ _ t) first.0) (values_clauses (k + new_atoms c) cs (is_true _ (and_right (all Named c) _ (T_true n))) (and_right (clause_holds a c) _ t) first.1))

-- ---- locks

-- The locks, one by one.
unfoldable kept : Assignment → Lock → Bool
kept a k = agrees (present k.value) (value a k.variable)

locks_kept : (a e : Assignment) (ks : List Lock) → all (λ k. leb k.variable (length a)) ks ≡ true → all (meets (a ++ e)) (map lock_line ks) ≡ all (kept a) ks
unfolding all kept
locks_kept a e [] n = refl
locks_kept a e (k ∷ ks) n =
    let h = leb-true k.variable (length a) (is_true _ (and_left _ _ (T_true n))) in
    ap₂ ◌and◌ (lock_says (a ++ e) k ∙ ap (agrees (present k.value)) (value_front a e k.variable h)) (locks_kept a e ks (is_true _ (and_right (leb k.variable (length a)) _ (T_true n))))

-- What all locks ask of a variable, its lock asks.
kept_agrees : (a : Assignment) (ks : List Lock) (x : ℕ) → T (all (kept a) ks) → T (agrees (lock_among ks x) (value a x))
unfolding all kept lock_among
kept_agrees a [] x t = unfold agrees in tt
kept_agrees a (k ∷ ks) x t = by (eqb k.variable x) refl (kept_agrees a ks x (and_right (kept a k) _ t))
  where
    by : (s : Bool) → eqb k.variable x ≡ s → T (agrees (lock_among ks x) (value a x)) → T (agrees (cond s (present k.value) (lock_among ks x)) (value a x))
    by true e h = subst (λ y. T (agrees (present k.value) (value a y))) (eqb-true k.variable x e) (and_left _ _ t)
    by false e h = h

agrees_kept :
    (a : Assignment) (n v : ℕ) (ks : List Lock) → rising_above v (map lock_term ks) ≡ true → all (λ k. leb k.variable n) ks ≡ true
    → ((x : ℕ) → v < x → x ≤ n → T (agrees (lock_among ks x) (value a x))) → T (all (kept a) ks)
unfolding all kept lock_among rising_above lock_term
agrees_kept a n v [] r m h = tt
agrees_kept a n v (k ∷ ks) r m h =
    let low = ltb-true v k.variable (is_true _ (and_left _ _ (T_true r))) in
    let rest = is_true _ (and_right (ltb v k.variable) _ (T_true r)) in
    let high = leb-true k.variable n (is_true _ (and_left _ _ (T_true m))) in
    let here : T (agrees (cond (eqb k.variable k.variable) (present k.value) (lock_among ks k.variable)) (value a k.variable)) = h k.variable low high in
    and_both _ _ (rw (eq-eqb k.variable k.variable refl) at here)
    (agrees_kept a n k.variable ks rest (is_true _ (and_right (leb k.variable n) _ (T_true m)))
    (λ x l u. let there : T (agrees (cond (eqb k.variable x) (present k.value) (lock_among ks x)) (value a x)) = h x (omega (arith, low, l)) u in
    rw (ne_eqb k.variable x (λ e. omega (arith, e, l))) at there))

-- ---- a lawful plan

terms_named : (n : ℕ) (ts : List Term) → all (term_within n) ts ≡ true → all (λ t. leb t.variable n) ts ≡ true
unfolding all term_within
terms_named n [] h = refl
terms_named n (t ∷ ts) h = is_true _ (and_both _ _ (and_left _ _ (and_left _ _ (T_true h))) (T_true (terms_named n ts (is_true _ (and_right (term_within n t) _ (T_true h))))))

lawful_terms : (n : ℕ) (r : Rule) → rule_lawful n r ≡ true → all (term_within n) r.terms ≡ true
lawful_terms n r h = (rule_parts n r h).terms.within

rules_named_lem : (n : ℕ) (c : Clause) → all (rule_lawful n) c ≡ true → all (λ r. all (λ t. leb t.variable n) r.terms) c ≡ true
unfolding all
rules_named_lem n [] h = refl
rules_named_lem n (r ∷ rs) h =
    is_true _ (and_both _ _ (T_true (terms_named n r.terms (lawful_terms n r (is_true _ (and_left _ _ (T_true h)))))) (T_true (rules_named_lem n rs (is_true _ (and_right (rule_lawful n r) _ (T_true h))))))

clauses_named : (n : ℕ) (cs : List Clause) → all (clause_lawful n) cs ≡ true → all (all (λ r. all (λ t. leb t.variable n) r.terms)) cs ≡ true
unfolding all
clauses_named n [] h = refl
clauses_named n (c ∷ cs) h =
    is_true _ (and_both _ _ (T_true (rules_named_lem n c (clause_rules n c (is_true _ (and_left _ _ (T_true h)))))) (T_true (clauses_named n cs (is_true _ (and_right (clause_lawful n c) _ (T_true h))))))

locks_named : (n : ℕ) (ks : List Lock) → all (term_within n) (map lock_term ks) ≡ true → all (λ k. leb k.variable n) ks ≡ true
unfolding all term_within lock_term
locks_named n [] h = refl
locks_named n (k ∷ ks) h = is_true _ (and_both _ _ (and_left _ _ (and_left _ _ (T_true h))) (T_true (locks_named n ks (is_true _ (and_right (term_within n (lock_term k)) _ (T_true h))))))

module _ (p : Plan) (w : Within 512 1_024 6_000 p) (a : Assignment) (size : length a ≡ p.variables) where
  named : all (all (λ r. all (λ t. leb t.variable (length a)) r.terms)) p.clauses ≡ true
  named = rw size (clauses_named p.variables p.clauses w.clauses)

  lock_numbers : all (λ k. leb k.variable (length a)) p.locks ≡ true
  lock_numbers = rw size (locks_named p.variables p.locks w.locks.within)

  lock_of_lem : (x : ℕ) → 1 ≤ x → x ≤ p.variables → lock_of p x ≡ lock_among p.locks x
  unfolding lock_of is_variable ◌and◌
  lock_of_lem x l u = rw (lt-ltb 0 x l, lt-ltb x (suc p.variables) (omega (arith, u))) refl

  obeys_kept : T (obeys a p) → T (all (kept a) p.locks)
  obeys_kept h =
      agrees_kept a p.variables 0 p.locks (unrise w.locks.rise) (locks_named p.variables p.locks w.locks.within)
      (λ x l u. subst (λ (k : Bound Bool). T (agrees k (value a x))) (lock_of_lem x l u) (obeyed p a x h))
    where
      unrise : rising (lock_terms p) ≡ true → rising_above 0 (lock_terms p) ≡ true
      unrise h = unfold rising in h

  kept_obeys : T (all (kept a) p.locks) → T (obeys a p)
  unfolding obeys
  kept_obeys h =
      all_in_row (λ x. agrees (lock_of p x) (value a x)) 1 p.variables
      (λ x l u. subst (λ (k : Bound Bool). T (agrees k (value a x))) (sym (lock_of_lem x l (omega (arith, u)))) (kept_agrees a p.locks x h))

  module _ (e : Assignment) (new : length e ≡ sum_by new_atoms p.clauses) where
    read_new : read_clauses (a ++ e) p.variables p.clauses ≡ e
    read_new = ap (λ n. read_clauses (a ++ e) n p.clauses) (sym size) ∙ read_clauses_lem a p.clauses e new

    -- Exactly this extension satisfies the text, and only where the plan and its locks are satisfied.
    pub text_plan : T (solves (a ++ e) (tau p)) → T (satisfies a p) × T (obeys a p) × (e ≡ extension p a)
    unfolding solves tau satisfies extension
    text_plan t =
        let both = subst T (all_append (meets (a ++ e)) (clauses_lines p.variables p.clauses) (map lock_line p.locks)) t in
        let h = clauses_values a e p.variables p.clauses named (and_left _ _ both) in
        let k = and_right (all (meets (a ++ e)) (clauses_lines p.variables p.clauses)) _ both in
        (h.0, kept_obeys (subst T (locks_kept a e p.locks lock_numbers) k), sym read_new ∙ h.1)

    pub plan_text : T (satisfies a p) → T (obeys a p) → e ≡ extension p a → T (solves (a ++ e) (tau p))
    unfolding solves tau satisfies extension
    plan_text s o same =
        subst T (sym (all_append (meets (a ++ e)) (clauses_lines p.variables p.clauses) (map lock_line p.locks)))
        (and_both _ _ (values_clauses a e p.variables p.clauses named s (read_new ∙ same)) (subst T (sym (locks_kept a e p.locks lock_numbers)) (obeys_kept o)))

-- ---- the claims

extension_length : (a : Assignment) (cs : List Clause) → length (concat (map (clause_values a) cs)) ≡ sum_by new_atoms cs
unfolding concat sum_by
extension_length a [] = refl
extension_length a (c ∷ cs) = length-append (clause_values a c) (concat (map (clause_values a) cs)) ∙ ap₂ ◌+◌ (here c) (extension_length a cs)
  where
    here : (c : Clause) → length (clause_values a c) ≡ new_atoms c
    here c = unfold clause_values new_atoms in by (is_single c)
      where
        by : (s : Bool) → length (cond s [] (concat (map (rule_values a) c))) ≡ cond s 0 (3 * length c)
        by true = refl
        by false = values_length a [] c

-- "Each assignment that satisfies plan and locks has exactly one extension that satisfies the text, and no other has any."
pub exactly_one_lem : ExactlyOne
exactly_one_lem p t a size =
    let w = plan_parts p t in (
      (λ s o. (extension p a, record { size = long p a; solved = plan_text p w a size (extension p a) (long p a) s o refl }, λ d h. (text_plan p w a size d h.size h.solved).2)),
      (λ e h. let r = text_plan p w a size e h.size h.solved in (r.0, r.1)),
    )
  where
    long : (p : Plan) (a : Assignment) → length (extension p a) ≡ sum_by new_atoms p.clauses
    long p a = unfold extension in extension_length a p.clauses

-- A text is read as a plan with the same solutions.
line_holds : (a : Assignment) (c : Line) → clause_holds a (line_rule c ∷ []) ≡ meets a c
unfolding clause_holds any rule_holds line_rule meets at_least
line_holds a c = or_false _ ∙ by c.exact
  where
    by : (x : Bool)
        → le_z c.bound (total a c.terms) and at_most (cond x (present c.bound) absent) (total a c.terms)
        ≡ cond x (le_z c.bound (total a c.terms) and le_z (total a c.terms) c.bound) (le_z c.bound (total a c.terms))
    by true = unfold at_most in refl
    by false = unfold at_most in and_true (le_z c.bound (total a c.terms))

pub read_solves : (a : Assignment) (t : Text) → satisfies a (plan_of t) ≡ solves a t
unfolding satisfies plan_of solves
read_solves a t = lines t.lines
  where
    lines : (cs : List Line) → all (clause_holds a) (map (λ c. line_rule c ∷ []) cs) ≡ all (meets a) cs
    lines [] = unfold all in refl
    lines (c ∷ cs) = more c cs (lines cs)
      where
        more : (c : Line) (cs : List Line) → all (clause_holds a) (map (λ c. line_rule c ∷ []) cs) ≡ all (meets a) cs
            → all (clause_holds a) (map (λ c. line_rule c ∷ []) (c ∷ cs)) ≡ all (meets a) (c ∷ cs)
        more c cs h = unfold all in ap₂ ◌and◌ (line_holds a c) h

pub no_atoms : (cs : List Clause) → T (all is_single cs) → sum_by new_atoms cs ≡ 0
unfolding all sum_by new_atoms
no_atoms [] t = refl
no_atoms (c ∷ cs) t = rw (is_true (is_single c) (and_left _ _ t)) (zero-add (sum_by new_atoms cs) ∙ no_atoms cs (and_right (is_single c) _ t))

-- "one of single-rule clauses that does not, read again, has the same solutions"
pub same_solutions : SameSolutions
same_solutions p t singles a size =
    read_solves a (tau p)
    ∙ same_test (solves a (tau p)) (satisfies a p and obeys a p)
    (λ h. let r = text_plan p w a size [] none (subst (λ (b : Assignment). T (solves b (tau p))) (sym (append-nil a)) h) in and_both _ _ r.0 r.1)
    (λ h. subst (λ (b : Assignment). T (solves b (tau p))) (append-nil a) (plan_text p w a size [] none (and_left _ _ h) (and_right (satisfies a p) _ h) (nothing (extension p a) (long ∙ sym none))))
  where
    w : Within 512 1_024 6_000 p
    w = plan_parts p t

    none : length {A = Bool} [] ≡ sum_by new_atoms p.clauses
    none = sym (no_atoms p.clauses singles)

    long : length (extension p a) ≡ sum_by new_atoms p.clauses
    long = unfold extension in extension_length a p.clauses

    nothing : (d : Assignment) → length d ≡ 0 → [] ≡ d
    nothing [] h = refl
    nothing (x ∷ d) h = absurd (let z : suc (length d) ≡ 0 = h in omega (arith, z))
