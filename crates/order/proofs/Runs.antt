-- Why a linear test of the order is enough: a run is a list of places with terms that name x, and its rules rise strictly; so it leaves out of
-- x's occurrences what it does, and holds none twice. If all runs together are as long as there are terms, none leaves out any.
use Prim.Native.Nat.{ℕ, zero, suc, ◌+◌, ◌-◌, ◌≤◌, ◌<◌}
use native.Mathlib.Nat.{zero-add, add-zero, le_refl, eq-or-lt_of_le}
use native.Mathlib.Omega.{arith}
use mathlib.Core.Path.{◌≡◌, refl, sym, ap, ap₂, ◌∙◌, subst}
use mathlib.Core.Logic.{◌⊎◌, inl, inr, ⊎_elim}
use mathlib.Core.Bool.{Bool, true, false, cond}
use mathlib.Core.List.{List, [], ◌∷◌, ◌++◌, map}
use lib.Dec.{T, leb, ltb, eqb, ltb→lt, leb→le, le→leb, lt→ltb, eqb→eq}
use lib.ListN.{length, get_or, take, length-append, get_or-append}
use lib.Seq.{take_all, get_or-append-add}
use borrow.Author.Tests.{eq-eqb, eqb-true}
use Rattle.plpb.specs.Lists.{◌and◌, all, sum_by, concat, row}
use Rattle.plpb.specs.Plan.{Term, Rule, Clause, Plan, numbers_rise}
use Rattle.plpb.specs.Tallies.{rules_of}
use Rattle.plpb.proofs.Lists.{and_left, and_right, and_both, T_true, all_append}
use Rattle.order.specs.Order.{Place, in_terms, in_rules, in_clauses, occurrences, order, term_count, numbers_within, no_rule, no_term, rule_at, term_at, first_rule, is_place, names_at, rise_within}
use Rattle.order.proofs.Occurrences.{occurrences_rise, occurrences_add_up}

-- ---- a part of a list in which keys rise

module _ {A : Type 0} where
  -- An element is among a list's.
  unfoldable pub Among : A → List A → Type 0
  Among x [] = ⊥
  Among x (y ∷ ys) = (x ≡ y) ⊎ Among x ys

  pub among_left : (x : A) (xs ys : List A) → Among x xs → Among x (xs ++ ys)
  unfolding Among
  among_left x [] ys m = absurd m
  among_left x (z ∷ xs) ys m = ⊎_elim inl (λ n. inr (among_left x xs ys n)) m

  pub among_right : (x : A) (xs ys : List A) → Among x ys → Among x (xs ++ ys)
  unfolding Among
  among_right x [] ys m = m
  among_right x (z ∷ xs) ys m = inr (among_right x xs ys m)

  module _ (key : A → ℕ) where
    -- What is among them has a key from b on.
    low_key : (b e : ℕ) (xs : List A) (x : A) → T (rise_within b e (map key xs)) → Among x xs → b ≤ key x
    unfolding Among rise_within
    low_key b e [] x t m = absurd m
    low_key b e (y ∷ ys) x t m =
        let here : b ≤ key y = leb→le b (key y) (and_left (leb b (key y)) (rise_within (suc (key y)) e (map key ys)) t) in
        ⊎_elim (λ s. rw s here) (λ n. later here (low_key (suc (key y)) e ys x (and_right (leb b (key y)) (rise_within (suc (key y)) e (map key ys)) t) n)) m
      where
        later : b ≤ key y → suc (key y) ≤ key x → b ≤ key x
        later h k = omega arith

    -- What a list with higher keys has from y ∷ ys, it has from ys.
    not_first : (y : A) (ys : List A) (x : A) → key y < key x → Among x (y ∷ ys) → Among x ys
    unfolding Among
    not_first y ys x h m = ⊎_elim (λ s. absurd (apart s)) (λ n. n) m
      where
        apart : x ≡ y → ⊥
        apart s = let k : key x ≡ key y = ap key s in omega arith

    -- No longer than the list, and all of it where it is as long.
    pub record Part (xs ys : List A) : Type 0 where
      pub fewer : length xs ≤ length ys
      pub whole : length xs ≡ length ys → xs ≡ ys

    pub rising_part : (b e d f : ℕ) (xs ys : List A) → T (rise_within b e (map key xs)) → T (rise_within d f (map key ys)) → ((x : A) → Among x xs → Among x ys) → Part xs ys
    unfolding Among rise_within
    rising_part b e d f [] [] s t h = record { fewer = le_refl 0; whole = λ z. refl }
    rising_part b e d f [] (y ∷ ys) s t h = record { fewer = omega arith; whole = λ z. absurd (omega arith) }
    rising_part b e d f (x ∷ xs) [] s t h = absurd (h x (inl refl))
    rising_part b e d f (x ∷ xs) (y ∷ ys) s t h =
        ⊎_elim
        (λ m. here m (rising_part (suc (key x)) e (suc (key y)) f xs ys s' t' (λ z n. not_first y ys z (beyond m z n) (h z (inr n)))))
        (λ m. later (rising_part b e (suc (key y)) f (x ∷ xs) ys s t' (λ z n. not_first y ys z (after m z n) (h z n))))
        (h x (inl refl))
      where
        s' : T (rise_within (suc (key x)) e (map key xs))
        s' = and_right (leb b (key x)) (rise_within (suc (key x)) e (map key xs)) s

        t' : T (rise_within (suc (key y)) f (map key ys))
        t' = and_right (leb d (key y)) (rise_within (suc (key y)) f (map key ys)) t

        beyond : x ≡ y → (z : A) → Among z xs → key y < key z
        beyond m z n = let k : key x ≡ key y = ap key m in omega (arith, low_key (suc (key x)) e xs z s' n)

        after : Among x ys → (z : A) → (z ≡ x) ⊎ Among z xs → key y < key z
        after m z n =
            let k : suc (key y) ≤ key x = low_key (suc (key y)) f ys x t' m in
            ⊎_elim (λ w. rw w k) (λ w. further k (low_key (suc (key x)) e xs z s' w)) n
          where
            further : suc (key y) ≤ key x → suc (key x) ≤ key z → key y < key z
            further k l = omega arith

        here : x ≡ y → Part xs ys → Part (x ∷ xs) (y ∷ ys)
        here m p = record { fewer = omega (arith, p.fewer); whole = λ z. ap₂ (λ u us. u ∷ us) m (p.whole (omega arith)) }

        later : Part (x ∷ xs) ys → Part (x ∷ xs) (y ∷ ys)
        later p = record { fewer = omega (arith, p.fewer); whole = λ z. absurd (omega (arith, p.fewer)) }

-- ---- equal sums of parts that are no larger are sums of equal parts

sum_fewer : (f g : ℕ → ℕ) (i k : ℕ) → ((x : ℕ) → i ≤ x → x < i + k → f x ≤ g x) → sum_by f (row i k) ≤ sum_by g (row i k)
unfolding sum_by row
sum_fewer f g i zero h = le_refl 0
sum_fewer f g i (suc k) h =
    omega (arith, h i (omega arith) (omega arith), sum_fewer f g (suc i) k (λ x l u. h x (omega arith) (omega arith)))

sum_whole : (f g : ℕ → ℕ) (i k : ℕ) → ((x : ℕ) → i ≤ x → x < i + k → f x ≤ g x) → sum_by f (row i k) ≡ sum_by g (row i k) → (x : ℕ) → i ≤ x → x < i + k → f x ≡ g x
unfolding sum_by row
sum_whole f g i zero h e x l u = absurd (omega arith)
sum_whole f g i (suc k) h e x l u =
    let head = h i (omega arith) (omega arith) in
    let tail = sum_fewer f g (suc i) k (λ y m v. h y (omega arith) (omega arith)) in
    ⊎_elim (λ s. rw (← s) (omega (arith, head, tail)))
    (λ m. sum_whole f g (suc i) k (λ y m v. h y (omega arith) (omega arith)) (omega (arith, head, tail)) x m (omega arith)) (eq-or-lt_of_le l)

-- ---- a place with a term that names x is one of its occurrences

in_terms_lem : (x c r i j : ℕ) (ts : List Term) → j < length ts → (get_or ts j no_term).variable ≡ x → Among (record { clause = c; rule = r; term = i + j }) (in_terms x c r i ts)
unfolding in_terms Among
in_terms_lem x c r i j [] h e = absurd (omega arith)
in_terms_lem x c r i zero (t ∷ ts) h e = rw (eq-eqb t.variable x e, add-zero i) (inl refl)
in_terms_lem x c r i (suc j) (t ∷ ts) h e = at (eqb t.variable x) (rw next at (in_terms_lem x c r (suc i) j ts (omega arith) e))
  where
    next : suc i + j ≡ i + suc j
    next = omega arith

    at : (b : Bool) → Among (record { clause = c; rule = r; term = i + suc j }) (in_terms x c r (suc i) ts) → Among (record { clause = c; rule = r; term = i + suc j }) (cond b (record { clause = c; rule = r; term = i } ∷ in_terms x c r (suc i) ts) (in_terms x c r (suc i) ts))
    at true m = inr m
    at false m = m

in_rules_lem : (x c r i j : ℕ) (qs : List Rule) → i < length qs → j < length (get_or qs i no_rule).terms → (get_or (get_or qs i no_rule).terms j no_term).variable ≡ x → Among (record { clause = c; rule = r + i; term = j }) (in_rules x c r qs)
unfolding in_rules
in_rules_lem x c r i j [] l h e = absurd (omega arith)
in_rules_lem x c r zero j (q ∷ qs) l h e =
    among_left _ (in_terms x c r 0 q.terms) (in_rules x c (suc r) qs) (rw (add-zero r) (rw zero-add at (in_terms_lem x c r 0 j q.terms h e)))
in_rules_lem x c r (suc i) j (q ∷ qs) l h e =
    among_right _ (in_terms x c r 0 q.terms) (in_rules x c (suc r) qs) (rw next at (in_rules_lem x c (suc r) i j qs (omega arith) h e))
  where
    next : suc r + i ≡ r + suc i
    next = omega arith

in_clauses_lem : (x c r k i j : ℕ) (ks : List Clause) → k < length ks → i < length (get_or ks k []) → j < length (get_or (get_or ks k []) i no_rule).terms → (get_or (get_or (get_or ks k []) i no_rule).terms j no_term).variable ≡ x → Among (record { clause = c + k; rule = r + (first_rule ks k + i); term = j }) (in_clauses x c r ks)
unfolding in_clauses first_rule concat
in_clauses_lem x c r k i j [] m l h e = absurd (omega arith)
in_clauses_lem x c r zero i j (q ∷ qs) m l h e =
    among_left _ (in_rules x c r q) (in_clauses x (suc c) (r + length q) qs) (rw (add-zero c, zero-add i) (in_rules_lem x c r i j q l h e))
in_clauses_lem x c r (suc k) i j (q ∷ qs) m l h e =
    among_right _ (in_rules x c r q) (in_clauses x (suc c) (r + length q) qs) (rw (next, further) at (in_clauses_lem x (suc c) (r + length q) k i j qs (omega arith) l h e))
  where
    next : suc c + k ≡ c + suc k
    next = omega arith

    further : r + length q + (length (concat (take k qs)) + i) ≡ r + (length (q ++ concat (take k qs)) + i)
    further = omega (arith, length-append q (concat (take k qs)))

-- ---- where a clause's rules stand

pub first_none : (ks : List Clause) → first_rule ks 0 ≡ 0
unfolding first_rule concat
first_none ks = refl

pub first_all : (ks : List Clause) → first_rule ks (length ks) ≡ length (concat ks)
unfolding first_rule
first_all ks = ap (λ us. length (concat us)) (take_all (length ks) ks (omega arith))

pub first_next : (ks : List Clause) (k : ℕ) → k < length ks → first_rule ks (suc k) ≡ first_rule ks k + length (get_or ks k [])
unfolding first_rule concat
first_next [] k h = absurd (omega arith)
first_next (q ∷ qs) zero h = omega (arith, length-append q [])
first_next (q ∷ qs) (suc k) h =
    omega (arith, length-append q (concat (take k qs)), length-append q (concat (take (suc k) qs)), first_next qs k (omega arith))

pub rule_in_clause : (ks : List Clause) (k i : ℕ) → k < length ks → i < length (get_or ks k []) → get_or (concat ks) (first_rule ks k + i) no_rule ≡ get_or (get_or ks k []) i no_rule
unfolding first_rule concat
rule_in_clause [] k i h l = absurd (omega arith)
rule_in_clause (q ∷ qs) zero i h l = rw (zero-add i) (get_or-append q (concat qs) no_rule i l)
rule_in_clause (q ∷ qs) (suc k) i h l =
    ap (λ r. get_or (q ++ concat qs) r no_rule) further
    ∙ get_or-append-add q (concat qs) (length (concat (take k qs)) + i) no_rule
    ∙ rule_in_clause qs k i (omega arith) l
  where
    further : length (q ++ concat (take k qs)) + i ≡ length q + (length (concat (take k qs)) + i)
    further = omega (arith, length-append q (concat (take k qs)))

-- What names_at says.
pub record Named (p : Plan) (x : ℕ) (q : Place) : Type 0 where
  pub clause_there : q.clause < length p.clauses
  pub first : first_rule p.clauses q.clause ≤ q.rule
  pub last : q.rule < first_rule p.clauses (suc q.clause)
  pub term_there : q.term < length (rule_at p q.rule).terms
  pub named : (term_at p q).variable ≡ x

pub named_of : (p : Plan) (x : ℕ) (q : Place) → T (names_at p x q) → Named p x q
unfolding names_at is_place
named_of p x q t =
    let a = ltb q.clause (length p.clauses) in
    let b = leb (first_rule p.clauses q.clause) q.rule in
    let c = ltb q.rule (first_rule p.clauses (suc q.clause)) in
    let d = ltb q.term (length (rule_at p q.rule).terms) in
    let e = eqb (term_at p q).variable x in
    let abcd = and_left (a and b and c and d) e t in
    let abc = and_left (a and b and c) d abcd in
    let ab = and_left (a and b) c abc in
    record {
      clause_there = ltb→lt q.clause (length p.clauses) (and_left a b ab);
      first = leb→le (first_rule p.clauses q.clause) q.rule (and_right a b ab);
      last = ltb→lt q.rule (first_rule p.clauses (suc q.clause)) (and_right (a and b) c abc);
      term_there = ltb→lt q.term (length (rule_at p q.rule).terms) (and_right (a and b and c) d abcd);
      named = eqb→eq (term_at p q).variable x (and_right (a and b and c and d) e t);
    }

pub first_within : (ks : List Clause) (k : ℕ) → first_rule ks k ≤ length (concat ks)
unfolding first_rule concat
first_within [] zero = le_refl 0
first_within [] (suc k) = le_refl 0
first_within (q ∷ qs) zero = omega arith
first_within (q ∷ qs) (suc k) = omega (arith, length-append q (concat (take k qs)), length-append q (concat qs), first_within qs k)

module _ (p : Plan) (x : ℕ) (q : Place) (n : Named p x q) where
  -- The rule's place in its clause.
  pub named_inside : q.rule - first_rule p.clauses q.clause < length (get_or p.clauses q.clause [])
  named_inside = omega (arith, n.first, n.last, first_next p.clauses q.clause n.clause_there)

  pub named_back : first_rule p.clauses q.clause + (q.rule - first_rule p.clauses q.clause) ≡ q.rule
  named_back = omega (arith, n.first)

  pub named_rule : rule_at p q.rule ≡ get_or (get_or p.clauses q.clause []) (q.rule - first_rule p.clauses q.clause) no_rule
  unfolding rule_at rules_of
  named_rule =
      ap (λ r. get_or (concat p.clauses) r no_rule) (sym named_back)
      ∙ rule_in_clause p.clauses q.clause (q.rule - first_rule p.clauses q.clause) n.clause_there named_inside

  pub named_below : q.rule < length (rules_of p)
  unfolding rules_of
  named_below = omega (arith, n.last, first_within p.clauses (suc q.clause))

-- A place of a clause's rule where a term names x is an occurrence of x.
pub named_occurs : (p : Plan) (x : ℕ) (q : Place) → T (names_at p x q) → Among q (occurrences p x)
unfolding occurrences term_at
named_occurs p x q t =
    subst (λ r. Among r (in_clauses x 0 0 p.clauses)) place
    (in_clauses_lem x 0 0 q.clause (q.rule - first_rule p.clauses q.clause) q.term p.clauses n.clause_there (named_inside p x q n)
    (subst (λ r. q.term < length r.terms) (named_rule p x q n) n.term_there) (subst (λ r. (get_or r.terms q.term no_term).variable ≡ x) (named_rule p x q n) n.named))
  where
    n : Named p x q
    n = named_of p x q t

    place : record { clause = 0 + q.clause; rule = 0 + (first_rule p.clauses q.clause + (q.rule - first_rule p.clauses q.clause)); term = q.term } ≡ q
    place = ap₂ (λ c r. record { clause = c; rule = r; term = q.term }) (zero-add q.clause) (zero-add _ ∙ named_back p x q n)

-- ---- the linear test

-- A list of places that may be a variable's run: its rules rise strictly and each place has a term that names the variable.
pub record Run (p : Plan) (x : ℕ) (qs : List Place) : Type 0 where
  pub rise : T (rise_within 0 (length (rules_of p)) (map (λ q. q.rule) qs))
  pub names : T (all (names_at p x) qs)

all_among : {A : Type 0} (f : A → Bool) (xs : List A) (x : A) → T (all f xs) → Among x xs → T (f x)
unfolding all Among
all_among f [] x t m = absurd m
all_among f (y ∷ ys) x t m =
    ⊎_elim (λ e. rw e (and_left (f y) (all f ys) t)) (λ n. all_among f ys x (and_right (f y) (all f ys) t) n) m

-- A run is a part of the occurrences.
pub run_part : (p : Plan) (x : ℕ) (qs : List Place) → T (numbers_rise p) → Run p x qs → Part (λ q. q.rule) qs (occurrences p x)
run_part p x qs rise r =
    rising_part (λ q. q.rule) 0 (length (rules_of p)) 0 (length (rules_of p)) qs (occurrences p x) r.rise (occurrences_rise p x rise)
    (λ q m. named_occurs p x q (all_among (names_at p x) qs q r.names m))

-- Runs that are together as long as there are terms are the occurrences, each of them: none is longer than its variable's occurrences, and those add up
-- to the same.
pub runs_whole : (p : Plan) (run : ℕ → List Place) → T (numbers_rise p) → T (numbers_within p) → ((x : ℕ) → 1 ≤ x → x ≤ p.variables → Run p x (run x)) → sum_by (λ x. length (run x)) (row 1 p.variables) ≡ term_count p → (x : ℕ) → 1 ≤ x → x ≤ p.variables → run x ≡ occurrences p x
runs_whole p run rise within runs sum x low high =
    (run_part p x (run x) rise (runs x low high)).whole
    (sum_whole (λ y. length (run y)) (λ y. length (occurrences p y)) 1 p.variables (λ y l u. (run_part p y (run y) rise (runs y l (omega arith))).fewer)
    (sum ∙ sym (occurrences_add_up p within)) x low (omega arith))

-- ---- .. which the occurrences themselves pass

module _ (x : ℕ) (g : Place → Bool) where
  all_terms_lem : (c r i : ℕ) (ts : List Term) → ((j : ℕ) → j < length ts → (get_or ts j no_term).variable ≡ x → T (g (record { clause = c; rule = r; term = i + j }))) → T (all g (in_terms x c r i ts))
  unfolding in_terms all
  all_terms_lem c r i [] h = tt
  all_terms_lem c r i (t ∷ ts) h =
      at (eqb t.variable x) refl (all_terms_lem c r (suc i) ts (λ j l e. subst (λ k. T (g (record { clause = c; rule = r; term = k }))) (next j) (h (suc j) (omega arith) e)))
    where
      next : (j : ℕ) → i + suc j ≡ suc i + j
      next j = omega arith

      q : Place
      q = record { clause = c; rule = r; term = i }

      at : (b : Bool) → eqb t.variable x ≡ b → T (all g (in_terms x c r (suc i) ts)) → T (all g (cond b (q ∷ in_terms x c r (suc i) ts) (in_terms x c r (suc i) ts)))
      at true e ih = and_both (g q) (all g (in_terms x c r (suc i) ts)) (subst (λ k. T (g (record { clause = c; rule = r; term = k }))) (add-zero i) (h 0 (omega arith) (eqb-true t.variable x e))) ih
      at false e ih = ih

  all_rules : (c r : ℕ) (qs : List Rule) → ((i j : ℕ) → i < length qs → j < length (get_or qs i no_rule).terms → (get_or (get_or qs i no_rule).terms j no_term).variable ≡ x → T (g (record { clause = c; rule = r + i; term = j }))) → T (all g (in_rules x c r qs))
  unfolding in_rules all
  all_rules c r [] h = tt
  all_rules c r (q ∷ qs) h =
      rw (all_append g (in_terms x c r 0 q.terms) (in_rules x c (suc r) qs))
      (and_both (all g (in_terms x c r 0 q.terms)) (all g (in_rules x c (suc r) qs))
      (all_terms_lem c r 0 q.terms (λ j l e. subst (λ k. T (g (record { clause = c; rule = r; term = k }))) (sym (zero-add j)) (subst (λ k. T (g (record { clause = c; rule = k; term = j }))) (add-zero r) (h 0 j (omega arith) l e))))
      (all_rules c (suc r) qs (λ i j m l e. subst (λ k. T (g (record { clause = c; rule = k; term = j }))) (next i) (h (suc i) j (omega arith) l e))))
    where
      next : (i : ℕ) → r + suc i ≡ suc r + i
      next i = omega arith

  all_clauses : (c r : ℕ) (ks : List Clause) → ((k i j : ℕ) → k < length ks → i < length (get_or ks k []) → j < length (get_or (get_or ks k []) i no_rule).terms → (get_or (get_or (get_or ks k []) i no_rule).terms j no_term).variable ≡ x → T (g (record { clause = c + k; rule = r + (first_rule ks k + i); term = j }))) → T (all g (in_clauses x c r ks))
  unfolding in_clauses all first_rule concat
  all_clauses c r [] h = tt
  all_clauses c r (q ∷ qs) h =
      rw (all_append g (in_rules x c r q) (in_clauses x (suc c) (r + length q) qs))
      (and_both (all g (in_rules x c r q)) (all g (in_clauses x (suc c) (r + length q) qs))
      (all_rules c r q (λ i j m l e. subst (λ k. T (g (record { clause = c; rule = r + k; term = j }))) (zero-add i) (subst (λ k. T (g (record { clause = k; rule = r + (0 + i); term = j }))) (add-zero c) (h 0 i j (omega arith) m l e))))
      (all_clauses (suc c) (r + length q) qs (λ k i j n m l e.
      subst (λ d. T (g (record { clause = suc c + k; rule = d; term = j }))) (further k i)
      (subst (λ d. T (g (record { clause = d; rule = r + (length (q ++ concat (take k qs)) + i); term = j }))) (next k) (h (suc k) i j (omega arith) m l e)))))
    where
      next : (k : ℕ) → c + suc k ≡ suc c + k
      next k = omega arith

      further : (k i : ℕ) → r + (length (q ++ concat (take k qs)) + i) ≡ r + length q + (length (concat (take k qs)) + i)
      further k i = omega (arith, length-append q (concat (take k qs)))

pub occurrences_named : (p : Plan) (x : ℕ) → T (all (names_at p x) (occurrences p x))
unfolding occurrences names_at is_place rule_at term_at rules_of
occurrences_named p x = all_clauses x (names_at p x) 0 0 ks named
  where
    ks : List Clause
    ks = p.clauses

    named : (k i j : ℕ) → k < length ks → i < length (get_or ks k []) → j < length (get_or (get_or ks k []) i no_rule).terms → (get_or (get_or (get_or ks k []) i no_rule).terms j no_term).variable ≡ x → T (names_at p x (record { clause = 0 + k; rule = 0 + (first_rule ks k + i); term = j }))
    named k i j n m l e =
        let same = rule_in_clause ks k i n m in
        rw (zero-add k, zero-add (first_rule ks k + i))
        (and_both _ _ (and_both _ _ (and_both _ _ (and_both _ _
        (lt→ltb k (length ks) n)
        (le→leb (first_rule ks k) (first_rule ks k + i) (omega arith)))
        (lt→ltb (first_rule ks k + i) (first_rule ks (suc k)) (omega (arith, first_next ks k n))))
        (lt→ltb j (length (get_or (concat ks) (first_rule ks k + i) no_rule).terms) (subst (λ r. j < length r.terms) (sym same) l)))
        (T_true (eq-eqb (get_or (get_or (concat ks) (first_rule ks k + i) no_rule).terms j no_term).variable x (ap (λ r. (get_or r.terms j no_term).variable) same ∙ e))))

pub occurrences_run : (p : Plan) (x : ℕ) → T (numbers_rise p) → Run p x (occurrences p x)
occurrences_run p x rise = record { rise = occurrences_rise p x rise; names = occurrences_named p x }

-- Each place of the order is one that there is.
all_follows : {A : Type 0} (f g : A → Bool) → ((x : A) → T (f x) → T (g x)) → (xs : List A) → T (all f xs) → T (all g xs)
unfolding all
all_follows f g h [] t = tt
all_follows f g h (x ∷ xs) t = and_both (g x) (all g xs) (h x (and_left (f x) (all f xs) t)) (all_follows f g h xs (and_right (f x) (all f xs) t))

pub occurrences_places : (p : Plan) (x : ℕ) → T (all (is_place p) (occurrences p x))
unfolding names_at
occurrences_places p x =
    all_follows (names_at p x) (is_place p) (λ q t. and_left (is_place p q) (eqb (term_at p q).variable x) t) (occurrences p x) (occurrences_named p x)

places_from_lem : (p : Plan) (i k : ℕ) → T (all (is_place p) (concat (map (occurrences p) (row i k))))
unfolding concat row all
places_from_lem p i zero = tt
places_from_lem p i (suc k) =
    rw (all_append (is_place p) (occurrences p i) (concat (map (occurrences p) (row (suc i) k))))
    (and_both (all (is_place p) (occurrences p i)) (all (is_place p) (concat (map (occurrences p) (row (suc i) k)))) (occurrences_places p i) (places_from_lem p (suc i) k))

pub order_places : (p : Plan) → T (all (is_place p) (order p))
unfolding order
order_places p = places_from_lem p 1 p.variables

-- A place that there is names the variable of its term.
pub place_named : (p : Plan) (q : Place) → T (is_place p q) → Named p (term_at p q).variable q
unfolding names_at
place_named p q t = named_of p (term_at p q).variable q (and_both (is_place p q) (eqb (term_at p q).variable (term_at p q).variable) t (T_true (eq-eqb (term_at p q).variable (term_at p q).variable refl)))
