-- The new plan is lawful: numbers rise as they did, a bound that is kept lies between the least and the greatest sum, a rule that is kept has a term
-- left, and nothing becomes more.
-- Assumes nothing.
use Prim.Native.Nat.{ℕ, suc, ◌+◌, ◌*◌, ◌≤◌, ◌<◌, zero-le}
use native.Mathlib.Nat.{le_refl}
use native.Mathlib.Omega.{arith}
use mathlib.Core.Path.{◌≡◌, refl, sym, ◌∙◌}
use mathlib.Core.Bool.{Bool, true, false, not, cond}
use mathlib.Core.List.{List, [], ◌∷◌, map}
use lib.IntN.{ℤ, pos, negsuc, nat_abs}
use lib.ListN.{length, length-append}
use lib.Signed.{le_z}
use borrow.Author.Tests.{lt-ltb, ltb-true, leb-true, leb-false, le-leb}
use Rattle.plpb.specs.Lists.{◌and◌, ◌or◌, keep, count, any, all, concat, is_empty, sum_by, row}
use Rattle.plpb.specs.Plan.{Bound, absent, present, Term, Rule, Clause, Plan, lock_of, is_locked, is_present, at_least, at_most, negative_part, least_total, rising_above, rising}
use Rattle.plpb.specs.Tallies.{rules_of}
use Rattle.plpb.proofs.Lists.{count_le, length_row}
use Rattle.format.specs.Limits.{bound_lawful, rule_lawful, term_count, weight_lawful, term_within}
use Rattle.format.specs.Limits as Limits
use Rattle.format.proofs.Bools.{and_left, and_right, and_join, true_T}
use Rattle.format.proofs.Bounds.{both_lawful}
use Rattle.format.proofs.Lists.{sum_by_append}
use Rattle.format.proofs.Lawful.{weight_small, LawfulTerms, LawfulRule, terms_short, rule_parts, rule_whole, clause_lawful, clause_rules, clause_whole, plan_parts, plan_whole}
use Rattle.format.proofs.Sizes.{terms_of}
use Rattle.counting.proofs.Signed.{size_sum}
use Rattle.squeezed.specs.Squeezed.{Becomes, locked, renumbered, is_unlocked, unlocked, new_number, under_lock, becomes, stays, terms_left, put_in, positive_part, greatest_total, possible, always, trimmed, rules_left, remains, clauses_left, squeezed, all_locked, clause_lost}
use Rattle.squeezed.specs.Claims.{Lawful}
use Rattle.squeezed.proofs.Numbers.{up_less, up_mono, in_range_lem, passes}

-- ---- terms

weaken : (u v : ℕ) (ts : List Term) → u ≤ v → rising_above v ts ≡ true → rising_above u ts ≡ true
unfolding rising_above
weaken u v [] l h = refl
weaken u v (t ∷ ts) l h =
    let a = ltb-true v t.variable (and_left _ _ h) in
    and_join _ _ (lt-ltb u t.variable (omega arith)) (and_right _ _ h)

module _ (p : Plan) where
  abbrev new : ℕ
  new = length (unlocked p)

  abbrev n : ℕ
  n = p.variables

  -- What becomes of a variable's term, by its lock.
  record Left (x : ℕ) : Type 0 where
    higher : (v : ℕ) → v < x → new_number p v < new_number p x
    within : new_number p x ≤ new

  left : (x : ℕ) → x ≤ n → is_locked p x ≡ false → Left x
  unfolding new_number unlocked count
  left x u e = record { higher = λ v l. up_less (is_unlocked p) v x l (passes p x e); within = up_mono (is_unlocked p) x n u }

  number_rises : (v x : ℕ) → v ≤ x → new_number p v ≤ new_number p x
  unfolding new_number
  number_rises v x h = up_mono (is_unlocked p) v x h

  one_rises : (v x : ℕ) (w : ℤ) (ts : List Term) (k : Bound Bool) → lock_of p x ≡ k → v < x → x ≤ n → rising_above (new_number p x) ts ≡ true
      → rising_above (new_number p v) (stays (becomes p x) w ts) ≡ true
  unfolding becomes under_lock stays rising_above is_locked is_present
  one_rises v x w ts absent e l u h =
      rw (in_range_lem p x (omega arith) u, e) (and_join _ _ (lt-ltb _ _ ((left x u (rw e)).higher v l)) h)
  one_rises v x w ts (present b) e l u h =
      rw (in_range_lem p x (omega arith) u, e) (weaken (new_number p v) (new_number p x) ts (number_rises v x (omega arith)) h)

  terms_rise : (v : ℕ) (ts : List Term) → rising_above v ts ≡ true → all (term_within n) ts ≡ true → rising_above (new_number p v) (terms_left (becomes p) ts) ≡ true
  unfolding rising_above all term_within terms_left
  terms_rise v [] r h = refl
  terms_rise v (t ∷ ts) r h =
      let l = ltb-true v t.variable (and_left _ _ r) in
      let u = leb-true t.variable n (and_left _ _ (and_left _ _ h)) in
      one_rises v t.variable t.weight (terms_left (becomes p) ts) (lock_of p t.variable) refl l u
      (terms_rise t.variable ts (and_right _ _ r) (and_right _ _ h))

  one_within : (x : ℕ) (w : ℤ) (ts : List Term) (k : Bound Bool) → lock_of p x ≡ k → 1 ≤ x → x ≤ n → weight_lawful w ≡ true → all (term_within new) ts ≡ true
      → all (term_within new) (stays (becomes p x) w ts) ≡ true
  unfolding becomes under_lock stays all term_within is_locked is_present
  one_within x w ts absent e l u g h = rw (in_range_lem p x l u, e) (and_join _ _ (and_join _ _ (le-leb _ _ (left x u (rw e)).within) g) h)
  one_within x w ts (present b) e l u g h = rw (in_range_lem p x l u, e) h

  terms_within : (v : ℕ) (ts : List Term) → rising_above v ts ≡ true → all (term_within n) ts ≡ true → all (term_within new) (terms_left (becomes p) ts) ≡ true
  unfolding rising_above all term_within terms_left
  terms_within v [] r h = refl
  terms_within v (t ∷ ts) r h =
      let l = ltb-true v t.variable (and_left _ _ r) in
      let u = leb-true t.variable n (and_left _ _ (and_left _ _ h)) in
      one_within t.variable t.weight (terms_left (becomes p) ts) (lock_of p t.variable) refl (omega arith) u (and_right _ _ (and_left _ _ h))
      (terms_within t.variable ts (and_right _ _ r) (and_right _ _ h))

  nothing_below : new_number p 0 ≡ 0
  unfolding new_number row count keep
  nothing_below = refl

  pub terms_lawful_lem : (ts : List Term) → LawfulTerms n ts → LawfulTerms new (terms_left (becomes p) ts)
  unfolding rising
  terms_lawful_lem ts l =
      record {
        rise = rw nothing_below at (terms_rise 0 ts l.rise l.within);
        within = terms_within 0 ts l.rise l.within;
      }

-- ---- how large the least and the greatest sum are

-- A part is no larger than the weight.
pub negative_size : (w : ℤ) → nat_abs (negative_part w) ≤ nat_abs w
unfolding negative_part
negative_size (pos n) = zero-le
negative_size (negsuc n) = le_refl (suc n)

pub positive_size : (w : ℤ) → nat_abs (positive_part w) ≤ nat_abs w
unfolding positive_part
positive_size (pos n) = le_refl n
positive_size (negsuc n) = zero-le

module _ (n : ℕ) where
  pub least_size : (ts : List Term) → all (term_within n) ts ≡ true → nat_abs (least_total ts) ≤ 1_000_000 * length ts
  unfolding all term_within least_total
  least_size [] h = zero-le
  least_size (t ∷ ts) h =
      let w = weight_small t.weight (and_right _ _ (and_left _ _ h)) in
      omega (arith, w, negative_size t.weight, least_size ts (and_right _ _ h), size_sum (negative_part t.weight) (least_total ts))

  pub greatest_size_lem : (ts : List Term) → all (term_within n) ts ≡ true → nat_abs (greatest_total ts) ≤ 1_000_000 * length ts
  unfolding all term_within greatest_total
  greatest_size_lem [] h = zero-le
  greatest_size_lem (t ∷ ts) h =
      let w = weight_small t.weight (and_right _ _ (and_left _ _ h)) in
      omega (arith, w, positive_size t.weight, greatest_size_lem ts (and_right _ _ h), size_sum (positive_part t.weight) (greatest_total ts))

-- ---- bounds

no_bool : true ≡ false → ⊥
no_bool e = true_T false (sym e)

-- A number above one and at most another is no larger than the larger of the two.
between : (b : ℕ) (l e g : ℤ) → le_z l g ≡ true → le_z l e ≡ false → nat_abs e ≤ b → nat_abs g ≤ b → nat_abs l ≤ b
between b (pos l) e (pos g) h k p q = omega (arith, leb-true l g h)
between b (pos l) e (negsuc g) h k p q = absurd (no_bool (sym h))
between b (negsuc l) (pos e) g h k p q = absurd (no_bool k)
between b (negsuc l) (negsuc e) g h k p q = omega (arith, leb-false e l k)

between_up : (b : ℕ) (u e g : ℤ) → le_z e u ≡ true → le_z g u ≡ false → nat_abs e ≤ b → nat_abs g ≤ b → nat_abs u ≤ b
between_up b (pos u) e (pos g) h k p q = omega (arith, leb-false g u k)
between_up b (pos u) e (negsuc g) h k p q = absurd (no_bool k)
between_up b (negsuc u) (pos e) g h k p q = absurd (no_bool (sym h))
between_up b (negsuc u) (negsuc e) g h k p q = omega (arith, leb-true u e h)

module _ (least most : ℤ) (small : nat_abs least ≤ 1_000_000_000) (small' : nat_abs most ≤ 1_000_000_000) where
  lower_lawful : (l : Bound ℤ) (t : Bool) → at_least l most ≡ true → at_least l least ≡ t → bound_lawful (cond t absent l) ≡ true
  unfolding at_least bound_lawful
  lower_lawful l true h k = refl
  lower_lawful absent false h k = refl
  lower_lawful (present l) false h k = le-leb _ _ (between 1_000_000_000 l least most h k small small')

  upper_lawful : (u : Bound ℤ) (t : Bool) → at_most u least ≡ true → at_most u most ≡ t → bound_lawful (cond t absent u) ≡ true
  unfolding at_most bound_lawful
  upper_lawful u true h k = refl
  upper_lawful absent false h k = refl
  upper_lawful (present u) false h k = le-leb _ _ (between_up 1_000_000_000 u least most h k small small')

  -- One bound is left of a rule that is not always met.
  one_left : (l u : Bound ℤ) (s t : Bool) → at_least l least ≡ s → at_most u most ≡ t → (s and t) ≡ false
      → (Limits.is_present (cond s absent l) or Limits.is_present (cond t absent u)) ≡ true
  unfolding ◌and◌ ◌or◌ Limits.is_present at_least at_most
  one_left l u true true e f h = absurd (no_bool h)
  one_left absent u false t e f h = absurd (no_bool e)
  one_left (present l) u false t e f h = refl
  one_left l absent true false e f h = absurd (no_bool f)
  one_left l (present u) true false e f h = refl

  both_lawful_lem : (l u : Bound ℤ) → (at_least l most and at_most u least) ≡ true → (at_least l least and at_most u most) ≡ false
      → both_lawful (cond (at_least l least) absent l) (cond (at_most u most) absent u) ≡ true
  unfolding both_lawful
  both_lawful_lem l u h k =
      and_join _ _ (and_join _ _ (one_left l u _ _ refl refl k) (lower_lawful l _ (and_left _ _ h) refl)) (upper_lawful u _ (and_right _ _ h) refl)

-- A rule that is possible and not always met has a term left.
some_term : (l u : Bound ℤ) (ts : List Term) → (at_least l (greatest_total ts) and at_most u (least_total ts)) ≡ true
    → (at_least l (least_total ts) and at_most u (greatest_total ts)) ≡ false → 0 < length ts
unfolding greatest_total least_total
some_term l u [] h k = absurd (no_bool (sym h ∙ k))
some_term l u (t ∷ ts) h k = omega arith

-- ---- nothing becomes more

or_false : (a b : Bool) → (a or b) ≡ false → (a ≡ false) × (b ≡ false)
unfolding ◌or◌
or_false true b h = absurd (no_bool h)
or_false false b h = (refl, h)

not_empty : {A : Type 0} (xs : List A) → is_empty xs ≡ false → 0 < length xs
unfolding is_empty
not_empty [] h = absurd (no_bool h)
not_empty (x ∷ xs) h = omega arith

module _ (f : ℕ → Becomes) where
  stays_few : (m : Becomes) (w : ℤ) (ts : List Term) → length (stays m w ts) ≤ suc (length ts)
  unfolding stays
  stays_few (locked v) w ts = omega arith
  stays_few (renumbered k) w ts = omega arith

  pub fewer_terms : (ts : List Term) → length (terms_left f ts) ≤ length ts
  unfolding terms_left
  fewer_terms [] = zero-le
  fewer_terms (t ∷ ts) = omega (arith, stays_few (f t.variable) t.weight (terms_left f ts), fewer_terms ts)

  kept_few : (t : Bool) (r : Rule) (rs : List Rule) → length (map trimmed (cond t (r ∷ rs) rs)) ≤ suc (length (map trimmed rs))
  kept_few true r rs = omega arith
  kept_few false r rs = omega arith

  kept_terms : (t : Bool) (r : Rule) (rs : List Rule) → sum_by terms_of (map trimmed (cond t (r ∷ rs) rs)) ≤ length r.terms + sum_by terms_of (map trimmed rs)
  unfolding sum_by trimmed
  kept_terms true r rs = omega arith
  kept_terms false r rs = omega arith

  pub fewer_rules : (c : Clause) → length (rules_left f c) ≤ length c
  unfolding rules_left keep
  fewer_rules [] = zero-le
  fewer_rules (r ∷ rs) = omega (arith, kept_few (possible (put_in f r)) (put_in f r) (keep possible (map (put_in f) rs)), fewer_rules rs)

  put_terms : (r : Rule) → length (put_in f r).terms ≤ length r.terms
  unfolding put_in
  put_terms r = fewer_terms r.terms

  pub rules_terms : (c : Clause) → sum_by terms_of (rules_left f c) ≤ sum_by terms_of c
  unfolding rules_left keep sum_by
  rules_terms [] = zero-le
  rules_terms (r ∷ rs) =
      omega (arith, kept_terms (possible (put_in f r)) (put_in f r) (keep possible (map (put_in f) rs)), put_terms r, rules_terms rs)

  -- What is left of clauses, with one more.
  record Fewer (cs ds : List Clause) : Type 0 where
    clauses : length ds ≤ length cs
    rules : length (concat ds) ≤ length (concat cs)
    terms : sum_by terms_of (concat ds) ≤ sum_by terms_of (concat cs)

  one_fewer : (t : Bool) (c : Clause) (cs rest : List Clause) → Fewer cs (map (rules_left f) rest) → Fewer (c ∷ cs) (map (rules_left f) (cond t (c ∷ rest) rest))
  unfolding concat
  one_fewer true c cs rest h =
      let ds = concat (map (rules_left f) rest) in
      record {
        clauses = omega (arith, h.clauses);
        rules = omega (arith, h.rules, fewer_rules c, length-append c (concat cs), length-append (rules_left f c) ds);
        terms = omega (arith, h.terms, rules_terms c, sum_by_append terms_of c (concat cs), sum_by_append terms_of (rules_left f c) ds);
      }
  one_fewer false c cs rest h =
      record {
        clauses = omega (arith, h.clauses);
        rules = omega (arith, h.rules, length-append c (concat cs));
        terms = omega (arith, h.terms, sum_by_append terms_of c (concat cs));
      }

  fewer : (cs : List Clause) → Fewer cs (clauses_left f cs)
  unfolding clauses_left keep concat sum_by
  fewer [] = record { clauses = zero-le; rules = zero-le; terms = zero-le }
  fewer (c ∷ cs) = one_fewer (remains f c) c cs (keep (remains f) cs) (fewer cs)

-- ---- rules and clauses

module _ (p : Plan) (high : p.variables ≤ 512) where
  abbrev f : ℕ → Becomes
  f = becomes p

  pub few_unlocked : length (unlocked p) ≤ p.variables
  unfolding unlocked count
  few_unlocked = omega (arith, count_le (is_unlocked p) (row 1 p.variables), length_row 1 p.variables)

  pub rule_lawful_lem : (r : Rule) → LawfulRule p.variables r → possible (put_in f r) ≡ true → always (put_in f r) ≡ false
      → LawfulRule (length (unlocked p)) (trimmed (put_in f r))
  unfolding possible always trimmed put_in rising
  rule_lawful_lem r l h k =
      let ts = terms_left f r.terms in
      let g = terms_lawful_lem p r.terms l.terms in
      let few = terms_short (length (unlocked p)) 0 ts g.rise g.within zero-le in
      let a : nat_abs (least_total ts) ≤ 1_000_000_000 = omega (arith, few_unlocked, least_size (length (unlocked p)) ts g.within) in
      let b : nat_abs (greatest_total ts) ≤ 1_000_000_000 = omega (arith, few_unlocked, greatest_size_lem (length (unlocked p)) ts g.within) in
      record {
        both = both_lawful_lem (least_total ts) (greatest_total ts) a b _ _ h k;
        some = some_term _ _ ts h k;
        terms = g;
      }

  kept_lawful : (t : Bool) (r : Rule) (rs : List Rule) → possible (put_in f r) ≡ t → LawfulRule p.variables r → always (put_in f r) ≡ false
      → all (rule_lawful (length (unlocked p))) (map trimmed rs) ≡ true → all (rule_lawful (length (unlocked p))) (map trimmed (cond t (put_in f r ∷ rs) rs)) ≡ true
  unfolding all
  kept_lawful true r rs e l k h = and_join _ _ (rule_whole _ _ (rule_lawful_lem r l e k)) h
  kept_lawful false r rs e l k h = h

  rules_lawful : (c : Clause) → all (rule_lawful p.variables) c ≡ true → any always (map (put_in f) c) ≡ false
      → all (rule_lawful (length (unlocked p))) (rules_left f c) ≡ true
  unfolding all any rules_left keep
  rules_lawful [] h k = refl
  rules_lawful (r ∷ rs) h k =
      let (first, rest) = or_false _ _ k in
      kept_lawful _ r (keep possible (map (put_in f) rs)) refl (rule_parts _ r (and_left _ _ h)) first (rules_lawful rs (and_right _ _ h) rest)

  clause_kept : (t : Bool) (c : Clause) (cs : List Clause) → any always (map (put_in f) c) ≡ t → clause_lawful p.variables c ≡ true
      → any is_empty (map (rules_left f) (cond (not t) (c ∷ cs) cs)) ≡ false
      → (any is_empty (map (rules_left f) cs) ≡ false → all (clause_lawful (length (unlocked p))) (map (rules_left f) cs) ≡ true)
      → all (clause_lawful (length (unlocked p))) (map (rules_left f) (cond (not t) (c ∷ cs) cs)) ≡ true
  unfolding all any
  clause_kept true c cs e l h rest = rest h
  clause_kept false c cs e l h rest =
      let (first, none) = or_false _ _ h in
      and_join _ _ (clause_whole _ (rules_left f c) (not_empty (rules_left f c) first) (rules_lawful c (clause_rules _ c l) e)) (rest none)

  clauses_lawful : (cs : List Clause) → all (clause_lawful p.variables) cs ≡ true → any is_empty (clauses_left f cs) ≡ false
      → all (clause_lawful (length (unlocked p))) (clauses_left f cs) ≡ true
  unfolding clauses_left keep all remains
  clauses_lawful [] h k = refl
  clauses_lawful (c ∷ cs) h k = clause_kept _ c (keep (remains f) cs) refl (and_left _ _ h) k (clauses_lawful cs (and_right _ _ h))

pub squeezed_lawful : Lawful
unfolding squeezed all_locked clause_lost rules_of term_count rising rising_above all
squeezed_lawful p t some none =
    let l = plan_parts p t in
    let less = fewer (becomes p) p.clauses in
    plan_whole (squeezed p)
    (record {
      low = not_empty (unlocked p) some;
      high = omega (arith, few_unlocked p l.high, l.high);
      objective = terms_lawful_lem p p.objective l.objective;
      locks = record { rise = refl; within = refl };
      clauses = clauses_lawful p l.high p.clauses l.clauses none;
      clause_count = omega (arith, less.clauses, l.clause_count);
      rule_count = omega (arith, less.rules, l.rule_count);
      terms = omega (arith, less.terms, l.terms);
    })
