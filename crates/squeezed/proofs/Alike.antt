-- "Unlocked assignments satisfy new and old plan alike, at costs that differ by the constant." A sum over old variables is what the locked ones
-- give and the sum over the new ones; each step of the squeeze keeps which rules, clauses and plans hold.
-- Assumes nothing.
use Prim.Native.Nat.{ℕ, zero, suc, ◌+◌, ◌≤◌, ◌<◌}
use native.Mathlib.Nat.{not-suc-le-zero}
use native.Mathlib.Omega.{arith}
use mathlib.Core.Path.{◌≡◌, refl, sym, ap, ap₂, ◌∙◌, subst}
use mathlib.Core.Bool.{Bool, true, false, not, cond}
use mathlib.Core.List.{List, [], ◌∷◌, map}
use lib.Dec.{T, ltb}
use lib.IntN.{ℤ, pos, ◌+ℤ◌, ◌-ℤ◌, +ℤ_idl, +ℤ_assoc, +ℤ_comm, -ℤ-+ℤ_cancel}
use lib.ListN.{get_or}
use lib.Signed.{le_z}
use borrow.Author.Tests.{lt-ltb, le-ltb, ltb-true, ltb-false}
use Rattle.plpb.specs.Lists.{◌and◌, ◌or◌, keep, any, all, row}
use Rattle.plpb.specs.Plan.{Bound, absent, present, map_bound, Term, Rule, Clause, Plan, Assignment, value, is_variable, total, at_least, at_most, rule_holds, clause_holds, satisfies, cost, least_total}
use Rattle.plpb.proofs.Lists.{is_true, T_true, false_T, and_left, and_right, and_both, or_left, or_right}
use Rattle.plpb.proofs.Integers.{le_z_shift, le_z_trans}
use Rattle.plpb.proofs.Costs.{least_total_lem, greatest_total_lem}
use Rattle.squeezed.specs.Squeezed.{Becomes, locked, renumbered, becomes, given, given_total, stays, terms_left, put_in, greatest_total, possible, always, trimmed, rules_left, remains, clauses_left, squeezed, constant}
use Rattle.squeezed.specs.Claims.{value_of, extended, Alike}

-- ---- values

-- What stands at a place of an assignment that is worked out variable by variable.
pub map_row_at : {A : Type 0} (f : ℕ → A) (i k j : ℕ) (d : A) → j < k → get_or (map f (row i k)) j d ≡ f (i + j)
unfolding row
map_row_at f i zero j d h = absurd (not-suc-le-zero h)
map_row_at f i (suc k) zero d h = ap f (omega arith)
map_row_at f i (suc k) (suc j) d h = map_row_at f (suc i) k j d (omega arith) ∙ ap f (omega arith)

past_row : {A : Type 0} (f : ℕ → A) (i k j : ℕ) (d : A) → k ≤ j → get_or (map f (row i k)) j d ≡ d
unfolding row
past_row f i zero j d h = refl
past_row f i (suc k) zero d h = absurd (not-suc-le-zero h)
past_row f i (suc k) (suc j) d h = past_row f (suc i) k j d (omega arith)

-- A number outside 1 to n.
pub outside : (p : Plan) (i : ℕ) → p.variables ≤ i → becomes p (suc i) ≡ renumbered 0
unfolding becomes is_variable ◌and◌
outside p i h = rw (lt-ltb 0 (suc i) (omega arith), le-ltb (suc i) (suc p.variables) (omega arith))

pub value_extended : (p : Plan) (b : Assignment) (x : ℕ) → value (extended p b) x ≡ value_of (becomes p x) b
unfolding value extended value_of becomes is_variable ◌and◌
value_extended p b zero = refl
value_extended p b (suc i) = either (ltb i p.variables) refl
  where
    either : (t : Bool) → ltb i p.variables ≡ t → get_or (map (λ x. value_of (becomes p x) b) (row 1 p.variables)) i false ≡ value_of (becomes p (suc i)) b
    either true e = map_row_at (λ x. value_of (becomes p x) b) 1 p.variables i false (ltb-true _ _ e)
        ∙ (let n : 1 + i ≡ suc i = omega arith in ap (λ x. value_of (becomes p x) b) n)
    either false e = past_row (λ x. value_of (becomes p x) b) 1 p.variables i false (ltb-false _ _ e) ∙ sym (ap (λ y. value_of y b) (outside p i (ltb-false _ _ e)))

-- ---- sums

around : (g w t : ℤ) → w +ℤ (g +ℤ t) ≡ (pos 0 +ℤ g) +ℤ (w +ℤ t)
around g w t =
    sym (+ℤ_assoc w g t) ∙ ap (λ z. z +ℤ t) (+ℤ_comm w g) ∙ +ℤ_assoc g w t ∙ ap (λ z. z +ℤ (w +ℤ t)) (sym (+ℤ_idl g))

-- Two assignments of which one gives each old variable what becomes of it under the other.
module _ (f : ℕ → Becomes) (a b : Assignment) (same : (x : ℕ) → value a x ≡ value_of (f x) b) where
  one_term :
      (m : Becomes) (w g : ℤ) (ts : List Term)
      → cond (value_of m b) w (pos 0) +ℤ (g +ℤ total b ts) ≡ (given m w +ℤ g) +ℤ total b (stays m w ts)
  unfolding value_of given stays total
  one_term (locked v) w g ts = sym (+ℤ_assoc (cond v w (pos 0)) g (total b ts))
  one_term (renumbered k) w g ts = around g (cond (value b k) w (pos 0)) (total b ts)

  pub total_left : (ts : List Term) → total a ts ≡ given_total f ts +ℤ total b (terms_left f ts)
  unfolding total given_total terms_left
  total_left [] = refl
  total_left (t ∷ ts) =
      ap₂ (λ v s. cond v t.weight (pos 0) +ℤ s) (same t.variable) (total_left ts)
      ∙ one_term (f t.variable) t.weight (given_total f ts) (terms_left f ts)

-- A bound less g against a sum is the bound against g and the sum.
less : (l g : ℤ) → g +ℤ (l -ℤ g) ≡ l
less l g = +ℤ_comm g (l -ℤ g) ∙ -ℤ-+ℤ_cancel l g

lower_less : (l : Bound ℤ) (g s : ℤ) → at_least l (g +ℤ s) ≡ at_least (map_bound (λ l. l -ℤ g) l) s
unfolding at_least map_bound
lower_less absent g s = refl
lower_less (present l) g s = ap (λ z. le_z z (g +ℤ s)) (sym (less l g)) ∙ le_z_shift g (l -ℤ g) s

upper_less : (u : Bound ℤ) (g s : ℤ) → at_most u (g +ℤ s) ≡ at_most (map_bound (λ u. u -ℤ g) u) s
unfolding at_most map_bound
upper_less absent g s = refl
upper_less (present u) g s = ap (le_z (g +ℤ s)) (sym (less u g)) ∙ le_z_shift g s (u -ℤ g)

-- ---- bounds

-- A lower bound that a sum meets is met by every greater one; an upper bound by every smaller one.
pub higher : (l : Bound ℤ) (s t : ℤ) → T (le_z s t) → T (at_least l s) → T (at_least l t)
unfolding at_least
higher absent s t h k = tt
higher (present l) s t h k = le_z_trans l s t k h

pub lower : (u : Bound ℤ) (s t : ℤ) → T (le_z s t) → T (at_most u t) → T (at_most u s)
unfolding at_most
lower absent s t h k = tt
lower (present u) s t h k = le_z_trans s t u h k

-- ---- rules

module _ (b : Assignment) (r : Rule) where
  abbrev least : ℤ
  least = least_total r.terms

  abbrev most : ℤ
  most = greatest_total r.terms

  abbrev sum : ℤ
  sum = total b r.terms

  lower_kept : (t : Bool) → at_least r.lower least ≡ t → at_least (cond t absent r.lower) sum ≡ at_least r.lower sum
  unfolding at_least
  lower_kept true e = sym (is_true _ (higher r.lower least sum (least_total_lem b r.terms) (T_true e)))
  lower_kept false e = refl

  upper_kept : (t : Bool) → at_most r.upper most ≡ t → at_most (cond t absent r.upper) sum ≡ at_most r.upper sum
  unfolding at_most
  upper_kept true e = sym (is_true _ (lower r.upper sum most (greatest_total_lem b r.terms) (T_true e)))
  upper_kept false e = refl

  -- A dropped bound changes nothing.
  pub trimmed_holds : rule_holds b (trimmed r) ≡ rule_holds b r
  unfolding rule_holds trimmed
  trimmed_holds = ap₂ ◌and◌ (lower_kept _ refl) (upper_kept _ refl)

  -- A rule that holds is possible, and one that is always met holds.
  pub holds_possible : T (rule_holds b r) → T (possible r)
  unfolding rule_holds possible
  holds_possible h =
      and_both _ _ (higher r.lower sum most (greatest_total_lem b r.terms) (and_left _ _ h))
      (lower r.upper least sum (least_total_lem b r.terms) (and_right _ _ h))

  pub always_holds : T (always r) → T (rule_holds b r)
  unfolding rule_holds always
  always_holds h =
      and_both _ _ (higher r.lower least sum (least_total_lem b r.terms) (and_left _ _ h))
      (lower r.upper sum most (greatest_total_lem b r.terms) (and_right _ _ h))

-- A rule that is always met is possible: any assignment shows it.
pub always_possible : (r : Rule) → T (always r) → T (possible r)
always_possible r h = holds_possible [] r (always_holds [] r h)

-- ---- clauses and plans

module _ (f : ℕ → Becomes) (a b : Assignment) (same : (x : ℕ) → value a x ≡ value_of (f x) b) where
  put_holds : (r : Rule) → rule_holds a r ≡ rule_holds b (put_in f r)
  unfolding rule_holds put_in
  put_holds r =
      let g = given_total f r.terms in
      let s = total b (terms_left f r.terms) in
      let e = total_left f a b same r.terms in
      ap₂ ◌and◌ (ap (at_least r.lower) e ∙ lower_less r.lower g s) (ap (at_most r.upper) e ∙ upper_less r.upper g s)

  left_holds : (t : Bool) (r : Rule) (rs : List Rule) → possible r ≡ t → rule_holds b r or any (rule_holds b) (map trimmed rs) ≡ any (rule_holds b) (map trimmed (cond t (r ∷ rs) rs))
  unfolding any ◌or◌
  left_holds true r rs e = ap (λ t. t or any (rule_holds b) (map trimmed rs)) (sym (trimmed_holds b r))
  left_holds false r rs e = ap (λ t. t or any (rule_holds b) (map trimmed rs)) (none (rule_holds b r) refl)
    where
      none : (t : Bool) → rule_holds b r ≡ t → rule_holds b r ≡ false
      none false h = h
      none true h = absurd (false_T e (holds_possible b r (T_true h)))

  rules_hold : (c : Clause) → clause_holds a c ≡ clause_holds b (rules_left f c)
  unfolding clause_holds rules_left any keep
  rules_hold [] = refl
  rules_hold (r ∷ rs) = ap₂ ◌or◌ (put_holds r) (rules_hold rs) ∙ left_holds _ (put_in f r) (keep possible (map (put_in f) rs)) refl

  first_met_lem :
      (t u : Bool) (r : Rule) (rs : List Rule) → always (put_in f r) ≡ t → T (t or u) → (T u → T (any (rule_holds a) rs))
      → T (rule_holds a r or any (rule_holds a) rs)
  unfolding ◌or◌
  first_met_lem true u r rs e h rest = or_left (rule_holds a r) (any (rule_holds a) rs) (subst T (sym (put_holds r)) (always_holds b (put_in f r) (T_true e)))
  first_met_lem false u r rs e h rest = or_right (rule_holds a r) (any (rule_holds a) rs) (rest h)

  met_holds : (c : Clause) → T (any always (map (put_in f) c)) → T (clause_holds a c)
  unfolding clause_holds any
  met_holds [] h = h
  met_holds (r ∷ rs) h = first_met_lem _ _ r rs refl h (met_holds rs)

  one_clause : (t : Bool) (c : Clause) (cs : List Clause) → any always (map (put_in f) c) ≡ t
      → clause_holds a c and all (clause_holds b) (map (rules_left f) cs) ≡ all (clause_holds b) (map (rules_left f) (cond (not t) (c ∷ cs) cs))
  unfolding all ◌and◌
  one_clause true c cs e = ap (λ t. t and all (clause_holds b) (map (rules_left f) cs)) (is_true (clause_holds a c) (met_holds c (T_true e)))
  one_clause false c cs e = ap (λ t. t and all (clause_holds b) (map (rules_left f) cs)) (rules_hold c)

  pub clauses_hold : (cs : List Clause) → all (clause_holds a) cs ≡ all (clause_holds b) (clauses_left f cs)
  unfolding all clauses_left keep remains
  clauses_hold [] = refl
  clauses_hold (c ∷ cs) = ap (λ t. clause_holds a c and t) (clauses_hold cs) ∙ one_clause _ c (keep (remains f) cs) refl

pub alike : Alike
unfolding satisfies cost squeezed constant
alike p b =
    let same = value_extended p b in
    (clauses_hold (becomes p) (extended p b) b same p.clauses, total_left (becomes p) (extended p b) b same p.objective)
