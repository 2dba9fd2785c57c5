-- Costs and bounds: a cost is the sum of the negative coefficients and a natural number, its gap; l(O) is a floor of what obeys the locks; each bound of the
-- tightening is a smaller gap.
use Prim.Native.Nat.{ℕ, zero, suc, ◌+◌, ◌*◌, ◌-◌, ◌/◌, ◌≤◌, ◌<◌, zero-le}
use mathlib.Core.Bool.{Bool, true, false, cond}
use mathlib.Core.List.{List, [], ◌∷◌}
use mathlib.Core.Logic.{◌≢◌}
use mathlib.Core.Path.{◌≡◌, refl, sym, ◌∙◌, ap, ap₂, subst}
use native.Mathlib.Omega.{arith}
use borrow.Author.Tests.{ltb-true, ltb-false, lt-ltb, le-ltb}
use lib.Dec.{T, ltb, ltb→lt, le→leb, lt→ltb}
use lib.IntN.{ℤ, pos, negsuc, nat_abs, pred_ℤ, sub_ℕ, suc-pred, ◌+ℤ◌, ◌-ℤ◌, ◌*ℤ◌, suc_ℤ-*ℤ, zero-*ℤ, -ℤ_one, +ℤ_idl, +ℤ_idr, +ℤ_assoc, +ℤ_comm}
use lib.Signed.{le_z, lt_z}
use Rattle.plpb.specs.Lists.{◌and◌, ◌or◌, any, all}
use Rattle.plpb.specs.Plan.{Bound, absent, present, Term, Plan, Assignment, value, is_variable, lock_of, agrees, obeys, total, at_least, at_most, rule_holds, clause_holds, satisfies, cost, negative_part, least_total, positive_part, greatest_total, least_of, least_cost, floor_cost}
use Rattle.plpb.specs.Settings.{Mode, linear, lbs}
use Rattle.plpb.specs.Search.{tightened, third, lbs_bound, linear_bound, bound_in, at_floor, gap}
use Rattle.plpb.proofs.Integers.{lt_z_suc, lt_z_shift, le_z_difference, le_z_refl, le_z_antisym, le_z_add, le_z_lt_z_trans}
use Rattle.plpb.proofs.Locks.{obeyed}
use Rattle.plpb.proofs.Lists.{T_true, false_T, is_true, and_left, and_right, and_both, and_true, or_false, all_append}

-- No assignment costs less than the sum of the negative coefficients: each term gives its weight or nothing.
negative_part_lem : (b : Bool) (w : ℤ) → T (le_z (negative_part w) (cond b w (pos 0)))
unfolding negative_part
negative_part_lem true (pos n) = le→leb 0 n zero-le
negative_part_lem true (negsuc n) = le_z_refl (negsuc n)
negative_part_lem false (pos n) = tt
negative_part_lem false (negsuc n) = tt

pub least_total_lem : (a : Assignment) (ts : List Term) → T (le_z (least_total ts) (total a ts))
unfolding total least_total
least_total_lem a [] = tt
least_total_lem a (t ∷ ts) =
    le_z_add (negative_part t.weight) (cond (value a t.variable) t.weight (pos 0)) (least_total ts) (total a ts)
    (negative_part_lem (value a t.variable) t.weight) (least_total_lem a ts)

-- .. and none more than that of the positive ones.
positive_part_lem : (b : Bool) (w : ℤ) → T (le_z (cond b w (pos 0)) (positive_part w))
unfolding positive_part
positive_part_lem true (pos n) = le_z_refl (pos n)
positive_part_lem true (negsuc n) = tt
positive_part_lem false (pos n) = le→leb 0 n zero-le
positive_part_lem false (negsuc n) = tt

pub greatest_total_lem : (a : Assignment) (ts : List Term) → T (le_z (total a ts) (greatest_total ts))
unfolding total greatest_total
greatest_total_lem a [] = tt
greatest_total_lem a (t ∷ ts) =
    le_z_add (cond (value a t.variable) t.weight (pos 0)) (positive_part t.weight) (total a ts) (greatest_total ts)
    (positive_part_lem (value a t.variable) t.weight) (greatest_total_lem a ts)

-- What a coefficient counts in l(O) is at least its negative part, and at most what a value that agrees with the lock gives.
least_part : (k : Bound Bool) (w : ℤ) → T (le_z (negative_part w) (least_of k w))
unfolding least_of
least_part absent w = le_z_refl (negative_part w)
least_part (present v) w = negative_part_lem v w

agreed_part : (k : Bound Bool) (b : Bool) (w : ℤ) → T (agrees k b) → T (le_z (least_of k w) (cond b w (pos 0)))
unfolding least_of agrees
agreed_part absent b w h = negative_part_lem b w
agreed_part (present true) true w h = le_z_refl w
agreed_part (present true) false w h = absurd h
agreed_part (present false) true w h = absurd h
agreed_part (present false) false w h = tt

plain_below : (p : Plan) (ts : List Term) → T (le_z (least_total ts) (least_cost p ts))
unfolding least_total least_cost
plain_below p [] = tt
plain_below p (t ∷ ts) =
    le_z_add (negative_part t.weight) (least_of (lock_of p t.variable) t.weight) (least_total ts) (least_cost p ts)
    (least_part (lock_of p t.variable) t.weight) (plain_below p ts)

least_below : (p : Plan) (a : Assignment) (ts : List Term) → T (obeys a p) → T (le_z (least_cost p ts) (total a ts))
unfolding total least_cost
least_below p a [] h = tt
least_below p a (t ∷ ts) h =
    le_z_add (least_of (lock_of p t.variable) t.weight) (cond (value a t.variable) t.weight (pos 0)) (least_cost p ts) (total a ts)
    (agreed_part (lock_of p t.variable) (value a t.variable) t.weight (obeyed p a t.variable h)) (least_below p a ts h)

-- l(O) is a true floor: no assignment that obeys the locks costs less.
pub floor_below : (p : Plan) (a : Assignment) → T (obeys a p) → T (le_z (floor_cost p) (cost p a))
unfolding floor_cost cost
floor_below p a h = least_below p a p.objective h

-- A cost is the sum of the negative coefficients and its gap.
pub gap_cost : (p : Plan) (a : Assignment) → least_total p.objective +ℤ pos (gap p a) ≡ cost p a
unfolding gap cost
gap_cost p a = le_z_difference (least_total p.objective) (total a p.objective) (least_total_lem a p.objective)

pub gap_zero : (p : Plan) (a : Assignment) → T (obeys a p) → gap p a ≡ 0 → cost p a ≡ floor_cost p
unfolding floor_cost
gap_zero p a h e =
    let least : cost p a ≡ least_total p.objective =
    sym (gap_cost p a) ∙ ap (λ n. least_total p.objective +ℤ pos n) e ∙ +ℤ_idr (least_total p.objective) in
    le_z_antisym (cost p a) (floor_cost p) (subst (λ v. T (le_z v (floor_cost p))) (sym least) (plain_below p p.objective)) (floor_below p a h)

pub at_floor_lem : (p : Plan) (a : Assignment) → at_floor p a ≡ true → cost p a ≡ floor_cost p
unfolding at_floor
at_floor_lem p a e = le_z_antisym (cost p a) (floor_cost p) (and_left _ _ (T_true e)) (and_right _ _ (T_true e))

pub floor_at : (p : Plan) (a : Assignment) → cost p a ≡ floor_cost p → at_floor p a ≡ true
unfolding at_floor ◌and◌
floor_at p a e = rw (e, is_true (le_z (floor_cost p) (floor_cost p)) (le_z_refl (floor_cost p))) refl

pub above_floor : (p : Plan) (a : Assignment) → T (obeys a p) → at_floor p a ≡ false → floor_cost p ≢ cost p a
unfolding at_floor
above_floor p a h e c = false_T e (and_both _ _ (rw c (le_z_refl (cost p a))) (floor_below p a h))

-- A smaller cost is a smaller gap.
pub gap_falls : (p : Plan) (a b : Assignment) → T (lt_z (cost p b) (cost p a)) → gap p b < gap p a
gap_falls p a b h =
    let e : lt_z (cost p b) (cost p a) ≡ ltb (gap p b) (gap p a) =
    ap₂ lt_z (sym (gap_cost p b)) (sym (gap_cost p a)) ∙ lt_z_shift (least_total p.objective) (pos (gap p b)) (pos (gap p a)) in
    ltb→lt (gap p b) (gap p a) (subst T e h)

pub bound_falls : (p : Plan) (m : ℤ) (a b : Assignment) → T (le_z (cost p b) m) → T (lt_z m (cost p a)) → gap p b < gap p a
bound_falls p m a b h k = gap_falls p a b (le_z_lt_z_trans (cost p b) m (cost p a) h k)

-- "O ≤ v − 1" is below v.
pub linear_less : (v : ℤ) → T (lt_z (linear_bound v) v)
unfolding linear_bound
linear_less v = rw (-ℤ_one v, lt_z_suc (pred_ℤ v) v, suc-pred v) (le_z_refl v)

-- "m = (l(O) + 2v)/3, rounded down, below zero as well": with v = l(O) + g it is l(O) + ⌊2g/3⌋.
third_difference : (k n : ℕ) (b : Bool) → ltb k (3 * n + 3) ≡ b → third (sub_ℕ k (3 * n + 3)) ≡ sub_ℕ (k / 3) (suc n)
unfolding third
third_difference k n true e =
    let h = ltb-true k (3 * n + 3) e in
    rw (e, lt-ltb (k / 3) (suc n) (omega arith)) (ap negsuc (omega arith))
third_difference k n false e =
    let h = ltb-false k (3 * n + 3) e in
    rw (e, le-ltb (k / 3) (suc n) (omega arith)) (ap pos (omega arith))

third_shift : (l : ℤ) (k : ℕ) → third (l +ℤ (l +ℤ l) +ℤ pos k) ≡ l +ℤ pos (k / 3)
unfolding third
third_shift (pos n) k = ap pos (omega arith)
third_shift (negsuc n) k =
    let e : suc (suc (n + suc (n + n))) ≡ 3 * n + 3 = omega arith in
    ap (λ m. third (sub_ℕ k m)) e ∙ third_difference k n (ltb k (3 * n + 3)) refl

twice : (v : ℤ) → pos 2 *ℤ v ≡ v +ℤ v
twice v = suc_ℤ-*ℤ (pos 1) v ∙ ap (λ z. z +ℤ v) (suc_ℤ-*ℤ (pos 0) v ∙ ap (λ z. z +ℤ v) (zero-*ℤ v) ∙ +ℤ_idl v)

left_comm : (a b c : ℤ) → a +ℤ (b +ℤ c) ≡ b +ℤ (a +ℤ c)
left_comm a b c = sym (+ℤ_assoc a b c) ∙ ap (λ z. z +ℤ c) (+ℤ_comm a b) ∙ +ℤ_assoc b a c

regroup : (a b : ℤ) → a +ℤ (a +ℤ b +ℤ (a +ℤ b)) ≡ a +ℤ (a +ℤ a) +ℤ (b +ℤ b)
regroup a b = simp (+ℤ_assoc, left_comm b a b)

pub lbs_gap : (l : ℤ) (g : ℕ) → lbs_bound l (l +ℤ pos g) ≡ l +ℤ pos (2 * g / 3)
unfolding lbs_bound
lbs_gap l g =
    let e : g + g ≡ 2 * g = omega arith in
    ap (λ z. third (l +ℤ z)) (twice (l +ℤ pos g)) ∙ ap third (regroup l (pos g)) ∙ third_shift l (g + g) ∙ ap (λ k. l +ℤ pos (k / 3)) e

pub lbs_less : (l v : ℤ) → T (le_z l v) → l ≢ v → T (lt_z (lbs_bound l v) v)
lbs_less l v h d =
    let g = nat_abs (v -ℤ l) in
    let e : l +ℤ pos g ≡ v = le_z_difference l v h in
    let z : g ≢ 0 = λ n. d (sym (+ℤ_idr l) ∙ ap (λ k. l +ℤ pos k) (sym n) ∙ e) in
    subst (λ w. T (lt_z (lbs_bound l w) w)) e
    (rw (lbs_gap l g, lt_z_shift l (pos (2 * g / 3)) (pos g)) (lt→ltb (2 * g / 3) g (omega arith)))

-- Above l(O), each mode's bound lies below the cost.
pub bound_less : (p : Plan) (a : Assignment) (mode : Mode) → T (obeys a p) → at_floor p a ≡ false → T (lt_z (bound_in mode (floor_cost p) (cost p a)) (cost p a))
unfolding bound_in
bound_less p a linear h e = linear_less (cost p a)
bound_less p a lbs h e = lbs_less (floor_cost p) (cost p a) (floor_below p a h) (above_floor p a h e)

-- A third rounds down: 3·⌊z/3⌋ ≤ z < 3·⌊z/3⌋ + 3.
pub third_below : (z : ℤ) → T (le_z (pos 3 *ℤ third z) z)
unfolding third
third_below (pos n) = le→leb (3 * (n / 3)) n (omega arith)
third_below (negsuc n) =
    let e : 3 * suc (n / 3) ≡ suc (3 * (n / 3) + 2) = omega arith in
    rw e (le→leb n (3 * (n / 3) + 2) (omega arith))

step_up : (n q : ℕ) → 3 * q ≤ n → T (lt_z (negsuc n) (negsuc (3 * q + 2) +ℤ pos 3))
step_up n zero h = tt
step_up n (suc q) h =
    rw (lt-ltb 3 (suc (3 * suc q + 2)) (omega arith)) (lt→ltb (suc (3 * suc q + 2) - 4) n (omega arith))

pub third_above : (z : ℤ) → T (lt_z z (pos 3 *ℤ third z +ℤ pos 3))
unfolding third
third_above (pos n) = lt→ltb n (3 * (n / 3) + 3) (omega arith)
third_above (negsuc n) =
    let e : 3 * suc (n / 3) ≡ suc (3 * (n / 3) + 2) = omega arith in
    rw e (step_up n (n / 3) (omega arith))

-- The added clause is met by the assignments of cost at most m.
pub satisfies_tightened : (p : Plan) (m : ℤ) (a : Assignment) → satisfies a (tightened p m) ≡ satisfies a p and le_z (cost p a) m
unfolding tightened satisfies clause_holds rule_holds at_least at_most cost all any ◌and◌
satisfies_tightened p m a =
    all_append (clause_holds a) p.clauses _
    ∙ ap (λ b. satisfies a p and b) (and_true (le_z (cost p a) m or false) ∙ or_false (le_z (cost p a) m))

pub tightened_obeys : (p : Plan) (m : ℤ) (a : Assignment) → obeys a (tightened p m) ≡ obeys a p
unfolding tightened obeys lock_of is_variable
tightened_obeys p m a = refl

-- So what a call finds under a bound below the last cost is a plan, and costs less than the last.
pub tightened_find : (p : Plan) (m v : ℤ) (b : Assignment) → T (lt_z m v) → T (satisfies b (tightened p m)) → T (satisfies b p) × T (lt_z (cost p b) v)
tightened_find p m v b h t =
    let u : T (satisfies b p and le_z (cost p b) m) = rw (satisfies_tightened p m b) at t in
    (and_left (satisfies b p) (le_z (cost p b) m) u, le_z_lt_z_trans (cost p b) m v (and_right (satisfies b p) (le_z (cost p b) m) u) h)
