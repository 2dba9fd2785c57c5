-- What locks do: a start that holds them obeys them, and a flip of a variable that is free goes on obeying them.
-- Assumes nothing.
use Prim.Native.Nat.{ℕ, zero, suc, ◌+◌, ◌-◌, ◌≤◌, ◌<◌}
use native.Mathlib.Nat.{not-suc-le-zero}
use native.Mathlib.Omega.{arith}
use mathlib.Core.Bool.{Bool, true, false, true≢false}
use mathlib.Core.List.{map}
use mathlib.Core.Logic.{◌≢◌}
use mathlib.Core.Path.{◌≡◌, refl, sym, ◌∙◌, ap, subst}
use borrow.Author.Tests.{ltb-true, eqb-true, eqb-false}
use lib.Dec.{T, eqb}
use lib.ListN.{length, get_or, length-map}
use Rattle.plpb.specs.Lists.{◌and◌, all, row}
use Rattle.plpb.specs.Plan.{Bound, absent, present, is_present, Plan, Assignment, value, flip, is_variable, lock_of, is_locked, under, hold, agrees, obeys}
use Rattle.plpb.proofs.Lists.{and_left, and_right, and_both, T_true, is_true, all_at, length_row, row_at}
use Rattle.plpb.proofs.Flip.{flip_other}

-- A test of each number in a row.
pub all_in_row : (q : ℕ → Bool) (i k : ℕ) → ((x : ℕ) → i ≤ x → x < i + k → T (q x)) → T (all q (row i k))
unfolding all row
all_in_row q i zero h = tt
all_in_row q i (suc k) h = and_both _ _ (h i (omega arith) (omega arith)) (all_in_row q (suc i) k (λ x l u. h x (omega arith) (omega arith)))

pub variable_range : (p : Plan) (x : ℕ) → is_variable p x ≡ true → (1 ≤ x) × (x ≤ p.variables)
unfolding is_variable
variable_range p x e =
    let t = T_true e in
    let l = ltb-true 0 x (is_true _ (and_left _ _ t)) in
    let u = ltb-true x (suc p.variables) (is_true _ (and_right _ _ t)) in
    (omega arith, omega arith)

-- Outside 1 to n nothing is locked.
pub no_variable : (p : Plan) (x : ℕ) → is_variable p x ≡ false → lock_of p x ≡ absent
unfolding lock_of
no_variable p x e = rw e

pub zero_free : (p : Plan) → is_locked p 0 ≡ false
unfolding is_locked lock_of is_variable ◌and◌ is_present
zero_free p = refl

-- A variable that is not locked has no value of a lock.
pub free : (p : Plan) (x : ℕ) → is_locked p x ≡ false → lock_of p x ≡ absent
unfolding is_locked is_present
free p x e = none (lock_of p x) e
  where
    none : (k : Bound Bool) → is_present k ≡ false → k ≡ absent
    none absent h = refl
    none (present v) h = absurd (true≢false h)

-- What stands at a place of an assignment that is worked out variable by variable.
map_row_at : {A : Type 0} (f : ℕ → A) (i k j : ℕ) (d : A) → j < k → get_or (map f (row i k)) j d ≡ f (i + j)
unfolding row
map_row_at f i zero j d h = absurd (not-suc-le-zero h)
map_row_at f i (suc k) zero d h = ap f (omega arith)
map_row_at f i (suc k) (suc j) d h = map_row_at f (suc i) k j d (omega arith) ∙ ap f (omega arith)

pub length_hold : (p : Plan) (a : Assignment) → length (hold p a) ≡ p.variables
unfolding hold
length_hold p a = length-map (row 1 p.variables) _ ∙ length_row 1 p.variables

-- "locked variables take their value", and the others keep theirs.
pub hold_at : (p : Plan) (a : Assignment) (x : ℕ) → 1 ≤ x → x ≤ p.variables → value (hold p a) x ≡ under (lock_of p x) (value a x)
unfolding hold value
hold_at p a zero l u = absurd (not-suc-le-zero l)
hold_at p a (suc i) l u =
    map_row_at (λ x. under (lock_of p x) (value a x)) 1 p.variables i false u ∙ ap (λ x. under (lock_of p x) (value a x)) (omega arith)

agrees_under : (k : Bound Bool) (b : Bool) → T (agrees k (under k b))
unfolding agrees under
agrees_under absent b = tt
agrees_under (present true) b = tt
agrees_under (present false) b = tt

pub hold_obeys : (p : Plan) (a : Assignment) → T (obeys (hold p a) p)
unfolding obeys
hold_obeys p a =
    all_in_row _ 1 p.variables (λ x l u. subst (λ b. T (agrees (lock_of p x) b)) (sym (hold_at p a x l (omega arith))) (agrees_under (lock_of p x) (value a x)))

-- An assignment that obeys agrees with the lock of any number.
pub obeyed : (p : Plan) (a : Assignment) (x : ℕ) → T (obeys a p) → T (agrees (lock_of p x) (value a x))
unfolding obeys agrees
obeyed p a x h = at (is_variable p x) refl
  where
    at : (b : Bool) → is_variable p x ≡ b → T (agrees (lock_of p x) (value a x))
    at false e = rw (no_variable p x e) tt
    at true e =
        let r = variable_range p x e in
        let there : get_or (row 1 p.variables) (x - 1) 0 ≡ x = row_at 1 p.variables (x - 1) 0 (omega arith) ∙ omega arith in
        subst (λ y. T (agrees (lock_of p y) (value a y))) there
        (all_at (λ y. agrees (lock_of p y) (value a y)) (row 1 p.variables) (x - 1) 0 h (rw length_row (omega arith)))

pub flip_obeys : (p : Plan) (a : Assignment) (x : ℕ) → is_locked p x ≡ false → T (obeys a p) → T (obeys (flip a x) p)
unfolding obeys agrees
flip_obeys p a x e h = all_in_row _ 1 p.variables (λ y l u. at y (eqb y x) refl)
  where
    at : (y : ℕ) (b : Bool) → eqb y x ≡ b → T (agrees (lock_of p y) (value (flip a x) y))
    at y true s = rw (eqb-true y x s, free p x e) tt
    at y false s = rw (flip_other a x y (eqb-false y x s)) (obeyed p a y h)
