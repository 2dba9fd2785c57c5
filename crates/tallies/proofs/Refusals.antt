-- A call is not refused exactly where each of its tests passes; a counts call and a refused flip leave all as it was, by definition.
use Prim.Native.Nat.{ℕ, zero, suc, ◌≤◌}
use native.Mathlib.Nat.{le_trans}
use native.Mathlib.Omega.{arith}
use mathlib.Core.Path.{◌≡◌, refl, ◌∙◌}
use mathlib.Core.Bool.{Bool, true, false, not, cond}
use lib.Dec.{T, eqb, nltb→le, eqb-suc-zero}
use lib.ListN.{length, take}
use Rattle.plpb.specs.Plan.{Plan, is_variable, is_locked}
use Rattle.plpb.specs.Book.{flip_call, counts_call}
use Rattle.plpb.proofs.Lists.{and_left, and_right, is_true, not_not, not_or}
use Rattle.format.specs.File.{refuse}
use Rattle.format.specs.Limits.{lawful}
use Rattle.format.specs.Tables.{is_loaded, same_bytes}
use Rattle.format.proofs.Lawful.{plan_parts}
use Rattle.tallies.specs.Layout.{assignment_size, tally_size, are_bits}
use Rattle.tallies.specs.Calls.{Lent, plan, too_small, fresh_bytes, open_refusal, call_refusal, flip_refusal, flip_assignment, flip_tallies, left_by}
use Rattle.tallies.proofs.TallyBytes.{Fits, lawful_fits, same_self, same_bytes_lem}

-- ---- what is not refused

refuse_none : (c : Bool) (k m : ℕ) → refuse c (suc k) m ≡ 0 → T (not c) × (m ≡ 0)
unfolding refuse
refuse_none true k m e = omega arith
refuse_none false k m e = (tt, e)

refuse_pass : (c : Bool) (k m : ℕ) → T (not c) → refuse c k m ≡ m
unfolding refuse
refuse_pass true k m t = absurd t
refuse_pass false k m t = refl

refuse_unless : (c : Bool) (k : ℕ) → refuse (not c) k 0 ≡ cond c 0 k
unfolding refuse
refuse_unless true k = refl
refuse_unless false k = refl

pub either : {A : Type 0} (c : Bool) → (c ≡ true → A) → (c ≡ false → A) → A
either true f g = f refl
either false f g = g refl

-- A number that a flip gets is that of a free variable, of a locked one, or of none.
pub one_of : {A : Type 0} (p : Plan) (x : ℕ) → (is_variable p x ≡ true → is_locked p x ≡ false → A) → (is_variable p x ≡ true → is_locked p x ≡ true → A)
    → (is_variable p x ≡ false → A) → A
one_of p x free locked none = either (is_variable p x) (λ v. either (is_locked p x) (locked v) (free v)) none

-- What an accepted opening has tested.
pub record Opens (l : Lent) : Type 0 where
  pub sizes : T (not (too_small l))
  pub loaded : T (is_loaded l.tables l.terms)
  pub bits : T (are_bits (plan l).variables l.assignment)

pub opens : (l : Lent) → open_refusal l ≡ 0 → Opens l
unfolding open_refusal
opens l e =
    let s = refuse_none (too_small l) 20 _ e in
    let t = refuse_none (not (is_loaded l.tables l.terms)) 21 _ s.1 in
    let u = refuse_none (not (are_bits (plan l).variables l.assignment)) 23 _ t.1 in
    record {
      sizes = s.0;
      loaded = rw not_not at t.0;
      bits = rw not_not at u.0;
    }

pub opens_accepted : (l : Lent) → Opens l → open_refusal l ≡ 0
unfolding open_refusal
opens_accepted l o =
    refuse_pass (too_small l) 21 _ o.sizes
    ∙ refuse_pass (not (is_loaded l.tables l.terms)) 22 _ (rw not_not o.loaded)
    ∙ refuse_pass (not (are_bits (plan l).variables l.assignment)) 24 _ (rw not_not o.bits)

stop_first : (k m : ℕ) → cond (eqb k 0) m k ≡ 0 → (k ≡ 0) × (m ≡ 0)
stop_first zero m e = (refl, e)
stop_first (suc k) m e = let z : suc k ≡ 0 = rw eqb-suc-zero at e in omega arith

-- What an accepted call has tested.
pub record Takes (l : Lent) (x : ℕ) : Type 0 where
  pub opening : Opens l
  pub fresh : take tally_size l.tallies ≡ fresh_bytes l
  pub variable : is_variable (plan l) x ≡ true

pub takes : (l : Lent) (x : ℕ) → call_refusal l x ≡ 0 → Takes l x
unfolding call_refusal
takes l x e =
    let o = stop_first (open_refusal l) _ e in
    let s = refuse_none (not (same_bytes (take tally_size l.tallies) (fresh_bytes l))) 24 _ o.1 in
    let t = refuse_none (not (is_variable (plan l) x)) 22 0 s.1 in
    record {
      opening = opens l o.0;
      fresh = same_bytes_lem (take tally_size l.tallies) (fresh_bytes l) (rw not_not at s.0);
      variable = is_true (is_variable (plan l) x) (rw not_not at t.0);
    }

-- With an accepted opening and its tallies only the variable can be at fault.
pub only_variable : (l : Lent) (x : ℕ) → Opens l → take tally_size l.tallies ≡ fresh_bytes l → call_refusal l x ≡ cond (is_variable (plan l) x) 0 23
unfolding call_refusal
only_variable l x o e =
    rw (opens_accepted l o, e)
    (refuse_pass (not (same_bytes (fresh_bytes l) (fresh_bytes l))) 25 _ (rw not_not (same_self (fresh_bytes l)))
    ∙ refuse_unless (is_variable (plan l) x) 23)

-- ---- flips: a locked variable too

is_false : (c : Bool) → T (not c) → c ≡ false
is_false true t = absurd t
is_false false t = refl

-- What an accepted flip has tested.
pub flips : (l : Lent) (x : ℕ) → flip_refusal l x ≡ 0 → (call_refusal l x ≡ 0) × (is_locked (plan l) x ≡ false)
unfolding flip_refusal
flips l x e =
    let s = stop_first (call_refusal l x) _ e in
    (s.0, is_false _ (refuse_none (is_locked (plan l) x) 25 0 s.1).0)

-- What a flip answers where only its variable can be at fault.
abbrev pub flip_fault : Plan → ℕ → ℕ
flip_fault p x = cond (is_variable p x) (cond (is_locked p x) 26 0) 23

pub only_flip : (l : Lent) (x : ℕ) → call_refusal l x ≡ cond (is_variable (plan l) x) 0 23 → flip_refusal l x ≡ flip_fault (plan l) x
unfolding flip_refusal refuse
only_flip l x e = either (is_variable (plan l) x) (λ v. rw (e, v)) (λ v. rw (e, v))

-- ---- what is left as it was

pub counts_left : (l : Lent) (x : ℕ) → left_by l (counts_call x) ≡ l
unfolding left_by
counts_left l x = refl

pub refused_left : (l : Lent) (x : ℕ) {k : ℕ} → flip_refusal l x ≡ suc k → left_by l (flip_call x) ≡ l
unfolding left_by flip_assignment flip_tallies
refused_left l x {k} e = rw (e, eqb-suc-zero k) refl

-- ---- sizes

module _ (l : Lent) (o : Opens l) where
  pub plan_lawful : T (lawful (plan l))
  unfolding plan is_loaded
  plan_lawful = and_left _ _ (and_left _ _ o.loaded)

  pub plan_fits : Fits (plan l)
  plan_fits = lawful_fits (plan l) plan_lawful

  pub assignment_room : (plan l).variables ≤ length l.assignment
  unfolding too_small
  assignment_room =
      le_trans (plan_parts (plan l) plan_lawful).high
      (nltb→le (length l.assignment) assignment_size (and_right _ _ (rw not_or at (and_left _ _ (rw not_or at o.sizes)))))

  pub tallies_room : tally_size ≤ length l.tallies
  unfolding too_small
  tallies_room = nltb→le (length l.tallies) tally_size (and_right _ _ (rw not_or at o.sizes))
