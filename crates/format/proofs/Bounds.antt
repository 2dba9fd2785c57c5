-- A rule's two bounds and its mode with two numbers say the same: by the four cases of the bounds, and by the three modes.
use Prim.Native.Nat.{ℕ, zero, suc, ◌≤◌}
use mathlib.Core.Path.{◌≡◌, refl, sym, ap}
use mathlib.Core.Bool.{Bool, true, false, not}
use native.Mathlib.Omega.{arith}
use lib.Dec.{leb, eqb}
use lib.IntN.{ℤ, pos, negsuc, nat_abs}
use borrow.Author.Tests.{leb-true, eqb-true, eq-eqb, le-leb}
use Rattle.plpb.specs.Lists.{◌and◌, ◌or◌}
use Rattle.plpb.specs.Plan.{Bound, absent, present}
use Rattle.format.specs.Limits.{max_bound, bound_lawful, is_present}
use Rattle.format.specs.File.{bounds_lawful, bound_of}
use Rattle.format.specs.Writer.{mode, bound_number}
use Rattle.format.proofs.Bools.{and_left, and_right, true_T}

-- Two bounds, one of them there and both within the range.
unfoldable pub both_lawful : Bound ℤ → Bound ℤ → Bool
both_lawful lo up = (is_present lo or is_present up) and bound_lawful lo and bound_lawful up

pub bounds_written : (lo up : Bound ℤ) → both_lawful lo up ≡ true → bounds_lawful (mode lo up) (bound_number lo) (bound_number up) ≡ true
unfolding both_lawful bounds_lawful bound_lawful is_present mode bound_number ◌and◌ ◌or◌
bounds_written absent absent h = h
bounds_written (present l) absent h = rw (and_left (leb (nat_abs l) max_bound) true h)
bounds_written absent (present u) h = rw h
bounds_written (present l) (present u) h =
    let a = and_left (leb (nat_abs l) max_bound) (leb (nat_abs u) max_bound) h in
    let b = and_right (leb (nat_abs l) max_bound) (leb (nat_abs u) max_bound) h in
    rw (a, b)

pub lower_back_lem : (lo up : Bound ℤ) → both_lawful lo up ≡ true → bound_of 2 (mode lo up) (bound_number lo) ≡ lo
unfolding both_lawful is_present bound_of mode bound_number ◌and◌ ◌or◌
lower_back_lem absent absent h = absurd (true_T false h)
lower_back_lem (present l) absent h = refl
lower_back_lem absent (present u) h = refl
lower_back_lem (present l) (present u) h = refl

pub upper_back_lem : (lo up : Bound ℤ) → both_lawful lo up ≡ true → bound_of 1 (mode lo up) (bound_number up) ≡ up
unfolding both_lawful is_present bound_of mode bound_number ◌and◌ ◌or◌
upper_back_lem absent absent h = absurd (true_T false h)
upper_back_lem (present l) absent h = refl
upper_back_lem absent (present u) h = refl
upper_back_lem (present l) (present u) h = refl

-- A lawful mode with two numbers: what the bounds are, in one record.
pub record Meant (m : ℕ) (l u : ℤ) : Type 0 where
  pub lawful : both_lawful (bound_of 2 m l) (bound_of 1 m u) ≡ true
  pub mode_back : mode (bound_of 2 m l) (bound_of 1 m u) ≡ m
  pub lower_back : bound_number (bound_of 2 m l) ≡ l
  pub upper_back : bound_number (bound_of 1 m u) ≡ u

pub nat_abs_zero : (z : ℤ) → nat_abs z ≡ 0 → pos 0 ≡ z
nat_abs_zero (pos n) e = ap pos (sym e)
nat_abs_zero (negsuc n) e = absurd (omega arith)

-- The parts of the test of bounds, as facts.
pub record Tested (m : ℕ) (l u : ℤ) : Type 0 where
  pub low : 1 ≤ m
  pub high : m ≤ 3
  pub lower : nat_abs l ≤ max_bound
  pub upper : nat_abs u ≤ max_bound
  pub no_lower : m ≡ 2 → nat_abs l ≡ 0
  pub no_upper : m ≡ 1 → nat_abs u ≡ 0

or_case : (m k n : ℕ) → (not (eqb m k) or eqb n 0) ≡ true → m ≡ k → n ≡ 0
unfolding ◌or◌
or_case m k n h e = eqb-true n 0 (rw (eq-eqb m k e) at h)

pub bounds_tested : (m : ℕ) (l u : ℤ) → bounds_lawful m l u ≡ true → Tested m l u
unfolding bounds_lawful
bounds_tested m l u h =
    let a = and_left _ _ h in
    let b = and_left _ _ a in
    let c = and_left _ _ b in
    let d = and_left _ _ c in
    record {
      low = leb-true _ _ (and_left _ _ d);
      high = leb-true _ _ (and_right _ _ d);
      lower = leb-true _ _ (and_right _ _ c);
      upper = leb-true _ _ (and_right _ _ b);
      no_lower = or_case m 2 (nat_abs l) (and_right _ _ a);
      no_upper = or_case m 1 (nat_abs u) (and_right _ _ h);
    }

pub bounds_meant : (m : ℕ) (l u : ℤ) → Tested m l u → Meant m l u
unfolding both_lawful bound_lawful is_present bound_of mode bound_number ◌and◌ ◌or◌
bounds_meant zero l u t = absurd (omega arith)
bounds_meant (suc zero) l u t =
    record { lawful = rw (le-leb _ _ t.lower); mode_back = refl; lower_back = refl; upper_back = nat_abs_zero u (t.no_upper refl) }
bounds_meant (suc (suc zero)) l u t =
    record { lawful = rw (le-leb _ _ t.upper); mode_back = refl; lower_back = nat_abs_zero l (t.no_lower refl); upper_back = refl }
bounds_meant (suc (suc (suc zero))) l u t =
    record { lawful = rw (le-leb _ _ t.lower, le-leb _ _ t.upper); mode_back = refl; lower_back = refl; upper_back = refl }
bounds_meant (suc (suc (suc (suc m)))) l u t = absurd (omega arith)
