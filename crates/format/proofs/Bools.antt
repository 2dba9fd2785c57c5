-- Laws of 'and' and of tests as types: each holds by the cases of its first argument.
use Prim.Native.Nat.{ℕ}
use mathlib.Core.Path.{◌≡◌, refl, sym, ap}
use mathlib.Core.Bool.{Bool, true, false, cond, ◌&&◌, ◌||◌}
use native.Mathlib.Omega.{arith}
use lib.Dec.{T}
use Rattle.plpb.specs.Lists.{◌and◌, ◌or◌}

pub T_true : (b : Bool) → T b → b ≡ true
T_true true t = refl
T_true false t = elim t [ ]

pub true_T : (b : Bool) → b ≡ true → T b
true_T true e = tt
true_T false e = let z : ◌≡◌ {A = ℕ} 0 1 = ap (λ t. cond t 1 0) e in omega arith

-- What 'and' says, and how it is split and joined.
pub and_left : (a b : Bool) → (a and b) ≡ true → a ≡ true
unfolding ◌and◌
and_left true b h = refl
and_left false b h = h

pub and_right : (a b : Bool) → (a and b) ≡ true → b ≡ true
unfolding ◌and◌
and_right true b h = h
and_right false b h = absurd (true_T false h)

pub and_join : (a b : Bool) → a ≡ true → b ≡ true → (a and b) ≡ true
unfolding ◌and◌
and_join a b p q = rw (p, q, ◌and◌)

pub and_first : (a b : Bool) → a ≡ true → (a and b) ≡ b
unfolding ◌and◌
and_first a b p = rw p

pub and_stop : (a b : Bool) → a ≡ false → (a and b) ≡ false
unfolding ◌and◌
and_stop a b p = rw p

pub and_false : (a b : Bool) → b ≡ false → (a and b) ≡ false
unfolding ◌and◌
and_false true b p = p
and_false false b p = refl

pub and_assoc : (a b c : Bool) → (a and b and c) ≡ (a and (b and c))
unfolding ◌and◌
and_assoc true b c = refl
and_assoc false b c = refl

-- Two tests that hold together are one.
pub same_test : (a b : Bool) → (a ≡ true → b ≡ true) → (b ≡ true → a ≡ true) → a ≡ b
same_test true b p q = sym (p refl)
same_test false true p q = q refl
same_test false false p q = refl

-- The code's 'and' and 'or' are the definitions'.
pub both : (a b : Bool) → (a && b) ≡ (a and b)
unfolding ◌and◌
both true b = refl
both false b = refl

pub either : (a b : Bool) → (a || b) ≡ (a or b)
unfolding ◌or◌
either true b = refl
either false b = refl
