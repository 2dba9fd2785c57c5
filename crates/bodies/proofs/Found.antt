-- Laws of what was found: a fault has a number, and what `?` passes on is the same.
-- Assumes nothing.
use Prim.Native.Nat.{◌<◌}
use native.Mathlib.Omega.{arith}
use mathlib.Core.Path.{◌≡◌, ap}
use Rattle.std.specs.Prelude.{Result, Ok, Err, IsErrAnd}
use Rattle.bodies.specs.declared.Fault.{Fault}
use Rattle.bodies.specs.declared.Fault.TheVariants.{CutShort, WrongTag, WrongLength, TooLarge, WrongTerm, WrongBound, BytesAfterEnd, WrongLock}
use Rattle.bodies.specs.Faults.{number, found}

pub fault_numbered : (f : Fault) → 0 < number f
fault_numbered CutShort = omega arith
fault_numbered WrongTag = omega arith
fault_numbered WrongLength = omega arith
fault_numbered TooLarge = omega arith
fault_numbered WrongTerm = omega arith
fault_numbered WrongBound = omega arith
fault_numbered BytesAfterEnd = omega arith
fault_numbered WrongLock = omega arith

pub not_none : (f : Fault) → number f ≡ 0 → ⊥
not_none f e = omega (arith, fault_numbered f)

pub found_err : {A : Type 0} (r : Result A Fault) (e : Fault) → IsErrAnd r (λ f. f ≡ e) → found r ≡ number e
found_err (Ok a) e h = absurd h
found_err (Err f) e h = ap number h
