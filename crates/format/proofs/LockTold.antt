-- What is chosen by the word of a lock is chosen by the lock that the word tells.
-- Assumes nothing.
use Prim.Native.Nat.{ℕ}
use mathlib.Core.Path.{◌≡◌, refl, sym, ap, ◌∙◌}
use mathlib.Core.Bool.{Bool, true, false, not, cond}
use lib.Dec.{eqb}
use Rattle.std.specs.Prelude.{Option, None, Some}
use Rattle.format.specs.Locks.{lock_of}

module _ {A : Type 0} (free off on : A) where
  abbrev pub by_lock : Option Bool → A
  by_lock None = free
  by_lock (Some value) = cond value on off

  by_word : (w : ℕ) → by_lock (lock_of w) ≡ cond (eqb w 0) free (cond (eqb w 1) off on)
  unfolding lock_of
  by_word w = by (eqb w 0) (eqb w 1)
    where
      by : (s t : Bool) → by_lock (cond s None (Some (not t))) ≡ cond s free (cond t off on)
      by true t = refl
      by false true = refl
      by false false = refl

  pub told : {lock told : Option Bool} (w : ℕ) → lock ≡ lock_of w → lock ≡ told → by_lock told ≡ cond (eqb w 0) free (cond (eqb w 1) off on)
  told w e f = ap by_lock (sym f ∙ e) ∙ by_word w
