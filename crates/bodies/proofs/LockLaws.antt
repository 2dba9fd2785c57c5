-- Laws of a field of locks judged entry by entry: an entry at fault decides, and one without passes on to those behind it.
-- Assumes nothing.
use Prim.Native.Nat.{ℕ, suc, ◌+◌, ◌*◌, ◌-◌, ◌≤◌, ◌<◌}
use native.Mathlib.Omega.{arith}
use mathlib.Core.Path.{◌≡◌, refl, sym, ap, ap₂, ◌∙◌}
use mathlib.Core.Bool.{Bool, true, false}
use mathlib.Core.List.{List}
use lib.ListN.{get_or}
use Rattle.words.specs.Words.{num_at}
use Rattle.format.specs.File.{tag_at, refuse, entries_fault}
use Rattle.bodies.specs.Locks.{entry_fault}
use Rattle.bodies.proofs.Tags.{tag_byte}

passed : (a b : Bool) (x : ℕ) → refuse a 5 (refuse b 10 0) ≡ 0 → refuse a 5 (refuse b 10 x) ≡ x
unfolding refuse
passed true b x e = absurd (omega arith)
passed false true x e = absurd (omega arith)
passed false false x e = refl

stopped : (a b : Bool) (x : ℕ) → (refuse a 5 (refuse b 10 0) ≡ 0 → ⊥) → refuse a 5 (refuse b 10 x) ≡ refuse a 5 (refuse b 10 0)
unfolding refuse
stopped true b x n = refl
stopped false true x n = refl
stopped false false x n = absurd (n refl)

-- The byte at a place is its number of one byte.
byte_at : (s : List ℕ) (at : ℕ) → get_or s at 0 ≡ num_at 1 s at
unfolding tag_at
byte_at s at = tag_byte s at

-- Entry i of a field's.
module _ (s : List ℕ) (n v count i : ℕ) where
  pub entries_end : count ≤ i → entries_fault n v s (3 * i) (count - i) ≡ 0
  unfolding entries_fault
  entries_end h = ap (entries_fault n v s (3 * i)) (none h)
    where
      none : count ≤ i → count - i ≡ 0
      none h = omega arith

  module _ (x f : ℕ) (some : i < count) (number : x ≡ num_at 2 s (3 * i)) (fault : f ≡ entry_fault n v x (get_or s (3 * i + 2) 0)) where
    one_more : count - i ≡ suc (count - (i + 1))
    one_more = omega (arith, some)

    next : 3 * i + 3 ≡ 3 * (i + 1)
    next = omega arith

    here : f ≡ entry_fault n v (num_at 2 s (3 * i)) (num_at 1 s (3 * i + 2))
    here =
        fault
        ∙ ap (λ (y : ℕ). entry_fault n v y (get_or s (3 * i + 2) 0)) number
        ∙ ap (entry_fault n v (num_at 2 s (3 * i))) (byte_at s (3 * i + 2))

    pub entries_stop : (f ≡ 0 → ⊥) → entries_fault n v s (3 * i) (count - i) ≡ f
    unfolding entries_fault entry_fault
    entries_stop z = ap (entries_fault n v s (3 * i)) one_more ∙ stopped _ _ _ (λ e. z (here ∙ e)) ∙ sym here

  pub entries_go :
      (x : ℕ) → i < count → x ≡ num_at 2 s (3 * i) → 0 ≡ entry_fault n v x (get_or s (3 * i + 2) 0)
      → entries_fault n v s (3 * i) (count - i) ≡ entries_fault n x s (3 * (i + 1)) (count - (i + 1))
  unfolding entries_fault entry_fault
  entries_go x some number fault =
      ap (entries_fault n v s (3 * i)) (one_more x 0 some number fault)
      ∙ passed _ _ _ (sym (here x 0 some number fault))
      ∙ ap₂ (λ (y a : ℕ). entries_fault n y s a (count - (i + 1))) (sym number) (next x 0 some number fault)
