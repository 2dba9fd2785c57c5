-- The bytes under the section of locks are those of the assignment in which locked variables take their value.
-- Assumes nothing.
use Prim.Native.Nat.{ℕ, suc, ◌+◌, ◌≤◌, ◌<◌}
use native.Mathlib.Nat.{zero-add}
use native.Mathlib.Omega.{arith}
use mathlib.Core.Bool.{Bool, true, false, cond}
use mathlib.Core.List.{List, ◌++◌}
use mathlib.Core.Path.{◌≡◌, refl, sym, ap, ap₂, ◌∙◌}
use lib.Dec.{T}
use lib.ListN.{length, get_or, take, drop, length-map, get_or-append}
use lib.Seq.{drop-cons, drop_at, get_or_at, length-take-le, ext_get_or}
use Rattle.plpb.specs.Lists.{row}
use Rattle.plpb.specs.Plan.{Bound, absent, present, Plan, Assignment, value, lock_of, under, hold}
use Rattle.plpb.proofs.Lists.{length_row, row_at}
use Rattle.plpb.proofs.Locks.{length_hold, hold_at}
use Rattle.words.specs.Words.{word_at}
use Rattle.format.specs.Limits.{roomy}
use Rattle.format.specs.Tables.{Holds, lock_word}
use Rattle.format.specs.Layout.{locks_at, lock_at}
use Rattle.format.specs.Assignment.{bit_bytes}
use Rattle.format.proofs.Assignment.{length_bit_bytes}
use Rattle.format.proofs.LockWords.{lock_word_lem}
use Rattle.numbers.proofs.Keep.{get_d_map}
use Rattle.locks.specs.Held.{held_by, held_first, held_bytes}

pub length_held : (tables : List ℕ) (n : ℕ) (bytes : List ℕ) → length (held_first tables n bytes) ≡ n
unfolding held_first
length_held tables n bytes = length-map (row 0 n) _ ∙ length_row 0 n

pub held_at : (tables : List ℕ) (n : ℕ) (bytes : List ℕ) (i : ℕ) → i < n → get_or (held_first tables n bytes) i 0 ≡ held_by (word_at tables (locks_at + i)) (get_or bytes i 0)
unfolding held_first
held_at tables n bytes i h =
    let each : ℕ → ℕ = λ i. held_by (word_at tables (locks_at + i)) (get_or bytes i 0) in
    get_d_map each (row 0 n) i 0 0 (rw length_row h) ∙ ap each (row_at 0 n i 0 h ∙ zero-add i)

-- A byte that is not yet written is as it was.
pub not_yet : (xs d : List ℕ) (i : ℕ) → i ≤ length xs → i < length d → get_or (take i xs ++ drop i d) i 0 ≡ get_or d i 0
not_yet xs d i h l = rw (drop-cons d i 0 l) (get_or_at (take i xs) (get_or d i 0) (drop (suc i) d) 0 i (length-take-le i xs h))

by_lock : (k : Bound Bool) (b : Bool) → held_by (lock_word k) (cond b 1 0) ≡ cond (under k b) 1 0
unfolding held_by lock_word under
by_lock absent b = refl
by_lock (present true) b = refl
by_lock (present false) b = refl

bit_byte : (a : Assignment) (i : ℕ) → i < length a → get_or (bit_bytes a) i 0 ≡ cond (value a (suc i)) 1 0
unfolding bit_bytes value
bit_byte a i h = get_d_map (λ b. cond b 1 0) a i false 0 h

-- "then locked variables take their value"
module _ (p : Plan) (tables terms : List ℕ) (r : T (roomy p)) (o : Holds p tables terms) (high : p.variables ≤ 512)
    (a : Assignment) (rest : List ℕ) (size : length a ≡ p.variables) where
  pub bytes_held : held_bytes tables p.variables (bit_bytes a ++ rest) ≡ bit_bytes (hold p a) ++ rest
  unfolding held_bytes
  bytes_held = ap₂ ◌++◌ first (drop_at (bit_bytes a) rest p.variables (length_bit_bytes a ∙ size))
    where
      n : ℕ
      n = p.variables

      long : length (bit_bytes (hold p a)) ≡ n
      long = length_bit_bytes (hold p a) ∙ length_hold p a

      each : (i : ℕ) → i < length (held_first tables n (bit_bytes a ++ rest)) → get_or (held_first tables n (bit_bytes a ++ rest)) i 0 ≡ get_or (bit_bytes (hold p a)) i 0
      each i k =
          let l : i < n = rw (length_held tables n (bit_bytes a ++ rest)) at k in
          let place : lock_at (suc i) ≡ locks_at + i = omega arith in
          held_at tables n (bit_bytes a ++ rest) i l
          ∙ ap₂ held_by (sym (ap (word_at tables) place) ∙ lock_word_lem p tables terms r o (suc i) (omega arith) (omega arith))
          (get_or-append (bit_bytes a) rest 0 i (omega (arith, length_bit_bytes a)) ∙ bit_byte a i (omega arith))
          ∙ by_lock (lock_of p (suc i)) (value a (suc i))
          ∙ ap (λ b. cond b 1 0) (sym (hold_at p a (suc i) (omega arith) (omega arith)))
          ∙ sym (bit_byte (hold p a) i (omega (arith, length_hold p a)))

      first : held_first tables n (bit_bytes a ++ rest) ≡ bit_bytes (hold p a)
      first = ext_get_or 0 _ _ (length_held tables n (bit_bytes a ++ rest) ∙ sym long) each
