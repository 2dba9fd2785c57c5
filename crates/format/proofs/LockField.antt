-- The field of locks: what is written of lawful locks is read as those locks and meets no condition, and what meets none was written so. By
-- induction over the entries.
use Prim.Native.Nat.{ℕ, zero, suc, ◌+◌, ◌*◌, ◌≤◌, ◌<◌}
use mathlib.Core.Path.{◌≡◌, refl, ap, ap₂, ◌∙◌}
use mathlib.Core.Bool.{Bool, true, false, cond}
use mathlib.Core.List.{List, [], ◌∷◌, ◌++◌, map, append_assoc}
use native.Mathlib.Nat.{add-zero}
use native.Mathlib.Omega.{arith}
use lib.Dec.{eqb, leb, ltb}
use lib.IntN.{pos}
use lib.ListN.{length, drop, length-append}
use borrow.Author.Tests.{leb-true, ltb-false, not-false}
use Rattle.plpb.specs.Lists.{◌and◌, all, concat}
use Rattle.plpb.specs.Plan.{Lock, rising_above}
use Rattle.words.specs.Words.{num_at, bytes_of}
use Rattle.words.proofs.Words.{Below, length_bytes_of}
use Rattle.format.specs.Limits.{weight_lawful, lock_term, term_within}
use Rattle.format.specs.File.{lock_entry, lock_entries, refuse, entries_fault}
use Rattle.format.specs.Writer.{lock_bytes}
use Rattle.format.proofs.Bools.{and_left, and_right, and_join}
use Rattle.format.proofs.Fields.{unrefused}
use Rattle.format.proofs.Places.{place_behind, place_byte, place_num}
use Rattle.format.proofs.Peel.{peel, peel_byte}

length_lock_bytes : (k : Lock) → length (lock_bytes k) ≡ 3
unfolding lock_bytes
length_lock_bytes k = length-append (bytes_of 2 k.variable) _ ∙ ap (λ m. m + 1) (length_bytes_of 2 k.variable)

pub length_locks : (ks : List Lock) → length (concat (map lock_bytes ks)) ≡ 3 * length ks
unfolding concat
length_locks [] = refl
length_locks (k ∷ ks) = omega (arith, length-append (lock_bytes k) (concat (map lock_bytes ks)), length_lock_bytes k, length_locks ks)

pub length_lock_entries : (s : List ℕ) (k at : ℕ) → length (lock_entries s at k) ≡ k
unfolding lock_entries
length_lock_entries s zero at = refl
length_lock_entries s (suc k) at = ap suc (length_lock_entries s k (at + 3))

value_small : (b : Bool) → ltb 1 (cond b 1 0) ≡ false
value_small true = refl
value_small false = refl

value_back : (b : Bool) → eqb (cond b 1 0) 1 ≡ b
value_back true = refl
value_back false = refl

value_kept : (w : ℕ) → w ≤ 1 → cond (eqb w 1) 1 0 ≡ w
value_kept zero h = refl
value_kept (suc zero) h = refl
value_kept (suc (suc w)) h = absurd (omega arith)

lock_weight : (b : Bool) → weight_lawful (cond b (pos 2) (pos 1)) ≡ true
unfolding weight_lawful ◌and◌
lock_weight true = refl
lock_weight false = refl

-- Written, then read.
module _ (s : List ℕ) where
  module _ (at : ℕ) (k : Lock) (rest : List ℕ) (e : drop at s ≡ lock_bytes k ++ rest) where
    split : drop at s ≡ bytes_of 2 k.variable ++ (cond k.value 1 0 ∷ rest)
    unfolding lock_bytes
    split = simp append_assoc at e

    place_variable : k.variable < 65_536 → num_at 2 s at ≡ k.variable
    place_variable l = place_num s 2 at k.variable _ split l

    place_value : num_at 1 s (at + 2) ≡ cond k.value 1 0
    place_value = place_byte s (at + 2) _ rest (place_behind s at (at + 2) (bytes_of 2 k.variable) _ split (ap (λ m. at + m) (length_bytes_of 2 k.variable)))

    place_lock : k.variable < 65_536 → lock_entry s at ≡ k
    unfolding lock_entry
    place_lock l =
        let p = place_variable l in
        let q = ap (λ w. eqb w 1) place_value ∙ value_back k.value in
        λ i. record { variable = p i; value = q i }

  locks_behind : (at : ℕ) (k : Lock) (ks : List Lock) (rest : List ℕ) → drop at s ≡ concat (map lock_bytes (k ∷ ks)) ++ rest
      → (drop at s ≡ lock_bytes k ++ (concat (map lock_bytes ks) ++ rest)) × (drop (at + 3) s ≡ concat (map lock_bytes ks) ++ rest)
  unfolding concat
  locks_behind at k ks rest e =
      let e' : drop at s ≡ lock_bytes k ++ (concat (map lock_bytes ks) ++ rest) = simp append_assoc at e in
      (e', place_behind s at (at + 3) (lock_bytes k) _ e' (ap (λ m. at + m) (length_lock_bytes k)))

  pub place_locks :
      (n at : ℕ) (ks : List Lock) (rest : List ℕ) → drop at s ≡ concat (map lock_bytes ks) ++ rest → n < 65_536
      → all (term_within n) (map lock_term ks) ≡ true → lock_entries s at (length ks) ≡ ks
  unfolding all lock_entries term_within lock_term
  place_locks n at [] rest e l h = refl
  place_locks n at (k ∷ ks) rest e l h =
      let (here, behind) = locks_behind at k ks rest e in
      let v : k.variable ≤ n = leb-true _ _ (and_left _ _ (and_left _ _ h)) in
      ap₂ (λ a b. a ∷ b) (place_lock at k _ here (omega arith)) (place_locks n (at + 3) ks rest behind l (and_right _ _ h))

  pub locks_faultless :
      (n v at : ℕ) (ks : List Lock) (rest : List ℕ) → drop at s ≡ concat (map lock_bytes ks) ++ rest → n < 65_536
      → rising_above v (map lock_term ks) ≡ true → all (term_within n) (map lock_term ks) ≡ true → entries_fault n v s at (length ks) ≡ 0
  unfolding all rising_above entries_fault term_within lock_term refuse
  locks_faultless n v at [] rest e l r h = refl
  locks_faultless n v at (k ∷ ks) rest e l r h =
      let (here, behind) = locks_behind at k ks rest e in
      let w : k.variable ≤ n = leb-true _ _ (and_left _ _ (and_left _ _ h)) in
      let fits = and_join _ _ (and_left _ _ r) (and_left _ _ (and_left _ _ h)) in
      rw (place_variable at k _ here (omega arith), place_value at k _ here, fits, value_small k.value)
      (locks_faultless n k.variable (at + 3) ks rest behind l (and_right _ _ r) (and_right _ _ h))

  -- Read without a fault, then written.
  record Faultless (n v at k : ℕ) : Type 0 where
    rise : ltb v (num_at 2 s at) ≡ true
    range : leb (num_at 2 s at) n ≡ true
    bit : num_at 1 s (at + 2) ≤ 1
    rest : entries_fault n (num_at 2 s at) s (at + 3) k ≡ 0

  faultless : (n v at k : ℕ) → entries_fault n v s at (suc k) ≡ 0 → Faultless n v at k
  unfolding entries_fault
  faultless n v at k e =
      let a = unrefused _ 4 _ e in
      let b = unrefused _ 9 _ a.1 in
      let both = not-false _ a.0 in
      record { rise = and_left _ _ both; range = and_right _ _ both; bit = ltb-false _ _ b.0; rest = b.1 }

  pub entries_rise : (n v at k : ℕ) → entries_fault n v s at k ≡ 0 → rising_above v (map lock_term (lock_entries s at k)) ≡ true
  unfolding rising_above lock_entries lock_entry lock_term
  entries_rise n v at zero e = refl
  entries_rise n v at (suc k) e =
      let f = faultless n v at k e in
      and_join _ _ f.rise (entries_rise n (num_at 2 s at) (at + 3) k f.rest)

  pub entries_within : (n v at k : ℕ) → entries_fault n v s at k ≡ 0 → all (term_within n) (map lock_term (lock_entries s at k)) ≡ true
  unfolding all term_within lock_entries lock_entry lock_term
  entries_within n v at zero e = refl
  entries_within n v at (suc k) e =
      let f = faultless n v at k e in
      and_join _ _ (and_join _ _ f.range (lock_weight (eqb (num_at 1 s (at + 2)) 1))) (entries_within n (num_at 2 s at) (at + 3) k f.rest)

  pub peel_locks :
      Below 256 s → (n v at k : ℕ) → entries_fault n v s at k ≡ 0 → at + 3 * k ≤ length s
      → drop at s ≡ concat (map lock_bytes (lock_entries s at k)) ++ drop (at + 3 * k) s
  unfolding lock_entries concat lock_bytes lock_entry
  peel_locks bytes n v at zero e h = rw (add-zero at)
  peel_locks bytes n v at (suc k) e h =
      let f = faultless n v at k e in
      let m1 : at + 2 + 1 ≡ at + 3 = omega arith in
      let m2 : at + 3 + 3 * k ≡ at + 3 * suc k = omega arith in
      let bit = rw m1 at (peel_byte s bytes (at + 2) (omega arith)) in
      let rest = rw m2 at (peel_locks bytes n (num_at 2 s at) (at + 3) k f.rest (omega arith)) in
      rw (value_kept _ f.bit)
      (simp append_assoc (peel s bytes 2 at (omega arith) ∙ ap (λ l. bytes_of 2 (num_at 2 s at) ++ l) (bit ∙ ap (λ l. num_at 1 s (at + 2) ∷ l) rest)))
