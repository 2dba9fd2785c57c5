-- Words of locks turned into codes one after the other.
-- Assumes nothing.
use Prim.Native.Nat.{ℕ, suc, ◌+◌, ◌*◌, ◌-◌, ◌≤◌, ◌<◌}
use native.Mathlib.Nat.{eq-or-lt_of_le, le_refl}
use native.Mathlib.Omega.{arith}
use mathlib.Core.Path.{◌≡◌, refl, sym, ap, ap₂, ◌∙◌, subst}
use mathlib.Core.Bool.{Bool, true, false, not, cond}
use mir.Val.{bool_byte}
use Rattle.std.specs.Prelude.{Option, None, Some}
use Rattle.std.specs.Option.{is_some, is_none}
use mathlib.Core.Logic.{⊎_elim}
use mathlib.Core.List.{List, [], ◌∷◌}
use lib.Dec.{eqb}
use lib.ListN.{length}
use Rattle.plpb.specs.Lists.{row}
use Rattle.plpb.proofs.Lists.{count_le, length_row, count_nil}
use Rattle.words.specs.Words.{num_at, word_at}
use Rattle.words.specs.Writes.{put_words}
use Rattle.words.proofs.Writes.{one_word, read_put, read_before, read_behind, length_put_words}
use Rattle.words.proofs.Words.{length_bytes_of}
use Rattle.squeezed.proofs.Numbers.{up_suc}
use Rattle.format.specs.Locks.{lock_of}
use Rattle.fates.specs.Codes.{off_code, on_code}
use Rattle.numbering.specs.Numbered.{code_by, code_in, free_to, Numbered}

-- ---- words of a table, one of them written

module _ (s : List ℕ) (i v : ℕ) (room : 4 * i + 4 ≤ length s) where
  pub word_there : v < 4_294_967_296 → word_at (put_words i (v ∷ []) s) i ≡ v
  unfolding word_at
  word_there l = ap (λ t. num_at 4 t (4 * i)) (sym (one_word i v s)) ∙ read_put 4 (4 * i) v s (omega arith) l

  pub word_before : (j : ℕ) → j < i → word_at (put_words i (v ∷ []) s) j ≡ word_at s j
  unfolding word_at
  word_before j l = ap (λ t. num_at 4 t (4 * j)) (sym (one_word i v s)) ∙ read_before 4 (4 * i) (4 * j) _ s (omega arith) (omega arith)

  pub word_behind : (j : ℕ) → i < j → word_at (put_words i (v ∷ []) s) j ≡ word_at s j
  unfolding word_at
  word_behind j l =
      ap (λ t. num_at 4 t (4 * j)) (sym (one_word i v s))
      ∙ read_behind 4 (4 * i) (4 * j) _ s (omega arith) (omega (arith, length_bytes_of 4 v))

-- ---- numbering

-- Counting and coding by the lock of a word are those by the word.
none_by : (w : ℕ) → bool_byte (is_none (lock_of w)) ≡ cond (eqb w 0) 1 0
unfolding lock_of
none_by w = by (eqb w 0)
  where
    by : (t : Bool) → bool_byte (is_none (cond t None (Some (not (eqb w 1))))) ≡ cond t 1 0
    by true = refl
    by false = refl

coded_by : (w k : ℕ) → code_in (lock_of w) k ≡ code_by w k
unfolding lock_of code_by
coded_by w k = by (eqb w 0) (eqb w 1)
  where
    by : (s t : Bool) → code_in (cond s None (Some (not t))) k ≡ cond s k (cond t off_code on_code)
    by true t = refl
    by false true = refl
    by false false = refl

pub counted_one : {lock : Option Bool} {f : ℕ} (none : Bool) (w before : ℕ) → lock ≡ lock_of w → is_some lock ≡ not none → f ≡ bool_byte none → before + f ≡ before + cond (eqb w 0) 1 0
counted_one none w before e g h = ap (λ k. before + k) (h ∙ ap bool_byte (twice none ∙ ap not (sym g) ∙ ap is_none e) ∙ none_by w)
  where
    twice : (b : Bool) → b ≡ not (not b)
    twice true = refl
    twice false = refl

pub coded_one : {lock : Option Bool} {v : ℕ} (w k : ℕ) → lock ≡ lock_of w → v ≡ code_in lock k → v ≡ code_by w k
coded_one w k e h = h ∙ ap (λ o. code_in o k) e ∙ coded_by w k

pub bit_small : (b : Bool) → bool_byte b ≤ 1
bit_small true = omega arith
bit_small false = omega arith

free_few : (m : List ℕ) (x : ℕ) → free_to m x ≤ x
unfolding free_to
free_few m x = omega (arith, count_le (λ y. eqb (word_at m y) 0) (row 1 x), length_row 1 x)

free_more : (m : List ℕ) (x : ℕ) → 1 ≤ x → free_to m x ≡ free_to m (x - 1) + cond (eqb (word_at m x) 0) 1 0
unfolding free_to
free_more m x h = let e : suc (x - 1) ≡ x = omega arith in subst (λ y. free_to m y ≡ free_to m (x - 1) + cond (eqb (word_at m y) 0) 1 0) e (up_suc (λ y. eqb (word_at m y) 0) (x - 1))

free_none : (m : List ℕ) → free_to m 0 ≡ 0
unfolding free_to row
free_none m = count_nil _

module _ (m : List ℕ) (n : ℕ) where
  -- The variables before x have their codes.
  pub record Numbering (t : List ℕ) (x free : ℕ) : Type 0 where
    pub low : 1 ≤ x
    pub high : x ≤ suc n
    pub same : length t ≡ length m
    pub codes : (y : ℕ) → 1 ≤ y → y < x → word_at t y ≡ code_by (word_at m y) (free_to m y)
    pub first : word_at t 0 ≡ word_at m 0
    pub beyond : (y : ℕ) → x ≤ y → word_at t y ≡ word_at m y
    pub counted : free ≡ free_to m (x - 1)

  pub numbering_start : Numbering m 1 0
  numbering_start =
      record {
        low = omega arith;
        high = omega arith;
        same = refl;
        codes = λ y l u. absurd (omega arith);
        first = refl;
        beyond = λ y l. refl;
        counted = sym (free_none m);
      }

  module _ (t : List ℕ) (x free : ℕ) (h : Numbering t x free) where
    pub free_small : free ≤ x
    free_small = omega (arith, h.counted, free_few m (x - 1))

    -- One more: l is its word, k how many are unlocked up to it, v its code.
    pub numbering_more : {l k v : ℕ} {u : List ℕ} → x ≤ n → n ≤ 512 → 2_052 ≤ length m → l ≡ word_at t x → k ≡ free + cond (eqb l 0) 1 0 → v ≡ code_by l k → v < 4_294_967_296
        → u ≡ put_words x (v ∷ []) t → Numbering u (x + 1) k
    numbering_more {l} {k} {v} {u} w b r e f g fits p =
        let room : 4 * x + 4 ≤ length t = omega (arith, h.same) in
        let word : l ≡ word_at m x = e ∙ h.beyond x (le_refl x) in
        let free' : k ≡ free_to m x = f ∙ ap₂ (λ a c. a + cond (eqb c 0) 1 0) h.counted word ∙ sym (free_more m x h.low) in
        let code : v ≡ code_by (word_at m x) (free_to m x) = g ∙ ap₂ code_by word free' in
        let back : x + 1 - 1 ≡ x = omega arith in
        record {
          low = omega arith;
          high = omega arith;
          same = ap length p ∙ length_put_words x (v ∷ []) t (omega arith) ∙ h.same;
          codes = λ y low up.
              ⊎_elim
              (λ z. subst (λ j. word_at u j ≡ code_by (word_at m j) (free_to m j)) (sym z) (ap (λ s. word_at s x) p ∙ word_there t x v room fits ∙ code))
              (λ z. ap (λ s. word_at s y) p ∙ word_before t x v room y z ∙ h.codes y low z)
              (eq-or-lt_of_le {n = y} {m = x} (omega arith));
          first = ap (λ s. word_at s 0) p ∙ word_before t x v room 0 h.low ∙ h.first;
          beyond = λ y low. ap (λ s. word_at s y) p ∙ word_behind t x v room y (omega arith) ∙ h.beyond y (omega arith);
          counted = free' ∙ ap (free_to m) (sym back);
        }

    pub numbering_end : n < x → Numbered m n t free
    numbering_end l =
        let e : x - 1 ≡ n = omega (arith, h.high) in
        record {
          codes = λ y low up. h.codes y low (omega arith);
          first = h.first;
          beyond = λ y low. h.beyond y (omega (arith, h.high));
          counted = h.counted ∙ ap (free_to m) e;
        }
