-- A map filled from a plan's locks says what becomes of each variable.
-- Assumes nothing.
use Prim.Native.Nat.{ℕ, zero, suc, ◌+◌, ◌*◌, ◌≤◌, ◌<◌, zero-le}
use native.Mathlib.Nat.{not-suc-le-zero, le_refl}
use native.Mathlib.Omega.{arith}
use mathlib.Core.Path.{◌≡◌, refl, sym, ap, ap₂, ◌∙◌}
use mathlib.Core.Bool.{Bool, true, false, not, cond}
use mathlib.Core.List.{List, [], ◌∷◌, append-nil}
use lib.Dec.{eqb, ltb, leb}
use lib.ListN.{length, get_or, length-map, get_or-eq_default}
use borrow.Author.Tests.{ltb-true, ltb-false, leb-true, leb-false}
use borrow.Rule.Slice.PartMut.{put_mid}
use Rattle.plpb.specs.Lists.{◌and◌, keep, count, row}
use Rattle.plpb.specs.Plan.{Bound, absent, present, is_present, Plan, is_variable, lock_of, is_locked}
use Rattle.plpb.proofs.Lists.{count_nil, count_le}
use Rattle.plpb.proofs.Locks.{variable_range, no_variable}
use Rattle.words.specs.Words.{num_at, word_at, word_bytes}
use Rattle.words.specs.Writes.{put, put_words}
use Rattle.words.proofs.Words.{Below, below_cons, length_word_bytes, word_at_word_bytes}
use Rattle.words.proofs.Writes.{lent_part, words_next, first_words, front_whole}
use Rattle.format.specs.Tables.{lock_word}
use Rattle.format.proofs.Lists.{length_row}
use Rattle.format.specs.Layout.{lock_section_size}
use Rattle.tables.specs.Sections.{lock_words}
use Rattle.squeezed.specs.Squeezed.{locked, renumbered, is_unlocked, unlocked, new_number, under_lock, becomes}
use Rattle.squeezed.proofs.Alike.{map_row_at}
use Rattle.squeezed.proofs.Numbers.{up_suc, in_range_lem}
use Rattle.fates.specs.Codes.{decode, decoded, map_size}
use Rattle.fates.proofs.Parts.{decode_other}
use Rattle.numbering.specs.Numbered.{code_by, free_to, Numbered}

-- ---- the words of the locks

lock_small : (b : Bound Bool) → lock_word b < 4_294_967_296
unfolding lock_word
lock_small absent = omega arith
lock_small (present true) = omega arith
lock_small (present false) = omega arith

module _ (p : Plan) where
  length_locks : length (lock_words p) ≡ 512
  unfolding lock_words
  length_locks = length-map (row 1 512) _ ∙ length_row 1 512

  lock_at_lem : (i : ℕ) → i < 512 → get_or (lock_words p) i 0 ≡ lock_word (lock_of p (suc i))
  unfolding lock_words
  lock_at_lem i h = map_row_at (λ x. lock_word (lock_of p x)) 1 512 i 0 h ∙ (let e : 1 + i ≡ suc i = omega arith in ap (λ x. lock_word (lock_of p x)) e)

  locks_below : Below 4_294_967_296 (lock_words p)
  locks_below i = by (ltb i 512) refl
    where
      by : (t : Bool) → ltb i 512 ≡ t → get_or (lock_words p) i 0 < 4_294_967_296
      by true e = rw (lock_at_lem i (ltb-true i 512 e)) (lock_small (lock_of p (suc i)))
      by false e = rw (get_or-eq_default (lock_words p) 0 {n = i} (omega (arith, length_locks, ltb-false i 512 e))) (omega arith)

  abbrev ws : List ℕ
  ws = 0 ∷ lock_words p

  -- A map whose first word is 0, filled behind it.
  pub filled : (o t ys : List ℕ) → length o ≡ map_size → t ≡ put_words 0 (0 ∷ []) o → ys ≡ word_bytes (lock_words p) → put_mid 4 lock_section_size t ys ≡ word_bytes ws
  unfolding put_words
  filled o t ys n e f =
      let long : length ys ≡ lock_section_size = ap length f ∙ length_word_bytes (lock_words p) ∙ ap (λ k. 4 * k) length_locks in
      let whole : length (word_bytes ws) ≡ length o = length_word_bytes ws ∙ (let k : 4 * suc (length (lock_words p)) ≡ map_size = omega (arith, length_locks) in k) ∙ sym n in
      lent_part 4 map_size t ys (omega arith) long
      ∙ ap₂ (λ bs s. put 4 bs s) f e
      ∙ words_next 0 (0 ∷ []) (lock_words p) o (omega arith)
      ∙ first_words ws o ∙ front_whole (word_bytes ws) o whole

  pub filled_long : (o t ys : List ℕ) → length o ≡ map_size → t ≡ put_words 0 (0 ∷ []) o → ys ≡ word_bytes (lock_words p) → length (put_mid 4 lock_section_size t ys) ≡ map_size
  filled_long o t ys n e f = ap length (filled o t ys n e f) ∙ length_word_bytes ws ∙ (let k : 4 * suc (length (lock_words p)) ≡ map_size = omega (arith, length_locks) in k)

  past : (k : ℕ) (s : List ℕ) (i : ℕ) → length s ≤ i → num_at k s i ≡ 0
  unfolding num_at
  past zero s i h = refl
  past (suc k) s i h = rw (get_or-eq_default s 0 {n = i} h, past k s (suc i) (omega arith))

  -- What the words say.
  pub record LocksIn (m : List ℕ) : Type 0 where
    pub first : word_at m 0 ≡ 0
    pub locks : (x : ℕ) → 1 ≤ x → x ≤ 512 → word_at m x ≡ lock_word (lock_of p x)
    pub beyond : (x : ℕ) → 512 < x → word_at m x ≡ 0

  word_of : {m : List ℕ} → m ≡ word_bytes ws → (i : ℕ) → i ≤ 512 → word_at m i ≡ get_or ws i 0
  word_of {m} e i h =
      ap (λ t. word_at t i) (e ∙ sym (append-nil (word_bytes ws)))
      ∙ word_at_word_bytes ws [] i (below_cons 4_294_967_296 0 (lock_words p) (omega arith) locks_below) (omega (arith, length_locks))

  locks_by : {m : List ℕ} → m ≡ word_bytes ws → (x : ℕ) → 1 ≤ x → x ≤ 512 → word_at m x ≡ lock_word (lock_of p x)
  locks_by e zero l u = absurd (not-suc-le-zero l)
  locks_by e (suc i) l u = word_of e (suc i) u ∙ lock_at_lem i u

  pub locks_in_lem : {m : List ℕ} → m ≡ word_bytes ws → LocksIn m
  unfolding word_at
  locks_in_lem {m} e =
      let long = ap length e ∙ length_word_bytes ws in
      record {
        first = word_of e 0 zero-le;
        locks = locks_by e;
        beyond = λ x h. past 4 m (4 * x) (omega (arith, long, length_locks));
      }

-- ---- the codes

-- Two tests that agree up to x count alike, and keep alike.
no_row_lem : (q : ℕ → Bool) → count q (row 1 0) ≡ 0
unfolding row
no_row_lem q = count_nil q

same_count : (q r : ℕ → Bool) (x : ℕ) → ((y : ℕ) → 1 ≤ y → y ≤ x → q y ≡ r y) → count q (row 1 x) ≡ count r (row 1 x)
same_count q r zero h = no_row_lem q ∙ sym (no_row_lem r)
same_count q r (suc x) h =
    up_suc q x ∙ ap₂ (λ a b. a + cond b 1 0) (same_count q r x (λ y l u. h y l (omega arith))) (h (suc x) (omega arith) (le_refl (suc x))) ∙ sym (up_suc r x)

pub same_keep : (q r : ℕ → Bool) (i k : ℕ) → ((y : ℕ) → i ≤ y → y < i + k → q y ≡ r y) → keep q (row i k) ≡ keep r (row i k)
unfolding keep row
same_keep q r i zero h = refl
same_keep q r i (suc k) h =
    ap₂ (λ t l. cond t (i ∷ l) l) (h i (le_refl i) (omega arith)) (same_keep q r (suc i) k (λ y l u. h y (omega arith) (omega arith)))

lock_zero : (b : Bound Bool) → eqb (lock_word b) 0 ≡ not (is_present b)
unfolding lock_word is_present
lock_zero absent = refl
lock_zero (present true) = refl
lock_zero (present false) = refl

locked_on : decode 514 ≡ locked true
unfolding decode
locked_on = refl

locked_off : decode 513 ≡ locked false
unfolding decode
locked_off = refl

nothing_new : decode 0 ≡ renumbered 0
unfolding decode
nothing_new = refl

code_means : (b : Bound Bool) (k : ℕ) → k ≤ 512 → decode (code_by (lock_word b) k) ≡ under_lock b k
unfolding code_by lock_word under_lock
code_means absent k h = decode_other k (λ e. absurd (omega arith)) (λ e. absurd (omega arith))
code_means (present true) k h = locked_on
code_means (present false) k h = locked_off

module _ (p : Plan) (m t : List ℕ) (n k : ℕ) (l : LocksIn p m) (h : Numbered m n t k) (vars : n ≡ p.variables) (high : n ≤ 512) where
  free_is : (x : ℕ) → x ≤ n → free_to m x ≡ new_number p x
  unfolding free_to new_number is_unlocked is_locked
  free_is x u =
      same_count (λ y. eqb (word_at m y) 0) (is_unlocked p) x (λ y low up. ap (λ w. eqb w 0) (l.locks y low (omega arith)) ∙ lock_zero (lock_of p y))

  new_small : (x : ℕ) → x ≤ n → new_number p x ≤ 512
  unfolding new_number
  new_small x u = omega (arith, count_le (is_unlocked p) (row 1 x), length_row 1 x)

  inside : (x : ℕ) → 1 ≤ x → x ≤ n → decode (word_at t x) ≡ becomes p x
  unfolding becomes
  inside x low up =
      let range = in_range_lem p x low (omega arith) in
      ap decode (h.codes x low up ∙ ap₂ code_by (l.locks x low (omega arith)) (free_is x up))
      ∙ code_means (lock_of p x) (new_number p x) (new_small x up) ∙ (let e : under_lock (lock_of p x) (new_number p x) ≡ becomes p x = rw range in e)

  none : (x : ℕ) → is_variable p x ≡ false → word_at t x ≡ 0 → decode (word_at t x) ≡ becomes p x
  unfolding becomes
  none x v e = ap decode e ∙ nothing_new ∙ (let f : renumbered 0 ≡ becomes p x = rw v in f)

  no_zero : is_variable p 0 ≡ false
  unfolding is_variable ◌and◌
  no_zero = refl

  no_high : (x : ℕ) → n < x → is_variable p x ≡ false
  no_high x u = by (is_variable p x) refl
    where
      by : (b : Bool) → is_variable p x ≡ b → is_variable p x ≡ false
      by true e = absurd (omega (arith, (variable_range p x e).1))
      by false e = e

  lock_none : (x : ℕ) → n < x → lock_word (lock_of p x) ≡ 0
  unfolding lock_word
  lock_none x u = ap lock_word (no_variable p x (no_high x u))

  word_none : (x : ℕ) → n < x → 1 ≤ x → word_at t x ≡ 0
  word_none x u low = h.beyond x u ∙ by (leb x 512) refl
    where
      by : (b : Bool) → leb x 512 ≡ b → word_at m x ≡ 0
      by true e = l.locks x low (leb-true x 512 e) ∙ lock_none x u
      by false e = l.beyond x (leb-false x 512 e)

  -- What each word of the map says.
  pub says : (x : ℕ) → decoded t x ≡ becomes p x
  unfolding decoded
  says zero = none zero no_zero (h.first ∙ l.first)
  says (suc i) = by (leb (suc i) n) refl
    where
      by : (b : Bool) → leb (suc i) n ≡ b → decode (word_at t (suc i)) ≡ becomes p (suc i)
      by true e = inside (suc i) (omega arith) (leb-true (suc i) n e)
      by false e = let u = leb-false (suc i) n e in none (suc i) (no_high (suc i) u) (word_none (suc i) u (omega arith))

  pub counts : k ≡ length (unlocked p)
  unfolding unlocked new_number count
  counts = h.counted ∙ free_is n (le_refl n) ∙ ap (new_number p) vars
