-- What a need for numbers comes to over a list in bytes, and what the answer to one tells a caller.
-- Assumes nothing.
use Prim.Native.Nat.{ℕ, zero, suc, ◌+◌, ◌-◌, ◌/◌, ◌%◌, ◌^◌, ◌≤◌, ◌<◌}
use native.Mathlib.Nat.{zero-add, mod-lt}
use native.Mathlib.Numerals.{add-one}
use native.Mathlib.Decide.{dec_lt}
use native.Mathlib.Omega.{arith}
use mathlib.Core.Path.{◌≡◌, refl, sym, ap, ◌∙◌, subst}
use mathlib.Core.Bool.{Bool, true, false, cond}
use mathlib.Core.List.{List, [], ◌∷◌, ◌++◌}
use borrow.Author.Tests.{lt-ltb, le-ltb, le-leb, lt-leb}
use lib.Dec.{ltb, eqb}
use lib.ListN.{length, get_or, set, take, drop, length-map}
use lib.Seq.{drop-cons, take-suc, append_snoc, set_at, take_all, length-take-le, get_or-take, get_or-drop}
use Rattle.std.proofs.lemmas.List.{append-nil, drop_all}
use Rattle.plpb.specs.Lists.{row}
use Rattle.plpb.specs.Numbers.{Taken, taken, too_few, take_words, range, fair, pick_among, take_pick, start_words, start_of, bit}
use Rattle.plpb.proofs.Picks.{kept_within, within_kept}
use Rattle.plpb.proofs.Lists.{length_row, row_at}
use Rattle.plpb.proofs.Walks.{Spends, words_spend, pick_spends}
use Rattle.words.specs.Words.{word_at}
use Rattle.format.specs.Assignment.{bit_bytes}
use Rattle.format.proofs.Assignment.{length_bit_bytes}
use Rattle.std.specs.Prelude.{Result, Ok, Err, IsErrAnd}
use Rattle.numbers.specs.declared.Drawn.{Drawn}
use Rattle.numbers.specs.declared.Short.{Short}
use Rattle.numbers.specs.Numbers.{numbers_of}
use Rattle.numbers.specs.Taking.{taken_of, started_of, start_bytes, Starts}
use Rattle.std.specs.Int.{div_ceil}
use Rattle.std.proofs.lemmas.Grind.{div_ceil_times}
use Rattle.numbers.proofs.Keep.{get_d_map}

-- ---- the list

pub length_numbers_of : (s : List ℕ) → length (numbers_of s) ≡ length s / 4
unfolding numbers_of
length_numbers_of s = length-map (row 0 (length s / 4)) (word_at s) ∙ length_row 0 (length s / 4)

pub numbers_of_at : (s : List ℕ) (i : ℕ) → i < length s / 4 → get_or (numbers_of s) i 0 ≡ word_at s i
unfolding numbers_of
numbers_of_at s i h =
    get_d_map (word_at s) (row 0 (length s / 4)) i 0 0 (rw length_row h)
    ∙ ap (word_at s) (row_at 0 (length s / 4) i 0 h ∙ zero-add i)

-- ---- picks

-- What a pick comes to from a place on: the number there is kept, or discarded, or there is none.
module _ (s : List ℕ) (m at : ℕ) where
  here : at < length s / 4 → drop at (numbers_of s) ≡ word_at s at ∷ drop (suc at) (numbers_of s)
  here h = drop-cons (numbers_of s) at 0 (rw length_numbers_of h) ∙ ap (λ r. r ∷ drop (suc at) (numbers_of s)) (numbers_of_at s at h)

  module _ (low : 0 < m) {r : ℕ} (h : at < length s / 4) (e : r ≡ word_at s at) where
    pub pick_keeps : r - r % m + m ≤ range → pick_among m (drop at (numbers_of s)) at ≡ taken (r % m) (at + 1)
    unfolding pick_among fair
    pick_keeps l = rw (here h, ← e, lt-ltb r (range - range % m) (within_kept range m low r l)) refl

    pub pick_discards : range < r - r % m + m → pick_among m (drop at (numbers_of s)) at ≡ pick_among m (drop (at + 1) (numbers_of s)) (at + 1)
    unfolding pick_among fair
    pick_discards l = rw (here h, ← e, le-ltb r (range - range % m) (not_kept (dec_lt r (range - range % m))), add-one at) refl
      where
        not_kept : Dec (r < range - range % m) → range - range % m ≤ r
        not_kept (yes k) = absurd (omega (arith, kept_within range m low r k, l))
        not_kept (no k) = omega (arith, k)

  pub pick_ends : length s / 4 ≤ at → pick_among m (drop at (numbers_of s)) at ≡ too_few at
  unfolding pick_among
  pick_ends h = rw (drop_all at (numbers_of s) (rw length_numbers_of h)) refl

-- What a caller learns of an answer, whatever a pick does with the numbers: the need's outcome, a place below m, and how many are used.
module _ {r : Result (Drawn ℕ) Short} {t : Taken ℕ} (e : taken_of r ≡ t) where
  pub picked_at : {d : Drawn ℕ} → r ≡ Ok d → t ≡ taken d.value d.used
  unfolding taken_of
  picked_at a = sym e ∙ ap taken_of a

  pub picked_short : {s : Short} → r ≡ Err s → t ≡ too_few s.used
  unfolding taken_of
  picked_short a = sym e ∙ ap taken_of a

-- A `?` hands the error on as it is.
pub handed_on : {A : Type 0} (r : Result A Short) {s : Short} → IsErrAnd r (λ e. e ≡ s) → r ≡ Err s
handed_on (Ok x) h = absurd h
handed_on (Err e) h = ap Err h

unfoldable pub Placed : ℕ → Taken ℕ → Type 0
Placed m (taken place used) = place < m
Placed m (too_few used) = Unit {0}

among_placed : (m : ℕ) (left : List ℕ) (used : ℕ) → 0 < m → Placed m (pick_among m left used)
unfolding pick_among Placed
among_placed m [] used h = tt
among_placed m (r ∷ rest) used h = either (ltb r (fair m)) (pick_among m rest (used + 1)) (among_placed m rest (used + 1) h)
  where
    either : (b : Bool) (t : Taken ℕ) → Placed m t → Placed m (cond b (taken (r % m) (used + 1)) t)
    either true t p = mod-lt r h
    either false t p = p

module _ (m : ℕ) (ns : List ℕ) (used : ℕ) where
  pub pick_placed : 0 < m → Placed m (take_pick m ns used)
  unfolding take_pick
  pick_placed h = among_placed m (drop used ns) used h

  pub place_below : {place after : ℕ} → 0 < m → take_pick m ns used ≡ taken place after → place < m
  unfolding Placed
  place_below h e = subst (Placed m) e (pick_placed h)

  pub pick_uses : {place after : ℕ} → take_pick m ns used ≡ taken place after → (used + 1 ≤ after) × (after ≤ length ns)
  unfolding Spends
  pick_uses e = subst (Spends (length ns) used 1) e (pick_spends ns used m)

  pub pick_gone : {after : ℕ} → take_pick m ns used ≡ too_few after → (used ≤ after) × (used ≤ length ns → after ≤ length ns)
  unfolding Spends
  pick_gone e = subst (Spends (length ns) used 1) e (pick_spends ns used m)

-- ---- a try's start

bit_digit : (d : ℕ) → d < 2 → d ≡ cond (eqb d 1) 1 0
bit_digit zero h = refl
bit_digit (suc zero) h = refl
bit_digit (suc (suc d)) h = absurd (omega arith)

pub bit_is : (i number : ℕ) → number / 2 ^ i % 2 ≡ cond (bit i number) 1 0
unfolding bit
bit_is i number = bit_digit (number / 2 ^ i % 2) (omega arith)

pub start_at : (n : ℕ) (ws : List ℕ) (i : ℕ) → i < n → get_or (bit_bytes (start_of n ws)) i 0 ≡ cond (bit (i % 32) (get_or ws (i / 32) 0)) 1 0
unfolding bit_bytes start_of
start_at n ws i h =
    get_d_map (λ b. cond b 1 0) (start_of n ws) i false 0 (rw (length-map (row 0 n) (λ j. bit (j % 32) (get_or ws (j / 32) 0)), length_row) h)
    ∙ ap (λ b. cond b 1 0) (get_d_map (λ j. bit (j % 32) (get_or ws (j / 32) 0)) (row 0 n) i 0 false (rw length_row h))
    ∙ ap (λ j. cond (bit (j % 32) (get_or ws (j / 32) 0)) 1 0) (row_at 0 n i 0 h ∙ zero-add i)

pub length_start : (n : ℕ) (ws : List ℕ) → length (bit_bytes (start_of n ws)) ≡ n
unfolding start_of
length_start n ws = length_bit_bytes (start_of n ws) ∙ length-map (row 0 n) (λ j. bit (j % 32) (get_or ws (j / 32) 0)) ∙ length_row 0 n

-- One byte more of a list written over another.
pub write_more : (xs d : List ℕ) (i v : ℕ) → i < length xs → i < length d → v ≡ get_or xs i 0 → set (take i xs ++ drop i d) i v ≡ take (i + 1) xs ++ drop (i + 1) d
write_more xs d i v h l e =
    rw (add-one i, e, drop-cons d i 0 l, set_at (take i xs) (get_or d i 0) (drop (suc i) d) (get_or xs i 0) i (length-take-le i xs (omega arith)), take-suc xs i 0 h)
    (sym (append_snoc (take i xs) (get_or xs i 0) (drop (suc i) d)))

-- A list that is written whole is all that is left.
pub written_all : (xs d : List ℕ) (i : ℕ) → length xs ≤ i → length d ≤ i → take i xs ++ drop i d ≡ xs
written_all xs d i h l = rw (take_all i xs h, drop_all i d l) (append-nil xs)

module _ (s : List ℕ) (used n : ℕ) where
  pub start_bit : (i v : ℕ) → i < n → v ≡ cond (bit (i % 32) (get_or (numbers_of s) (used + i / 32) 0)) 1 0
      → v ≡ get_or (bit_bytes (start_of n (take (start_words n) (drop used (numbers_of s))))) i 0
  unfolding start_words
  start_bit i v h e =
      e
      ∙ ap (λ r. cond (bit (i % 32) r) 1 0)
      (sym (get_or-take ((n + 31) / 32) (drop used (numbers_of s)) (i / 32) 0 (omega arith) ∙ get_or-drop used (numbers_of s) (i / 32) 0))
      ∙ sym (start_at n (take ((n + 31) / 32) (drop used (numbers_of s))) i h)

  pub words_taken : used + start_words n ≤ length s / 4 → take_words (start_words n) (numbers_of s) used ≡ taken (take (start_words n) (drop used (numbers_of s))) (used + start_words n)
  unfolding take_words
  words_taken h = rw (le-leb (used + start_words n) (length (numbers_of s)) (rw length_numbers_of h))

  pub words_short : length s / 4 < used + start_words n → take_words (start_words n) (numbers_of s) used ≡ too_few used
  unfolding take_words
  words_short h = rw (lt-leb (used + start_words n) (length (numbers_of s)) (rw length_numbers_of h))

  -- How many numbers a start takes, as the library's division answers it.
  pub words_needed : {k : ℕ} → k ≡ div_ceil n 32 → k ≡ start_words n
  unfolding start_words
  words_needed e = let b = div_ceil_times n 32 (omega arith) in e ∙ omega (arith, b)

  -- The two answers of a start.
  module _ (entry exit : List ℕ) where
    pub starts_taken : used + start_words n ≤ length s / 4 → exit ≡ bit_bytes (start_of n (take (start_words n) (drop used (numbers_of s)))) ++ drop n entry
        → Starts n (take_words (start_words n) (numbers_of s) used) entry (Ok (used + start_words n)) exit
    unfolding started_of start_bytes
    starts_taken h e = rw (words_taken h) (record { answers = refl; leaves = e })

    pub starts_short : length s / 4 < used + start_words n → exit ≡ entry → Starts n (take_words (start_words n) (numbers_of s) used) entry (Err (record { used = used })) exit
    unfolding started_of start_bytes
    starts_short h e = rw (words_short h) (record { answers = refl; leaves = e })

-- What a caller learns of an answer: which numbers were taken and what the assignment is; or that nothing changed.
module _ {n : ℕ} {entry exit : List ℕ} {r : Result ℕ Short} where
  pub started_taken : {v : ℕ} (t : Taken (List ℕ)) → Starts n t entry r exit → r ≡ Ok v → (ws : List ℕ) × (t ≡ taken ws v) × (exit ≡ bit_bytes (start_of n ws) ++ drop n entry)
  unfolding started_of start_bytes
  started_taken {v} (taken ws u) h e =
      let k : ◌≡◌ {A = Result ℕ Short} (Ok u) (Ok v) = sym h.answers ∙ e in
      let w : u ≡ v = cc in
      (ws, ap (taken ws) w, h.leaves)
  started_taken {v} (too_few u) h e =
      let k : ◌≡◌ {A = Result ℕ Short} (Err (record { used = u })) (Ok v) = sym h.answers ∙ e in
      let z : ◌≡◌ {A = ℕ} 0 1 = cc in
      absurd (omega arith)

  pub started_short : {s : Short} (t : Taken (List ℕ)) → Starts n t entry r exit → r ≡ Err s → (t ≡ too_few s.used) × (exit ≡ entry)
  unfolding started_of start_bytes
  started_short {s} (taken ws u) h e =
      let k : ◌≡◌ {A = Result ℕ Short} (Ok u) (Err s) = sym h.answers ∙ e in
      let z : ◌≡◌ {A = ℕ} 0 1 = cc in
      absurd (omega arith)
  started_short {s} (too_few u) h e =
      let k : ◌≡◌ {A = Result ℕ Short} (Err (record { used = u })) (Err s) = sym h.answers ∙ e in
      let w : ◌≡◌ {A = Short} (record { used = u }) s = cc in
      (ap (λ (q : Short). too_few q.used) w, h.leaves)

-- How many are used after a start.
module _ (k : ℕ) (ns : List ℕ) (used : ℕ) where
  pub words_use : {ws : List ℕ} {after : ℕ} → take_words k ns used ≡ taken ws after → (used + k ≤ after) × (after ≤ length ns)
  unfolding Spends
  words_use e = subst (Spends (length ns) used k) e (words_spend ns used k)

  pub words_gone : {after : ℕ} → take_words k ns used ≡ too_few after → (used ≤ after) × (used ≤ length ns → after ≤ length ns)
  unfolding Spends
  words_gone e = subst (Spends (length ns) used k) e (words_spend ns used k)
