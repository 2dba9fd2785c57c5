-- A call made is the definition's, and its answer is written where the list's answers go on. Assumes nothing.
use Prim.Native.Nat.{ℕ, zero, suc, ◌+◌, ◌-◌, ◌*◌, ◌/◌, ◌≤◌, ◌<◌}
use native.Mathlib.Nat.{sub-zero}
use native.Mathlib.Omega.{arith}
use mathlib.Core.Path.{◌≡◌, refl, sym, ap, ap₂, ◌∙◌}
use mathlib.Core.Bool.{Bool, cond}
use mathlib.Core.List.{List, [], ◌∷◌, ◌++◌, append-nil}
use lib.Dec.{eqb-suc-zero}
use lib.ListN.{length, get_or, drop, take-append-drop}
use lib.Seq.{get_or-drop, get_or-take}
use Rattle.std.specs.Simd.{first_chunks}
use borrow.Author.Tests.{eq-eqb, ne_eqb}
use Rattle.plpb.specs.Book.{Call, flip_call, counts_call, Answer, refused, accepted, counted}
use Rattle.plpb.specs.Count.{given}
use Rattle.counting.specs.Count.{count_words}
use Rattle.counting.proofs.Marks.{words_uncut}
use Rattle.words.specs.Words.{num_at, bytes_of, word_bytes}
use Rattle.words.specs.Writes.{front, put}
use Rattle.words.proofs.Words.{length_word_bytes, num_at_same}
use borrow.Rule.Slice.PartMut.{put_mid}
use Rattle.words.proofs.Writes.{put_put, lent_part, front_whole, front_none, word_bytes_append}
use Rattle.tallies.specs.Calls.{Lent, lent, call_refusal, flip_refusal, flip_assignment, flip_tallies, flip_rules, counts_break, counts_make, answer, left_by}
use Rattle.tallies.specs.Demand.{answers, after}
use Rattle.replay.specs.Replay.{call_of, calls_from, calls_of, answer_size, answer_words, answer_bytes}

-- ---- one call

pub is_flip : (kind x : ℕ) → kind ≡ 0 → call_of kind x ≡ flip_call x
unfolding call_of
is_flip kind x e = ap (λ (b : Bool). cond b (flip_call x) (counts_call x)) (eq-eqb kind 0 e)

pub is_counts : (kind x : ℕ) → (kind ≡ 0 → ⊥) → call_of kind x ≡ counts_call x
unfolding call_of
is_counts kind x n = ap (λ (b : Bool). cond b (flip_call x) (counts_call x)) (ne_eqb kind 0 n)

-- A count of nothing, as it is given out.
nothing : 0 ∷ 0 ∷ [] ≡ count_words (given 0)
nothing = words_uncut 0 (omega arith)

flip_words : (l : Lent) (x k n : ℕ) → k ≡ flip_refusal l x → n ≡ flip_rules l x → k ∷ n ∷ 0 ∷ 0 ∷ 0 ∷ 0 ∷ [] ≡ answer_words (answer l (flip_call x))
unfolding answer answer_words flip_rules
flip_words l x zero n e f = rw (f, sym e, ← nothing)
flip_words l x (suc k) n e f = rw (f, sym e, eqb-suc-zero k, ← nothing)

counts_words : (l : Lent) (x k : ℕ) → k ≡ call_refusal l x → k ∷ 0 ∷ (count_words (counts_break l x) ++ count_words (counts_make l x)) ≡ answer_words (answer l (counts_call x))
unfolding answer answer_words counts_break counts_make
counts_words l x zero e = rw (sym e)
counts_words l x (suc k) e = rw (sym e, eqb-suc-zero k)

module _ (l : Lent) (x k : ℕ) where
  pub flip_made : (n : ℕ) → k ≡ flip_refusal l x → n ≡ flip_rules l x
      → (k ∷ n ∷ 0 ∷ 0 ∷ 0 ∷ 0 ∷ [] ≡ answer_words (answer l (flip_call x)))
      × (flip_assignment l x ≡ (left_by l (flip_call x)).assignment)
      × (flip_tallies l x ≡ (left_by l (flip_call x)).tallies)
  unfolding left_by
  flip_made n e f = (flip_words l x k n e f, refl, refl)

  pub counts_made : k ≡ call_refusal l x → (bs ms : List ℕ) → bs ≡ count_words (counts_break l x) → ms ≡ count_words (counts_make l x)
      → (k ∷ 0 ∷ (bs ++ ms) ≡ answer_words (answer l (counts_call x)))
      × (l.assignment ≡ (left_by l (counts_call x)).assignment)
      × (l.tallies ≡ (left_by l (counts_call x)).tallies)
  unfolding left_by
  counts_made e bs ms p q = rw (p, q) (counts_words l x k e, refl, refl)

-- ---- an answer written

-- Words written behind words.
pub next_words : (to : ℕ) (ws vs s : List ℕ) → to + 4 * length ws + 4 * length vs ≤ length s
    → put (to + 4 * length ws) (word_bytes vs) (put to (word_bytes ws) s) ≡ put to (word_bytes (ws ++ vs)) s
next_words to ws vs s h =
    let one : length (word_bytes ws) ≡ 4 * length ws = length_word_bytes ws in
    let two : length (word_bytes vs) ≡ 4 * length vs = length_word_bytes vs in
    rw one at (put_put to (word_bytes ws) (word_bytes vs) s (rw one (omega arith))) ∙ ap (λ bs. put to bs s) (sym (word_bytes_append ws vs))

-- Words written over all of a list.
pub words_whole : (ws s : List ℕ) → length s ≡ 4 * length ws → put 0 (word_bytes ws) s ≡ word_bytes ws
unfolding put
words_whole ws s e = front_whole (word_bytes ws) s (length_word_bytes ws ∙ sym e)

-- A part lent to be written.
pub part_written : (at end : ℕ) (ws : List ℕ) (s : List ℕ) {ys : List ℕ} → ys ≡ word_bytes ws → at + 4 * length ws ≡ end → put_mid at (end - at) s ys ≡ put at (word_bytes ws) s
part_written at end ws s {ys} e n =
    lent_part at end s ys (omega (arith, n)) (ap length e ∙ length_word_bytes ws ∙ omega (arith, n)) ∙ ap (λ bs. put at bs s) e

-- One word is its four bytes.
pub one_word : (w : ℕ) → bytes_of 4 w ≡ word_bytes (w ∷ [])
unfolding word_bytes
one_word w = sym (append-nil (bytes_of 4 w))

pub answer_size_lem : (a : Answer) → length (word_bytes (answer_words a)) ≡ answer_size
unfolding answer_words count_words
answer_size_lem (refused n) = length_word_bytes _
answer_size_lem (accepted n) = length_word_bytes _
answer_size_lem (counted b m) = length_word_bytes _

-- ---- a list of calls

-- What a call leaves, told by the two buffers that it may change.
left_by_lem : (l : Lent) (c : Call) (a t : List ℕ) → a ≡ (left_by l c).assignment → t ≡ (left_by l c).tallies
    → lent l.tables l.terms a t ≡ left_by l c
unfolding left_by
left_by_lem l (flip_call x) a t p q = ap₂ (lent l.tables l.terms) p q
left_by_lem l (counts_call x) a t p q = ap₂ (lent l.tables l.terms) p q

-- The calls of a list of which k are made.
abbrev pub calls_left : (n : ℕ) (s : List ℕ) (k : ℕ) → List Call
calls_left n s k = calls_from (n - k) s (5 * k)

calls_more : (n : ℕ) (s : List ℕ) (k : ℕ) → k < n
    → calls_left n s k ≡ call_of (get_or s (5 * k) 0) (num_at 4 s (5 * k + 1)) ∷ calls_left n s (k + 1)
unfolding calls_from
calls_more n s k h =
    let more : n - k ≡ suc (n - (k + 1)) = omega arith in
    let next : 5 * (k + 1) ≡ 5 * k + 5 = omega arith in
    rw (more, next)

write_more : (l : Lent) (c : Call) (cs : List Call) (to : ℕ) (out : List ℕ) → to + answer_size ≤ length out
    → put (to + answer_size) (answer_bytes (answers (left_by l c) cs)) (put to (word_bytes (answer_words (answer l c))) out) ≡ put to (answer_bytes (answers l (c ∷ cs))) out
unfolding answers answer_bytes
write_more l c cs to out h =
    let bs = word_bytes (answer_words (answer l c)) in
    let rest = answer_bytes (answers (left_by l c) cs) in
    let n : length bs ≡ answer_size = answer_size_lem (answer l c) in
    ap (λ k. put (to + k) rest (put to bs out)) (sym n) ∙ put_put to bs rest out (rw n h)

-- One turn: call k, and its answer written.
module _ (l : Lent) (n : ℕ) (s : List ℕ) (k : ℕ) (c : Call) (a t : List ℕ) (some : k < n) (named : c ≡ call_of (get_or s (5 * k) 0) (num_at 4 s (5 * k + 1)))
    (p : a ≡ (left_by l c).assignment) (q : t ≡ (left_by l c).tallies) where
  pub after_turn : after (lent l.tables l.terms a t) (calls_left n s (k + 1)) ≡ after l (calls_left n s k)
  unfolding after
  after_turn = rw (calls_more n s k some, sym named) (ap (λ m. after m (calls_left n s (k + 1))) (left_by_lem l c a t p q))

  pub answers_turn : (ws out now : List ℕ) → answer_size * n ≤ length out → ws ≡ answer_words (answer l c) → now ≡ put (answer_size * k) (word_bytes ws) out
      → put (answer_size * (k + 1)) (answer_bytes (answers (lent l.tables l.terms a t) (calls_left n s (k + 1)))) now
      ≡ put (answer_size * k) (answer_bytes (answers l (calls_left n s k))) out
  answers_turn ws out now h w e =
      let to = answer_size * k in
      let next : answer_size * (k + 1) ≡ to + answer_size = omega arith in
      let cs = calls_left n s (k + 1) in
      ap (λ o. put o (answer_bytes (answers (lent l.tables l.terms a t) cs)) now) next
      ∙ ap₂ (λ (m : Lent) (o : List ℕ). put (to + answer_size) (answer_bytes (answers m cs)) o) (left_by_lem l c a t p q) (e ∙ ap (λ ws'. put to (word_bytes ws') out) w)
      ∙ write_more l c cs to out (omega arith)
      ∙ ap (λ d. put to (answer_bytes (answers l (d ∷ cs))) out) named
      ∙ ap (λ ds. put to (answer_bytes (answers l ds)) out) (sym (calls_more n s k some))

-- Before the first call and after the last.
calls_first : (s : List ℕ) → calls_left (length s / 5) s 0 ≡ calls_of s
unfolding calls_of
calls_first s = ap (λ n. calls_from n s 0) (sub-zero (length s / 5))

pub answers_first : (l : Lent) (s out : List ℕ) → put 0 (answer_bytes (answers l (calls_left (length s / 5) s 0))) out ≡ front (answer_bytes (answers l (calls_of s))) out
unfolding put
answers_first l s out = ap (λ cs. front (answer_bytes (answers l cs)) out) (calls_first s)

pub after_first : (l : Lent) (s : List ℕ) → after l (calls_left (length s / 5) s 0) ≡ after l (calls_of s)
after_first l s = ap (after l) (calls_first s)

calls_end : (n : ℕ) (s : List ℕ) (k : ℕ) → n ≤ k → calls_left n s k ≡ []
unfolding calls_from
calls_end n s k h = let none : n - k ≡ 0 = omega arith in rw none

pub answers_last : (l : Lent) (n : ℕ) (s : List ℕ) (k : ℕ) (out : List ℕ) → n ≤ k → put (answer_size * k) (answer_bytes (answers l (calls_left n s k))) out ≡ out
unfolding put answers answer_bytes
answers_last l n s k out h = rw (calls_end n s k h, front_none) (take-append-drop (answer_size * k) out)

pub after_last : (l : Lent) (n : ℕ) (s : List ℕ) (k : ℕ) → n ≤ k → after l (calls_left n s k) ≡ l
unfolding after
after_last l n s k h = rw (calls_end n s k h)

-- ---- a call in its chunk of the list

chunk_byte : (n : ℕ) (s : List ℕ) (k j : ℕ) → k < n → j < 5 → get_or (get_or (first_chunks 5 n s) k []) j 0 ≡ get_or s (5 * k + j) 0
chunk_byte zero s k j h l = absurd (omega arith)
chunk_byte (suc n) s zero j h l =
    let z : j ≡ 5 * 0 + j = omega arith in
    get_or-take 5 s j 0 l ∙ ap (λ i. get_or s i 0) z
chunk_byte (suc n) s (suc k) j h l =
    let z : 5 + (5 * k + j) ≡ 5 * suc k + j = omega arith in
    chunk_byte n (drop 5 s) k j (omega arith) l ∙ get_or-drop 5 s (5 * k + j) 0 ∙ ap (λ i. get_or s i 0) z

pub chunk_call : {cs : List (List ℕ)} {n : ℕ} (s : List ℕ) (k : ℕ) → cs ≡ first_chunks 5 n s → k < n → call_of (get_or (get_or cs k []) 0 0) (num_at 4 (get_or cs k []) 1) ≡ call_of (get_or s (5 * k) 0) (num_at 4 s (5 * k + 1))
chunk_call {cs} {n} s k e h =
    let here : 5 * k + 0 ≡ 5 * k = omega arith in
    let kind : get_or (get_or (first_chunks 5 n s) k []) 0 0 ≡ get_or s (5 * k) 0 = chunk_byte n s k 0 h (omega arith) ∙ ap (λ i. get_or s i 0) here in
    let variable : num_at 4 (get_or (first_chunks 5 n s) k []) 1 ≡ num_at 4 s (5 * k + 1) =
    num_at_same 4 _ _ 1 (5 * k + 1) (λ m l. let z : 5 * k + (1 + m) ≡ 5 * k + 1 + m = omega arith in chunk_byte n s k (1 + m) h (omega arith) ∙ ap (λ i. get_or s i 0) z) in
    ap (λ (c : List ℕ). call_of (get_or c 0 0) (num_at 4 c 1)) (ap (λ (d : List (List ℕ)). get_or d k []) e) ∙ ap₂ call_of kind variable
