-- Laws of bytes written over a list of bytes: what stands there afterwards, and how writes one after the other join.
-- Assumes nothing.
use Prim.Native.Nat.{ℕ, zero, suc, ◌+◌, ◌*◌, ◌-◌, ◌/◌, ◌%◌, ◌^◌, ◌≤◌, ◌<◌}
use native.Mathlib.Decide.{dec_lt}
use native.Mathlib.Omega.{arith}
use native.Mathlib.Nat.{add-zero, add-suc, suc-add, le_of_eq, le_refl}
use native.Mathlib.Numerals.{add-one, add-two, add-three}
use mathlib.Core.Path.{◌≡◌, refl, sym, ap, ap₂, ◌∙◌}
use mathlib.Core.Logic.{◌≢◌}
use mathlib.Core.List.{List, [], ◌∷◌, ◌++◌, append_assoc, append-nil}
use lib.ListN.{length, take, drop, get_or, set, replicate, length-append, length-drop, length-replicate, take-append-drop, get_or-replicate, get_or-append}
use lib.Seq.{set_at, append_snoc, take-suc, drop-cons, sets, sets-eq, drop_at, drop-drop, length-take-le, drop-append_seam, drop-append-add, take-append_seam, take-append-le, take-take, drop-length, take_all}
use mir.Syntax.{w16, w32, w64}
use Rattle.std.specs.Int.{from_le_bytes, to_le_bytes}
use borrow.Rule.Slice.PartMut.{mid_of, post_of, put_mid, Post-is, mid_len, same_len_mid}
use Rattle.words.specs.Words.{num_at, bytes_of, word_bytes, word_at}
use Rattle.words.specs.Writes.{front, put, put_words, Wrote}
use Rattle.words.proofs.Words.{num_at_append, num_at_inside, num_at_bytes_of, num_at_take, num_at_drop, length_bytes_of, length_word_bytes}

-- The number that two and four bytes read stand for.
pub num_two : (s : List ℕ) (at : ℕ) → from_le_bytes w16 (get_or s at 0 ∷ get_or s (at + 1) 0 ∷ []) ≡ num_at 2 s at
unfolding num_at
num_two s at = rw add-one (omega arith)

pub num_four : (s : List ℕ) (at : ℕ)
    → from_le_bytes w32 (get_or s at 0 ∷ get_or s (at + 1) 0 ∷ get_or s (at + 2) 0 ∷ get_or s (at + 3) 0 ∷ []) ≡ num_at 4 s at
unfolding num_at
num_four s at = rw (add-one, add-two, add-three) (omega arith)

-- The two low bytes of a number, and the four of one.
pub low_bytes : (v : ℕ) → take 2 (to_le_bytes w64 v) ≡ bytes_of 2 v
unfolding bytes_of
low_bytes v = refl

pub four_bytes : (v : ℕ) → to_le_bytes w32 v ≡ bytes_of 4 v
unfolding bytes_of
four_bytes v =
    let a : v / 65_536 ≡ v / 256 / 256 = omega arith in
    let b : v / 16_777_216 ≡ v / 256 / 256 / 256 = omega arith in
    rw (a, b) refl

-- Bytes stored one after the other.
pub put_sets : (bs s : List ℕ) (at : ℕ) → at + length bs ≤ length s → sets s at bs ≡ put at bs s
unfolding front put
put_sets bs s at h =
    sets-eq bs s at h
    ∙ append_assoc (take at s) bs (drop (at + length bs) s)
    ∙ ap (λ (l : List ℕ). take at s ++ (bs ++ l)) (sym (drop-drop (length bs) at s))

-- Lengths.
pub length_front : (bs s : List ℕ) → length bs ≤ length s → length (front bs s) ≡ length s
unfolding front
length_front bs s h = simp (length-append, length-drop) (omega arith)

pub length_put : (at : ℕ) (bs s : List ℕ) → at + length bs ≤ length s → length (put at bs s) ≡ length s
unfolding front put
length_put at bs s h =
    let a : at ≤ length s = omega arith in
    simp (length-append, length-take-le at s a, length-drop) (omega arith)

-- Nothing written.
pub front_none : (s : List ℕ) → front [] s ≡ s
unfolding front
front_none s = refl

-- A write behind those at the front joins them.
pub front_put : (xs bs s : List ℕ) → put (length xs) bs (front xs s) ≡ front (xs ++ bs) s
unfolding front put
front_put xs bs s =
    ap₂ (λ (x y : List ℕ). x ++ (bs ++ drop (length bs) y)) (take-append_seam xs (drop (length xs) s)) (drop-append_seam xs (drop (length xs) s))
    ∙ ap (λ (l : List ℕ). xs ++ (bs ++ l)) (drop-drop (length bs) (length xs) s)
    ∙ sym (append_assoc xs bs (drop (length xs + length bs) s))
    ∙ ap (λ (n : ℕ). xs ++ bs ++ drop n s) (sym (length-append xs bs))

-- A write at a place is one at the front that writes what stood before it again.
put_is_front : (at : ℕ) (bs s : List ℕ) → at ≤ length s → put at bs s ≡ front (take at s ++ bs) s
unfolding front put
put_is_front at bs s h =
    let e : length (take at s ++ bs) ≡ at + length bs = length-append (take at s) bs ∙ ap (λ (n : ℕ). n + length bs) (length-take-le at s h) in
    ap (λ (l : List ℕ). take at s ++ (bs ++ l)) (drop-drop (length bs) at s)
    ∙ sym (append_assoc (take at s) bs (drop (at + length bs) s))
    ∙ ap (λ (n : ℕ). take at s ++ bs ++ drop n s) (sym e)

-- A write behind another joins it.
pub put_put : (at : ℕ) (xs bs s : List ℕ) → at + length xs ≤ length s → put (at + length xs) bs (put at xs s) ≡ put at (xs ++ bs) s
put_put at xs bs s h =
    let l : at ≤ length s = omega arith in
    let e : length (take at s ++ xs) ≡ at + length xs = length-append (take at s) xs ∙ ap (λ (n : ℕ). n + length xs) (length-take-le at s l) in
    ap (λ (w : List ℕ). put (at + length xs) bs w) (put_is_front at xs s l)
    ∙ ap (λ (n : ℕ). put n bs (front (take at s ++ xs) s)) (sym e)
    ∙ front_put (take at s ++ xs) bs s
    ∙ ap (λ (w : List ℕ). front w s) (append_assoc (take at s) xs bs)
    ∙ sym (put_is_front at (xs ++ bs) s l)

-- A write over what stands before another joins it.
pub front_before : (xs bs s : List ℕ) → length xs ≤ length s → front xs (put (length xs) bs s) ≡ front (xs ++ bs) s
unfolding front put
front_before xs bs s h =
    ap (λ (l : List ℕ). xs ++ l)
    (drop_at (take (length xs) s) (bs ++ drop (length bs) (drop (length xs) s)) (length xs) (length-take-le (length xs) s h)
    ∙ ap (λ (l : List ℕ). bs ++ l) (drop-drop (length bs) (length xs) s))
    ∙ sym (append_assoc xs bs (drop (length xs + length bs) s))
    ∙ ap (λ (n : ℕ). xs ++ bs ++ drop n s) (sym (length-append xs bs))

-- A table filled to its end holds what was written and nothing else.
pub front_whole : (bs s : List ℕ) → length bs ≡ length s → front bs s ≡ bs
unfolding front
front_whole bs s h = ap (λ (l : List ℕ). bs ++ l) (ap (λ (n : ℕ). drop n s) h ∙ drop-length s) ∙ append-nil bs

-- A part of a slice lent to a function that writes over its first bytes.
pub lent_tail : (at : ℕ) (bs t ys : List ℕ) → at ≤ length t → ys ≡ front bs (mid_of at (length t - at) t) → put_mid at (length t - at) t ys ≡ put at bs t
unfolding front put
lent_tail at bs t ys h e =
    let whole : mid_of at (length t - at) t ≡ drop at t =
    take_all (length t - at) (drop at t) (le_of_eq (length-drop at t)) in
    let none : post_of at (length t - at) t ≡ [] = Post-is at (length t) t h ∙ drop-length t in
    ap₂ (λ (a b : List ℕ). take at t ++ (a ++ b)) (e ∙ ap (λ (l : List ℕ). front bs l) whole) none
    ∙ ap (λ (l : List ℕ). take at t ++ l) (append-nil (front bs (drop at t)))

-- A part lent to a function that fills it.
pub lent_part : (at end : ℕ) (t ys : List ℕ) → at ≤ end → length ys ≡ end - at → put_mid at (end - at) t ys ≡ put at ys t
unfolding front put
lent_part at end t ys h e = ap (λ (n : ℕ). take at t ++ (ys ++ drop n (drop at t))) (sym e)

-- A part that a number's bytes are copied over.
pub lent_number : (k at v : ℕ) (t : List ℕ) {ys : List ℕ} → ys ≡ bytes_of k v → put_mid at (at + k - at) t ys ≡ put at (bytes_of k v) t
lent_number k at v t {ys} e =
    let long : length ys ≡ at + k - at = ap length e ∙ length_bytes_of k v ∙ omega arith in
    lent_part at (at + k) t ys (omega arith) long ∙ ap (λ (b : List ℕ). put at b t) e

pub word_bytes_append : (us vs : List ℕ) → word_bytes (us ++ vs) ≡ word_bytes us ++ word_bytes vs
unfolding word_bytes
word_bytes_append [] vs = refl
word_bytes_append (u ∷ us) vs = ap (λ (l : List ℕ). bytes_of 4 u ++ l) (word_bytes_append us vs) ∙ sym (append_assoc (bytes_of 4 u) (word_bytes us) (word_bytes vs))

-- A number that was written is read again; what lies before and behind it is read as before.
pub read_put : (k at v : ℕ) (s : List ℕ) → at ≤ length s → v < 256 ^ k → num_at k (put at (bytes_of k v) s) at ≡ v
unfolding front put
read_put k at v s h l =
    let bs = bytes_of k v ++ drop (length (bytes_of k v)) (drop at s) in
    let e : length (take at s) + 0 ≡ at = omega (arith, length-take-le at s h) in
    ap (λ (n : ℕ). num_at k (take at s ++ bs) n) (sym e)
    ∙ num_at_append k (take at s) bs 0
    ∙ num_at_bytes_of k v (drop (length (bytes_of k v)) (drop at s)) l

pub read_before : (k at i : ℕ) (bs s : List ℕ) → at ≤ length s → i + k ≤ at → num_at k (put at bs s) i ≡ num_at k s i
unfolding front put
read_before k at i bs s h l =
    let e : i + k ≤ length (take at s) = omega (arith, length-take-le at s h) in
    num_at_inside k (take at s) (bs ++ drop (length bs) (drop at s)) i e ∙ num_at_take k at s i l

behind_front : (k : ℕ) (xs s : List ℕ) (i : ℕ) → num_at k (front xs s) (length xs + i) ≡ num_at k s (length xs + i)
unfolding front
behind_front k xs s i = num_at_append k xs (drop (length xs) s) i ∙ num_at_drop k (length xs) s i

pub read_behind : (k at i : ℕ) (bs s : List ℕ) → at ≤ length s → at + length bs ≤ i → num_at k (put at bs s) i ≡ num_at k s i
read_behind k at i bs s h l =
    let n = at + length bs in
    let e : length (take at s ++ bs) ≡ n = length-append (take at s) bs ∙ ap (λ (m : ℕ). m + length bs) (length-take-le at s h) in
    let j : length (take at s ++ bs) + (i - n) ≡ i = omega arith in
    ap (λ (w : List ℕ). num_at k w i) (put_is_front at bs s h)
    ∙ ap (λ (m : ℕ). num_at k (front (take at s ++ bs) s) m) (sym j)
    ∙ behind_front k (take at s ++ bs) s (i - n)
    ∙ ap (λ (m : ℕ). num_at k s m) j

-- A word written over one of a table's words.
pub put_word : (ws : List ℕ) (i v : ℕ) → i < length ws → put (4 * i) (bytes_of 4 v) (word_bytes ws) ≡ word_bytes (set ws i v)
unfolding front put word_bytes bytes_of
put_word [] i v h = absurd (omega arith)
put_word (w ∷ ws) zero v h = refl
put_word (w ∷ ws) (suc i) v h =
    let n : 4 * suc i ≡ suc (suc (suc (suc (4 * i)))) = omega arith in
    rw n
    (ap (λ (l : List ℕ). w % 256 ∷ w / 256 % 256 ∷ w / 256 / 256 % 256 ∷ w / 256 / 256 / 256 % 256 ∷ l) (put_word ws i v (omega arith)))

pub word_bytes_zeros : (k : ℕ) → word_bytes (replicate k 0) ≡ replicate (4 * k) 0
unfolding word_bytes bytes_of
word_bytes_zeros zero = refl
word_bytes_zeros (suc k) =
    let n : 4 * suc k ≡ suc (suc (suc (suc (4 * k)))) = omega arith in
    rw n (ap (λ (l : List ℕ). 0 ∷ 0 ∷ 0 ∷ 0 ∷ l) (word_bytes_zeros k))

-- A table whose front is filled, the rest of it 0.
pub fill_rest :
    (o : List ℕ) {t u : List ℕ} (ws : List ℕ) (k at : ℕ) → t ≡ front (word_bytes ws) o → at ≡ 4 * length ws → length ws ≤ k
    → length o ≡ 4 * k → u ≡ put at (replicate (length o - at) 0) t → u ≡ word_bytes (ws ++ replicate (k - length ws) 0)
fill_rest o ws k at p q l n r =
    let zs : List ℕ = replicate (k - length ws) 0 in
    let m : length o - at ≡ 4 * (k - length ws) = omega arith in
    let e : replicate {A = ℕ} (length o - at) 0 ≡ word_bytes zs = ap (λ (j : ℕ). replicate j 0) m ∙ sym (word_bytes_zeros (k - length ws)) in
    let full : length (word_bytes ws ++ word_bytes zs) ≡ length o =
    length-append (word_bytes ws) (word_bytes zs) ∙ omega (arith, length_word_bytes ws, length_word_bytes zs, length-replicate {A = ℕ} (k - length ws) 0) in
    r
    ∙ ap₂ (λ (a : ℕ) (x : List ℕ). put a (replicate (length o - at) 0) x) (q ∙ sym (length_word_bytes ws)) p
    ∙ ap (λ (b : List ℕ). put (length (word_bytes ws)) b (front (word_bytes ws) o)) e
    ∙ front_put (word_bytes ws) (word_bytes zs) o
    ∙ front_whole (word_bytes ws ++ word_bytes zs) o full
    ∙ sym (word_bytes_append ws zs)

-- A part lent to be filled with 0.
pub lent_clear :
    (at : ℕ) (t ys : List ℕ) → at ≤ length t → ys ≡ replicate (length (mid_of at (length t - at) t)) 0
    → put_mid at (length t - at) t ys ≡ put at (replicate (length t - at) 0) t
lent_clear at t ys h e =
    let n : length (mid_of at (length t - at) t) ≡ length t - at = mid_len at (length t) t (le_refl (length t)) in
    let z : length ys ≡ length t - at = ap length e ∙ length-replicate {A = ℕ} _ 0 ∙ n in
    lent_part at (length t) t ys h z ∙ ap (λ (b : List ℕ). put at b t) (e ∙ ap (λ (k : ℕ). replicate k 0) n)

-- How long a lent part is, and that the whole keeps its length when the part comes back cleared.
pub lent_long : (at : ℕ) (t : List ℕ) → length (mid_of at (length t - at) t) ≡ length t - at
lent_long at t = mid_len at (length t) t (le_refl (length t))

pub clear_same :
    (at : ℕ) (t ys : List ℕ) → ys ≡ replicate (length (mid_of at (length t - at) t)) 0 → length (put_mid at (length t - at) t ys) ≡ length t
clear_same at t ys e = same_len_mid at (length t - at) t ys (ap length e ∙ length-replicate {A = ℕ} _ 0)

-- ---- words behind words

pub one_word : (i v : ℕ) (s : List ℕ) → put (4 * i) (bytes_of 4 v) s ≡ put_words i (v ∷ []) s
unfolding put_words word_bytes
one_word i v s = ap (λ bs. put (4 * i) bs s) (sym (append-nil (bytes_of 4 v)))

pub no_words : (i : ℕ) (s : List ℕ) → put_words i [] s ≡ s
unfolding put_words word_bytes put front
no_words i s = take-append-drop (4 * i) s

pub words_next :
    (i : ℕ) (us vs s : List ℕ) → 4 * (i + length us) ≤ length s → put_words (i + length us) vs (put_words i us s) ≡ put_words i (us ++ vs) s
unfolding put_words
words_next i us vs s h =
    let n : 4 * (i + length us) ≡ 4 * i + length (word_bytes us) = omega (arith, length_word_bytes us) in
    rw (n, word_bytes_append us vs) (put_put (4 * i) (word_bytes us) (word_bytes vs) s (omega arith))

pub length_put_words : (i : ℕ) (ws s : List ℕ) → 4 * (i + length ws) ≤ length s → length (put_words i ws s) ≡ length s
unfolding put_words
length_put_words i ws s h = length_put (4 * i) (word_bytes ws) s (omega (arith, length_word_bytes ws))

-- Words written one behind the other fill a table from its front.
pub first_words : (ws s : List ℕ) → put_words 0 ws s ≡ front (word_bytes ws) s
unfolding put_words put
first_words ws s = refl

pub words_behind :
    (o us vs : List ℕ) (i : ℕ) {s t : List ℕ} → s ≡ front (word_bytes us) o → i ≡ length us → t ≡ put_words i vs s → t ≡ front (word_bytes (us ++ vs)) o
unfolding put_words
words_behind o us vs i p q r =
    let n : 4 * i ≡ length (word_bytes us) = omega (arith, length_word_bytes us) in
    r
    ∙ ap₂ (λ (k : ℕ) (x : List ℕ). put k (word_bytes vs) x) n p
    ∙ front_put (word_bytes us) (word_bytes vs) o
    ∙ ap (λ (x : List ℕ). front x o) (sym (word_bytes_append us vs))

-- ---- copied bytes

pub copied_more :
    (s t : List ℕ) (i : ℕ) → i < length s → i < length t → set (take i s ++ drop i t) i (get_or s i 0) ≡ take (i + 1) s ++ drop (i + 1) t
copied_more s t i h k =
    rw (add-one, drop-cons t i 0 k, take-suc s i 0 h, append_snoc)
    (set_at (take i s) (get_or t i 0) (drop (suc i) t) (get_or s i 0) i (length-take-le i s (omega arith)))

-- The first n bytes of a slice, copied over the first of another.
pub copied_first : (n : ℕ) (s o : List ℕ) {t : List ℕ} → n ≤ length s → t ≡ take n s ++ drop (length (take n s)) o → t ≡ take n s ++ drop n o
copied_first n s o h e = e ∙ ap (λ k. take n s ++ drop k o) (length-take-le n s h)

-- What stands past a write is as it was.
pub drop_put : (n at : ℕ) (bs s : List ℕ) → at + length bs ≤ n → n ≤ length s → drop n (put at bs s) ≡ drop n s
unfolding put front
drop_put n at bs s h k =
    let m = n - (at + length bs) in
    let room : at ≤ length s = omega arith in
    let first : length (take at s) + (length bs + m) ≡ n = omega (arith, length-take-le at s room) in
    let last : at + (length bs + m) ≡ n = omega arith in
    ap (λ i. drop i (take at s ++ (bs ++ drop (length bs) (drop at s)))) (sym first)
    ∙ drop-append-add (take at s) (bs ++ drop (length bs) (drop at s)) (length bs + m)
    ∙ drop-append-add bs (drop (length bs) (drop at s)) m
    ∙ drop-drop m (length bs) (drop at s)
    ∙ drop-drop (length bs + m) at s
    ∙ ap (λ i. drop i s) last

pub put_beside : (s : List ℕ) (i j v : ℕ) → 4 * i + 4 ≤ length s → j ≢ i → word_at (put (4 * i) (bytes_of 4 v) s) j ≡ word_at s j
unfolding word_at
put_beside s i j v h n = at (dec_lt j i)
  where
    at : Dec (j < i) → num_at 4 (put (4 * i) (bytes_of 4 v) s) (4 * j) ≡ num_at 4 s (4 * j)
    at (yes l) = read_before 4 (4 * i) (4 * j) (bytes_of 4 v) s (omega arith) (omega arith)
    at (no l) = read_behind 4 (4 * i) (4 * j) (bytes_of 4 v) s (omega arith) (rw (length_bytes_of 4 v) (omega arith))

-- .. and what stands before it.
pub take_put : (n at : ℕ) (bs s : List ℕ) → n ≤ at → at ≤ length s → take n (put at bs s) ≡ take n s
unfolding put front
take_put n at bs s h k =
    take-append-le n (take at s) (bs ++ drop (length bs) (drop at s)) (omega (arith, length-take-le at s k)) ∙ take-take n at s h

pub word_wrote : (i v : ℕ) (s t : List ℕ) → 4 * i + 4 ≤ length s → v < 4_294_967_296 → t ≡ put_words i (v ∷ []) s → Wrote i v s t
word_wrote i v s t h k e = rw (e, ← one_word i v s) wrote
  where
    long : length (bytes_of 4 v) ≡ 4
    long = length_bytes_of 4 v

    wrote : Wrote i v s (put (4 * i) (bytes_of 4 v) s)
    wrote = record {
      here = unfold word_at in read_put 4 (4 * i) v s (omega arith) k;
      others = λ j n. put_beside s i j v h n;
      size = length_put (4 * i) (bytes_of 4 v) s (omega (arith, long));
      before = λ n l. take_put n (4 * i) (bytes_of 4 v) s l (omega arith);
      beyond = λ n l u. drop_put n (4 * i) (bytes_of 4 v) s (omega (arith, long)) u;
    }

-- ---- words of 0

zero_num : (k : ℕ) (s : List ℕ) (i : ℕ) → ((m : ℕ) → m < k → get_or s (i + m) 0 ≡ 0) → num_at k s i ≡ 0
unfolding num_at
zero_num zero s i h = refl
zero_num (suc k) s i h =
    let first : get_or s i 0 ≡ 0 = rw (add-zero i) at (h 0 (omega arith)) in
    let rest = zero_num k s (suc i) (λ m l. rw (suc-add i m, ← add-suc i m) (h (suc m) (omega arith))) in
    omega (arith, first, rest)

pub zero_word : (k : ℕ) (ys rest : List ℕ) (i : ℕ) → ys ≡ replicate k 0 → 4 * i + 4 ≤ k → word_at (ys ++ rest) i ≡ 0
unfolding word_at
zero_word k ys rest i e h =
    let long : length ys ≡ k = ap length e ∙ length-replicate {A = ℕ} k 0 in
    zero_num 4 (ys ++ rest) (4 * i)
    (λ m l. get_or-append ys rest 0 (4 * i + m) (omega arith) ∙ ap (λ s. get_or s (4 * i + m) 0) e ∙ get_or-replicate k (4 * i + m) 0 0 (omega arith))
