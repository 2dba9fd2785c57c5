-- Laws of numbers in bytes, for every width: each by induction over the width, one byte at a time.
use Prim.Native.Nat.{ℕ, zero, suc, ◌+◌, ◌*◌, ◌-◌, ◌/◌, ◌%◌, ◌^◌, ◌≤◌, ◌<◌}
use mathlib.Core.Path.{◌≡◌, refl, sym, ap, ap₂, ◌∙◌}
use mathlib.Core.Bool.{Bool, true, false, ◌&&◌, cond}
use mathlib.Core.List.{List, [], ◌∷◌, ◌++◌, append_assoc}
use native.Mathlib.Nat.{add-zero, add_assoc, suc-add, add-suc, pow-succ'}
use native.Mathlib.Omega.{arith}
use lib.Dec.{T, ltb, lt→ltb, ltb→lt}
use lib.IntN.{ℤ, pos, negsuc, nat_abs}
use lib.ListN.{length, get_or, take, drop, length-append, length-drop, take-append-drop, get_or-append}
use lib.Pow.{are_bytes}
use lib.Seq.{get_or-append-add, get_or-drop, get_or-take, drop-cons, drop_at, take-add}
use borrow.Author.Tests.{lt-ltb, le-ltb}
use Rattle.words.specs.Words.{num_at, bytes_of, word_bytes, word_at, signed, unsigned}
pub use Rattle.words.specs.Words.{Below}

pub below_nil : (b : ℕ) → 0 < b → Below b []
below_nil b h i = h

pub below_cons : (b x : ℕ) (s : List ℕ) → x < b → Below b s → Below b (x ∷ s)
below_cons b x s h t zero = h
below_cons b x s h t (suc i) = t i

pub below_append : (b : ℕ) (s t : List ℕ) → Below b s → Below b t → Below b (s ++ t)
below_append b [] t p q = q
below_append b (x ∷ s) t p q = below_cons b x (s ++ t) (p 0) (below_append b s t (λ i. p (suc i)) q)

pub below_drop : (b n : ℕ) (s : List ℕ) → Below b s → Below b (drop n s)
below_drop b n s p i = rw (get_or-drop n s i 0) (p (n + i))

-- The kit's own test of bytes says the same.
&&_left : (a b : Bool) → T (a && b) → T a
&&_left true b t = tt
&&_left false b t = t

&&_right : (a b : Bool) → T (a && b) → T b
&&_right true b t = t
&&_right false b t = absurd t

&&_join : (a b : Bool) → T a → T b → T (a && b)
&&_join true b s t = t
&&_join false b s t = s

pub bytes_below : (s : List ℕ) → T (are_bytes s) → Below 256 s
bytes_below [] t = below_nil 256 (omega arith)
bytes_below (x ∷ s) t =
    below_cons 256 x s (ltb→lt x 256 (&&_left (ltb x 256) (are_bytes s) t)) (bytes_below s (&&_right (ltb x 256) (are_bytes s) t))

pub below_bytes : (s : List ℕ) → Below 256 s → T (are_bytes s)
below_bytes [] p = tt
below_bytes (x ∷ s) p = &&_join (ltb x 256) (are_bytes s) (lt→ltb x 256 (p 0)) (below_bytes s (λ i. p (suc i)))

-- The bytes of a number: k of them, each a byte.
pub length_bytes_of : (k v : ℕ) → length (bytes_of k v) ≡ k
unfolding bytes_of
length_bytes_of zero v = refl
length_bytes_of (suc k) v = ap suc (length_bytes_of k (v / 256))

pub bytes_of_below : (k v : ℕ) → Below 256 (bytes_of k v)
unfolding bytes_of
bytes_of_below zero v = below_nil 256 (omega arith)
bytes_of_below (suc k) v = below_cons 256 (v % 256) (bytes_of k (v / 256)) (omega arith) (bytes_of_below k (v / 256))

-- A number is told by its own k bytes, wherever they stand: behind a list, in front of one, in a dropped or a taken one.
pub num_at_same :
    (k : ℕ) (s t : List ℕ) (i j : ℕ) → ((m : ℕ) → m < k → get_or s (i + m) 0 ≡ get_or t (j + m) 0) → num_at k s i ≡ num_at k t j
unfolding num_at
num_at_same zero s t i j h = refl
num_at_same (suc k) s t i j h =
    ap₂ (λ a b. a + 256 * b)
    (rw (add-zero i, add-zero j) at (h 0 (omega arith)))
    (num_at_same k s t (suc i) (suc j) (λ m l. rw (suc-add i m, suc-add j m, ← add-suc i m, ← add-suc j m) (h (suc m) (omega arith))))

pub num_at_append : (k : ℕ) (xs ys : List ℕ) (i : ℕ) → num_at k (xs ++ ys) (length xs + i) ≡ num_at k ys i
num_at_append k xs ys i = num_at_same k _ _ _ _ (λ m l. rw (add_assoc (length xs) i m) (get_or-append-add xs ys (i + m) 0))

pub num_at_inside : (k : ℕ) (xs ys : List ℕ) (i : ℕ) → i + k ≤ length xs → num_at k (xs ++ ys) i ≡ num_at k xs i
num_at_inside k xs ys i h = num_at_same k _ _ _ _ (λ m l. get_or-append xs ys 0 (i + m) (omega arith))

pub num_at_drop : (k n : ℕ) (s : List ℕ) (i : ℕ) → num_at k (drop n s) i ≡ num_at k s (n + i)
num_at_drop k n s i = num_at_same k _ _ _ _ (λ m l. rw (add_assoc n i m) (get_or-drop n s (i + m) 0))

pub num_at_take : (k n : ℕ) (s : List ℕ) (i : ℕ) → i + k ≤ n → num_at k (take n s) i ≡ num_at k s i
num_at_take k n s i h = num_at_same k _ _ _ _ (λ m l. get_or-take n s (i + m) 0 (omega arith))

-- Written and read: the number comes back.
pub num_at_bytes_of : (k v : ℕ) (rest : List ℕ) → v < 256 ^ k → num_at k (bytes_of k v ++ rest) 0 ≡ v
unfolding num_at bytes_of
num_at_bytes_of zero v rest h = omega arith
num_at_bytes_of (suc k) v rest h =
    let l : v / 256 < 256 ^ k = omega (arith, pow-succ' 256 k) in
    let ih = num_at_bytes_of k (v / 256) rest l in
    rw (num_at_append k (v % 256 ∷ []) (bytes_of k (v / 256) ++ rest) 0, ih) (omega arith)

pub num_at_lt : (k : ℕ) (s : List ℕ) (i : ℕ) → Below 256 s → num_at k s i < 256 ^ k
unfolding num_at
num_at_lt zero s i p = omega arith
num_at_lt (suc k) s i p = omega (arith, pow-succ' 256 k, p i, num_at_lt k s (suc i) p)

-- Read and written: the bytes come back.
pub bytes_of_num_at : (k : ℕ) (s : List ℕ) (i : ℕ) → Below 256 s → i + k ≤ length s → bytes_of k (num_at k s i) ≡ take k (drop i s)
unfolding num_at bytes_of
bytes_of_num_at zero s i p h = refl
bytes_of_num_at (suc k) s i p h =
    let n = num_at k s (suc i) in
    let low : (get_or s i 0 + 256 * n) % 256 ≡ get_or s i 0 = omega (arith, p i) in
    let high : (get_or s i 0 + 256 * n) / 256 ≡ n = omega (arith, p i) in
    rw (low, high, drop-cons s i 0 (omega arith), bytes_of_num_at k s (suc i) p (omega arith))

pub word_at_drop : (s : List ℕ) (i : ℕ) → word_at (drop 4 s) i ≡ word_at s (suc i)
unfolding word_at
word_at_drop s i = let e : 4 * suc i ≡ 4 + 4 * i = omega arith in rw e (num_at_drop 4 4 s (4 * i))

-- Words: the one at an index of a written list, with bytes behind it or not.
pub word_at_word_bytes :
    (ws : List ℕ) (rest : List ℕ) (i : ℕ) → Below 4_294_967_296 ws → i < length ws → word_at (word_bytes ws ++ rest) i ≡ get_or ws i 0
unfolding word_at word_bytes
word_at_word_bytes [] rest i p h = absurd (omega arith)
word_at_word_bytes (w ∷ ws) rest zero p h = rw append_assoc (num_at_bytes_of 4 w (word_bytes ws ++ rest) (p 0))
word_at_word_bytes (w ∷ ws) rest (suc i) p h =
    rw (append_assoc, ← word_at_drop, drop_at (bytes_of 4 w) (word_bytes ws ++ rest) 4 (length_bytes_of 4 w))
    (word_at_word_bytes ws rest i (λ j. p (suc j)) (omega arith))

pub length_word_bytes : (ws : List ℕ) → length (word_bytes ws) ≡ 4 * length ws
unfolding word_bytes
length_word_bytes [] = refl
length_word_bytes (w ∷ ws) = rw (length-append (bytes_of 4 w) (word_bytes ws), length_bytes_of 4 w, length_word_bytes ws) (omega arith)

-- Bytes are told by their words.
pub words_determine :
    (ws s : List ℕ) → Below 256 s → 4 * length ws ≤ length s → ((i : ℕ) → i < length ws → word_at s i ≡ get_or ws i 0)
    → take (4 * length ws) s ≡ word_bytes ws
unfolding word_at word_bytes
words_determine [] s p h e = refl
words_determine (w ∷ ws) s p h e =
    let n : 4 * suc (length ws) ≡ 4 + 4 * length ws = omega arith in
    let first : take 4 s ≡ bytes_of 4 w = sym (bytes_of_num_at 4 s 0 p (omega arith)) ∙ ap (bytes_of 4) (e 0 (omega arith)) in
    rw (n, take-add 4 (4 * length ws) s, first)
    (ap (λ r. bytes_of 4 w ++ r)
    (words_determine ws (drop 4 s) (below_drop 256 4 s p) (rw (length-drop 4 s) (omega arith))
    (λ i l. word_at_drop s i ∙ e (suc i) (omega arith))))

-- The words of bytes that begin with written words; the words of any bytes.
pub words_read :
    (ws s : List ℕ) (i : ℕ) → Below 4_294_967_296 ws → take (4 * length ws) s ≡ word_bytes ws → i < length ws → word_at s i ≡ get_or ws i 0
words_read ws s i p e h =
    let whole : s ≡ word_bytes ws ++ drop (4 * length ws) s = sym (rw e at (take-append-drop (4 * length ws) s)) in
    ap (λ t. word_at t i) whole ∙ word_at_word_bytes ws (drop (4 * length ws) s) i p h

pub word_at_lt : (s : List ℕ) (i : ℕ) → Below 256 s → word_at s i < 4_294_967_296
unfolding word_at
word_at_lt s i p = num_at_lt 4 s (4 * i) p

-- Signed numbers and the words that stand for them.
pub signed_unsigned : (z : ℤ) → nat_abs z < 2_147_483_648 → signed (unsigned z) ≡ z
unfolding signed unsigned
signed_unsigned (pos n) h = rw (lt-ltb n 2_147_483_648 h)
signed_unsigned (negsuc n) h =
    rw (le-ltb (4_294_967_295 - n) 2_147_483_648 (omega arith)) (ap negsuc (omega arith))

pub unsigned_signed : (w : ℕ) → w < 4_294_967_296 → unsigned (signed w) ≡ w
unfolding signed unsigned
unsigned_signed w h = go (ltb w 2_147_483_648)
  where
    go : (b : Bool) → unsigned (cond b (pos w) (negsuc (4_294_967_295 - w))) ≡ w
    go true = refl
    go false = omega arith

pub unsigned_lt : (z : ℤ) → nat_abs z < 2_147_483_648 → unsigned z < 4_294_967_296
unfolding unsigned
unsigned_lt (pos n) h = omega arith
unsigned_lt (negsuc n) h = omega arith
