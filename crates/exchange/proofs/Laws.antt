-- An answer written word by word, and how long it is.
-- Assumes nothing.
use Prim.Native.Nat.{ℕ, ◌+◌, ◌*◌, ◌-◌, ◌/◌, ◌%◌}
use native.Mathlib.Omega.{arith}
use mathlib.Core.Path.{◌≡◌, refl, ap, ◌∙◌}
use mathlib.Core.List.{List, [], ◌∷◌, ◌++◌}
use lib.ListN.{length}
use mir.Syntax.{w64}
use mir.Val.{SFits, to_z, of_z}
use mir.Facts.{to_z-of_z}
use borrow.Rule.Slice.PartMut.{put_mid}
use Rattle.std.specs.Int.{to_le_bytes}
use Rattle.words.specs.Words.{word_bytes, bytes_of}
use Rattle.words.specs.Writes.{front, put, put_words}
use Rattle.words.proofs.Words.{length_word_bytes}
use Rattle.words.proofs.Writes.{first_words, words_behind, lent_part}
use Rattle.answers.specs.declared.Answer.{Answer as Answered}
use Rattle.exchange.specs.Exchange.{answer_size, bits_of64, halves, answer_words, answer_bytes}

pub length_answer : (r : Answered) → length (answer_bytes r) ≡ answer_size
unfolding answer_bytes answer_words halves
length_answer r = length_word_bytes (answer_words r)

-- The eight bytes of a number are those of its two words.
pub eight_bytes : (v : ℕ) → to_le_bytes w64 v ≡ word_bytes (halves v)
unfolding word_bytes bytes_of halves
eight_bytes v =
    let a : v % 4_294_967_296 % 256 ≡ v % 256 = omega arith in
    let b : v % 4_294_967_296 / 256 % 256 ≡ v / 256 % 256 = omega arith in
    let c : v % 4_294_967_296 / 256 / 256 % 256 ≡ v / 65_536 % 256 = omega arith in
    let d : v % 4_294_967_296 / 256 / 256 / 256 % 256 ≡ v / 16_777_216 % 256 = omega arith in
    let e : v / 4_294_967_296 / 256 ≡ v / 1_099_511_627_776 = omega arith in
    let f : v / 4_294_967_296 / 256 / 256 ≡ v / 281_474_976_710_656 = omega arith in
    let g : v / 4_294_967_296 / 256 / 256 / 256 ≡ v / 72_057_594_037_927_936 = omega arith in
    rw (a, b, c, d, g, f, e) refl

pub lent_halves : (i v : ℕ) (t : List ℕ) {ys : List ℕ} → ys ≡ to_le_bytes w64 v → put_mid (4 * i) (4 * i + 8 - 4 * i) t ys ≡ put_words i (halves v) t
unfolding put_words
lent_halves i v t {ys} e =
    let same : ys ≡ word_bytes (halves v) = e ∙ eight_bytes v in
    let long : length ys ≡ 4 * i + 8 - 4 * i = ap length same ∙ length_word_bytes (halves v) ∙ unfold halves in omega arith in
    lent_part (4 * i) (4 * i + 8) t ys (omega arith) long ∙ ap (λ (b : List ℕ). put (4 * i) b t) same

pub written : (s : List ℕ) (r : Answered) {b : ℕ} {t u v w x : List ℕ} → SFits w64 r.cost → b ≡ bits_of64 (to_z w64 (of_z w64 r.cost))
    → t ≡ put_words 0 (r.refusal ∷ r.ending ∷ []) s → u ≡ put_words 2 (halves b) t → v ≡ put_words 4 (halves r.finds) u
    → w ≡ put_words 6 (halves r.flips) v → x ≡ put_words 8 (halves r.used) w → x ≡ front (answer_bytes r) s
unfolding answer_bytes answer_words halves
written s r {b} {t} fits e one two three four five =
    let head = r.refusal ∷ r.ending ∷ [] in
    let cost = halves (bits_of64 r.cost) in
    let finds = halves r.finds in
    let flips = halves r.flips in
    words_behind s (((head ++ cost) ++ finds) ++ flips) (halves r.used) 8
    (words_behind s ((head ++ cost) ++ finds) flips 6
    (words_behind s (head ++ cost) finds 4
    (words_behind s head cost 2 (one ∙ first_words head s) refl (two ∙ ap (λ (n : ℕ). put_words 2 (halves n) t) (e ∙ ap bits_of64 (to_z-of_z fits)))) refl three)
    refl four)
    refl five
