-- Bytes read and written again are those bytes: a number at a time, from a place on.
use Prim.Native.Nat.{ℕ, zero, suc, ◌+◌, ◌*◌, ◌≤◌, ◌<◌}
use mathlib.Core.Path.{◌≡◌, refl, sym, ap, ◌∙◌}
use mathlib.Core.List.{List, ◌∷◌, ◌++◌, map, append_assoc}
use native.Mathlib.Omega.{arith}
use lib.ListN.{length, drop, get_or, take-append-drop}
use Rattle.plpb.specs.Lists.{concat}
use Rattle.words.specs.Words.{num_at, bytes_of, signed, unsigned}
use Rattle.words.proofs.Words.{Below, bytes_of_num_at, num_at_lt, unsigned_signed}
use Rattle.format.specs.File.{length_at, tag_at, term_at, terms_at}
use Rattle.format.specs.Writer.{field, term_bytes}
use native.Mathlib.Nat.{add-zero}
use native.Mathlib.Numerals.{add-one}
use lib.Seq.{drop-cons, drop-drop}

pub length_terms_at : (s : List ℕ) (k at : ℕ) → length (terms_at s at k) ≡ k
unfolding terms_at
length_terms_at s zero at = refl
length_terms_at s (suc k) at = ap suc (length_terms_at s k (at + 6))

-- Bytes read and written again.
module _ (s : List ℕ) (bytes : Below 256 s) where
  pub peel : (k at : ℕ) → at + k ≤ length s → drop at s ≡ bytes_of k (num_at k s at) ++ drop (at + k) s
  peel k at h = rw (bytes_of_num_at k s at bytes h, ← drop-drop k at s) (sym (take-append-drop k (drop at s)))

  pub peel_byte : (at : ℕ) → at < length s → drop at s ≡ num_at 1 s at ∷ drop (at + 1) s
  unfolding num_at
  peel_byte at h = rw (add-zero (get_or s at 0), add-one at) (drop-cons s at 0 h)

  pub peel_signed : (at : ℕ) → at + 4 ≤ length s → drop at s ≡ bytes_of 4 (unsigned (signed (num_at 4 s at))) ++ drop (at + 4) s
  peel_signed at h = rw (unsigned_signed (num_at 4 s at) (num_at_lt 4 s at bytes)) (peel 4 at h)

  pub peel_terms : (k at : ℕ) → at + 6 * k ≤ length s → drop at s ≡ concat (map term_bytes (terms_at s at k)) ++ drop (at + 6 * k) s
  unfolding terms_at concat term_bytes term_at
  peel_terms zero at h = rw (add-zero at)
  peel_terms (suc k) at h =
      let n : at + 2 + 4 ≡ at + 6 = omega arith in
      let m : at + 6 + 6 * k ≡ at + 6 * suc k = omega arith in
      let weight = rw n at (peel_signed (at + 2) (omega arith)) in
      let rest = rw m at (peel_terms k (at + 6) (omega arith)) in
      simp append_assoc
      (peel 2 at (omega arith)
      ∙ ap (λ l. bytes_of 2 (num_at 2 s at) ++ l) (weight ∙ ap (λ l. bytes_of 4 (unsigned (signed (num_at 4 s (at + 2)))) ++ l) rest))

  -- A field, given that its body is.
  pub peel_field :
      (at : ℕ) (body : List ℕ) → at + 3 + length_at s at ≤ length s → length_at s at ≡ length body
      → drop (at + 3) s ≡ body ++ drop (at + 3 + length_at s at) s → drop at s ≡ field (tag_at s at) body ++ drop (at + 3 + length_at s at) s
  unfolding field tag_at length_at
  peel_field at body h n e =
      let m : at + 1 + 2 ≡ at + 3 = omega arith in
      let size = rw m at (peel 2 (at + 1) (omega arith)) in
      let whole = size ∙ ap (λ l. bytes_of 2 (length_at s at) ++ l) e ∙ sym (append_assoc (bytes_of 2 (length_at s at)) body _) in
      rw (← n) (peel_byte at (omega arith) ∙ ap (λ l. num_at 1 s at ∷ l) whole)
