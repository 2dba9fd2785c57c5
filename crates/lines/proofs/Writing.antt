-- Laws of items written one behind the other into a buffer.
-- Assumes nothing.
use Prim.Native.Nat.{ℕ, ◌+◌, ◌≤◌, ◌<◌}
use native.Mathlib.Omega.{arith}
use mathlib.Core.Path.{◌≡◌, ap, ◌∙◌}
use mathlib.Core.Bool.{cond}
use mathlib.Core.List.{List, [], ◌∷◌, ◌++◌, map}
use lib.ListN.{length, get_or, take, drop, set, length-map, length-set}
use lib.Dec.{eqb}
use lib.Seq.{take_all, length-take-le}
use Rattle.words.specs.Writes.{front, put}
use Rattle.words.proofs.Writes.{put_sets, front_put, put_put, length_put}
use Rattle.numbers.proofs.Taking.{write_more}
use Rattle.lines.specs.Text.{digit}

-- One byte stored is one written.
pub stored : (s : List ℕ) (at b : ℕ) → at < length s → set s at b ≡ put at (b ∷ []) s
stored s at b h = put_sets (b ∷ []) s at (omega arith)

-- A byte stored behind what stands at the front, or behind what was written from a place on.
pub front_more : (o : List ℕ) {t : List ℕ} (xs : List ℕ) (b : ℕ) → t ≡ front xs o → length xs < length t → set t (length xs) b ≡ front (xs ++ (b ∷ [])) o
front_more o {t} xs b e h = stored t (length xs) b h ∙ ap (put (length xs) (b ∷ [])) e ∙ front_put xs (b ∷ []) o

pub put_more :
    (o : List ℕ) {t : List ℕ} (at : ℕ) (xs : List ℕ) (last b : ℕ) → t ≡ put at xs o → last ≡ at + length xs → at + length xs < length o
    → set t last b ≡ put at (xs ++ (b ∷ [])) o
put_more o {t} at xs last b e l h =
    let n : length t ≡ length o = ap length e ∙ length_put at xs o (omega arith) in
    ap (λ (k : ℕ). set t k b) l
    ∙ stored t (at + length xs) b (omega arith)
    ∙ ap (put (at + length xs) (b ∷ [])) e
    ∙ put_put at xs (b ∷ []) o (omega arith)

-- A buffer over which the first i bytes of a list are written.
pub record Copied (xs o t : List ℕ) (i : ℕ) : Type 0 where
  pub within : i ≤ length xs
  pub filled : t ≡ take i xs ++ drop i o
  pub same : length t ≡ length o

module _ {xs o t : List ℕ} {i : ℕ} (h : Copied xs o t i) where
  pub copied_more : (b : ℕ) → i < length xs → length xs ≤ length o → b ≡ get_or xs i 0 → Copied xs o (set t i b) (i + 1)
  copied_more b l room e =
      record {
        within = omega arith;
        filled = ap (λ (s : List ℕ). set s i b) h.filled ∙ write_more xs o i b l (omega arith) e;
        same = length-set t i b ∙ h.same;
      }

  pub copied_all : length xs ≤ i → t ≡ front xs o
  unfolding front
  copied_all l =
      let e : i ≡ length xs = omega (arith, h.within) in
      h.filled ∙ ap (λ (k : ℕ). take k xs ++ drop k o) e ∙ ap (λ (s : List ℕ). s ++ drop (length xs) o) (take_all (length xs) xs (omega arith))

-- The characters of the first n assignment bytes.
abbrev pub character : ℕ → ℕ
character b = cond (eqb b 0) (digit 0) (digit 1)

abbrev pub characters : ℕ → List ℕ → List ℕ
characters n bytes = map character (take n bytes)

pub length_characters : (n : ℕ) (bytes : List ℕ) → n ≤ length bytes → length (characters n bytes) ≡ n
length_characters n bytes h = length-map (take n bytes) character ∙ length-take-le n bytes h
