-- A file rewritten whole: its front, its clauses and its end, each joined to what was written before.
-- Assumes nothing.
use Prim.Native.Nat.{ℕ, ◌+◌, ◌-◌, ◌≤◌}
use native.Mathlib.Omega.{arith}
use mathlib.Core.Path.{◌≡◌, sym, ap, ◌∙◌}
use mathlib.Core.List.{List, [], ◌∷◌, ◌++◌, append_assoc}
use lib.ListN.{length, replicate, length-append, length-replicate}
use borrow.Rule.Slice.PartMut.{mid_of, put_mid}
use Rattle.plpb.specs.Plan.{Plan}
use Rattle.words.specs.Words.{bytes_of}
use Rattle.words.specs.Writes.{put}
use Rattle.words.proofs.Words.{length_bytes_of}
use Rattle.words.proofs.Writes.{length_put, lent_clear, front_whole}
use Rattle.format.specs.Writer.{field}
use Rattle.format.specs.Tables.{pad_with, pad_to}
use Rattle.format.proofs.Places.{length_field}
use Rattle.squeezed.specs.Squeezed.{Becomes}
use Rattle.rewriting.specs.Written.{clauses_written}
use Rattle.fields.proofs.Writing.{put_on, put_before}
use Rattle.rewriting.proofs.Clausewise.{head_put, head_long}
use Rattle.squeeze.specs.Rewritten.{front_bytes, file_bytes}

-- ---- the fields 01 and 02

module _ (s : List ℕ) (v : ℕ) (ts : List ℕ) where
  second : {size : ℕ} → size ≡ length ts → (2 ∷ bytes_of 2 size) ++ ts ≡ field 2 ts
  unfolding field
  second e = ap (λ n. (2 ∷ bytes_of 2 n) ++ ts) e

  first : (1 ∷ bytes_of 2 2) ++ (bytes_of 2 v ++ field 2 ts) ≡ field 1 (bytes_of 2 v) ++ field 2 ts
  unfolding field
  first =
      ap (λ n. (1 ∷ bytes_of 2 n) ++ (bytes_of 2 v ++ field 2 ts)) (sym (length_bytes_of 2 v))
      ∙ ap (λ l. 1 ∷ l) (sym (append_assoc (bytes_of 2 (length (bytes_of 2 v))) (bytes_of 2 v) (field 2 ts)))

  pub front_laid : {a b c d : List ℕ} {size end : ℕ} → 8 ≤ length s → a ≡ put 8 ts s → end ≡ 8 + length ts → size ≡ end - 8
      → b ≡ put 5 (2 ∷ bytes_of 2 size) a → c ≡ put 3 (bytes_of 2 v) b → d ≡ put 0 (1 ∷ bytes_of 2 2) c
      → (d ≡ put 0 (field 1 (bytes_of 2 v) ++ field 2 ts) s) × (end ≡ length (field 1 (bytes_of 2 v) ++ field 2 ts))
  front_laid {a} {b} {c} {d} {size} {end} h p q r x y z =
      let two = length_bytes_of 2 v in
      let n : size ≡ length ts = omega arith in
      let second-laid = put_before s 5 (2 ∷ bytes_of 2 size) ts (omega (arith, length_bytes_of 2 size)) (omega (arith, length_bytes_of 2 size)) p x
      ∙ ap (λ bs. put 5 bs s) (second n) in
      let number-laid = put_before s 3 (bytes_of 2 v) (field 2 ts) (omega arith) (omega arith) second-laid y in
      let laid = put_before s 0 (1 ∷ bytes_of 2 2) (bytes_of 2 v ++ field 2 ts) (omega (arith, length_bytes_of 2 2)) (omega (arith, length_bytes_of 2 2)) number-laid z in (
        laid ∙ ap (λ bs. put 0 bs s) first,
        omega (arith, length-append (field 1 (bytes_of 2 v)) (field 2 ts), length_field 1 (bytes_of 2 v), length_field 2 ts),
      )

-- ---- the end

pub end_laid : (s : List ℕ) (at : ℕ) {t : List ℕ} (ys : List ℕ) → at + 3 ≤ length s → t ≡ put at (5 ∷ bytes_of 2 0) s
    → ys ≡ replicate (length (mid_of (at + 3) (length t - (at + 3)) t)) 0
    → put_mid (at + 3) (length t - (at + 3)) t ys ≡ put at (field 5 [] ++ replicate (length s - (at + 3)) 0) s
end_laid s at {t} ys h p z =
    let long = head_long 5 in
    let head = head_put 5 at s p in
    let same : length t ≡ length s = ap length head ∙ length_put at (field 5 []) s (omega arith) in
    let clear = lent_clear (at + 3) t ys (omega arith) z ∙ ap (λ k. put (at + 3) (replicate (k - (at + 3)) 0) t) same in
    put_on s at (field 5 []) (replicate (length s - (at + 3)) 0) (omega arith) head (ap (λ k. at + k) (sym long)) clear

-- ---- the whole

put_all : (bs s : List ℕ) → length bs ≡ length s → put 0 bs s ≡ bs
unfolding put
put_all bs s h = front_whole bs s h

module _ (s : List ℕ) (f : ℕ → Becomes) (v : ℕ) (p : Plan) where
  abbrev head : List ℕ
  head = front_bytes f v p

  abbrev body : List ℕ
  body = clauses_written f p.clauses

  pub file_laid : {a b c : List ℕ} {k end : ℕ} → length head ≤ length s → a ≡ put 0 head s → k ≡ length head → b ≡ put k body a → end ≡ k + length body
      → end + 3 ≤ length a → c ≡ put end (field 5 [] ++ replicate (length b - (end + 3)) 0) b
      → (c ≡ pad_to (length s) (file_bytes f v p)) × (end + 3 ≡ length (file_bytes f v p))
  unfolding file_bytes pad_with
  file_laid {a} {b} {c} {k} {end} short p₁ q₁ p₂ q₂ room p₃ =
      let whole = head ++ body ++ field 5 [] in
      let n = length-append head body in
      let m = length-append (head ++ body) (field 5 []) in
      let three = head_long 5 in
      let fits : 0 + length head ≤ length s = omega arith in
      let same-a : length a ≡ length s = ap length p₁ ∙ length_put 0 head s fits in
      let same-b : length b ≡ length s = ap length p₂ ∙ length_put k body a (omega arith) ∙ same-a in
      let zeros = replicate {A = ℕ} (length b - (end + 3)) 0 in
      let laid = put_on s 0 head body fits p₁ (omega arith) p₂ in
      let all = put_on s 0 (head ++ body) (field 5 [] ++ zeros) (omega arith) laid (omega arith) p₃ in
      let is : (head ++ body) ++ (field 5 [] ++ zeros) ≡ whole ++ zeros = sym (append_assoc (head ++ body) (field 5 []) zeros) in
      let long : length (whole ++ zeros) ≡ length s = omega (arith, length-append whole zeros, length-replicate {A = ℕ} (length b - (end + 3)) 0) in
      let left : length b - (end + 3) ≡ length s - length whole = omega arith in
      (all ∙ ap (λ bs. put 0 bs s) is ∙ put_all (whole ++ zeros) s long ∙ ap (λ j. whole ++ replicate j 0) left, omega arith)
