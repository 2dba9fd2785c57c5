-- Bytes written over those of a buffer: what stands behind them, and bytes laid down part by part.
-- Assumes nothing.
use Prim.Native.Nat.{ℕ, ◌+◌, ◌-◌, ◌≤◌}
use native.Mathlib.Omega.{arith}
use mathlib.Core.Path.{◌≡◌, sym, ap, ap₂, ◌∙◌}
use mathlib.Core.List.{List, [], ◌++◌}
use lib.ListN.{length, take, drop, length-append}
use lib.Seq.{drop-drop, drop_at}
use Rattle.words.specs.Words.{num_at}
use Rattle.words.specs.Writes.{put}
use Rattle.words.proofs.Words.{num_at_drop}
use Rattle.fields.proofs.Writing.{whole, long, put_none}
use Rattle.words.proofs.Writes.{put_put, length_put}

-- What stands behind what was written stays.
pub drop_put : (from at : ℕ) (bs s : List ℕ) → at ≤ length s → at + length bs ≤ from → drop from (put at bs s) ≡ drop from s
drop_put from at bs s h l =
    let n = at + length bs in
    let e : n + (from - n) ≡ from = omega arith in
    let k = drop_at (take at s ++ bs) (drop n s) n (long at bs s h) in
    rw (← e) (sym (drop-drop (from - n) n (put at bs s)) ∙ ap (drop (from - n)) (ap (drop n) (whole at bs s) ∙ k) ∙ drop-drop (from - n) n s)

-- A number is read alike where the bytes from a place on are alike.
pub same_num : (k from i : ℕ) (s t : List ℕ) → drop from s ≡ drop from t → num_at k s (from + i) ≡ num_at k t (from + i)
same_num k from i s t e = sym (num_at_drop k from s i) ∙ ap (λ l. num_at k l i) e ∙ num_at_drop k from t i

-- ---- laying down: what stands, and what is still to be written, come to the goal

pub record Laying (s₀ : List ℕ) (to : ℕ) (goal s : List ℕ) (end : ℕ) (rest : List ℕ) : Type 0 where
  pub same : length s ≡ length s₀
  pub laid : put end rest s ≡ put to goal s₀
  pub ends : end + length rest ≡ to + length goal

module _ {s₀ : List ℕ} {to : ℕ} {goal s : List ℕ} {end : ℕ} where
  pub laying_more : (bs rest : List ℕ) {all t : List ℕ} {next : ℕ} → Laying s₀ to goal s end all → all ≡ bs ++ rest → end + length bs ≤ length s
      → t ≡ put end bs s → next ≡ end + length bs → Laying s₀ to goal t next rest
  laying_more bs rest l e h p q =
      record {
        same = ap length p ∙ length_put end bs s h ∙ l.same;
        laid = ap₂ (λ m x. put m rest x) q p ∙ put_put end bs rest s h ∙ ap (λ x. put end x s) (sym e) ∙ l.laid;
        ends = omega (arith, q, length-append bs rest, ap length e, l.ends);
      }

  pub laying_done : {all : List ℕ} → Laying s₀ to goal s end all → all ≡ [] → (s ≡ put to goal s₀) × (end ≡ to + length goal)
  laying_done l e =
      (sym (put_none end s) ∙ ap (λ x. put end x s) (sym e) ∙ l.laid, omega (arith, ap length e, l.ends))
