-- `clear_hints` meets its contract: the hints are 0, which tells no side.
-- Assumes nothing.
use Prim.Native.Nat.{ℕ, ◌+◌, ◌*◌, ◌-◌, ◌≤◌}
use native.Mathlib.Omega.{arith}
use borrow.Author.Rules.{rules}
use mathlib.Core.Path.{◌≡◌, sym, ap, ◌∙◌}
use mathlib.Core.List.{List}
use lib.ListN.{length, take, drop, replicate, length-take, length-replicate}
use borrow.Rule.Slice.PartMut.{put_mid}
use Rattle.std.proofs.Common.{length-drop}
use Rattle.words.specs.Words.{word_at, word_bytes}
use Rattle.words.specs.Writes.{put}
use Rattle.words.proofs.Writes.{lent_part, word_bytes_zeros}
use Rattle.format.specs.Layout.{mark_size}
use Rattle.columns.specs.Layout.{hint_at, picks_at, column_size}
use Rattle.columns.specs.Columns.{Unhinted}
use Rattle.listing.proofs.Filling.{part_only, zero_word}
use Rattle.preparing.proofs.clear_hints.Goals as goal

-- The part that is filled is that of the hints.
cleared : (s ys : List ℕ) → column_size ≤ length s → ys ≡ replicate 2_048 0 → Unhinted (put_mid mark_size 2_048 s ys)
cleared s ys room e =
    let long : length ys ≡ 2_048 = ap length e ∙ length-replicate {A = ℕ} 2_048 0 in
    let whole : put_mid mark_size 2_048 s ys ≡ put mark_size (word_bytes (replicate 512 0)) s =
    lent_part mark_size (4 * picks_at) s ys (omega arith) long ∙ ap (λ b. put mark_size b s) (e ∙ sym (word_bytes_zeros 512)) in
    record {
      each = λ x l m.
          let zero : word_at (put mark_size (word_bytes (replicate 512 0)) s) (640 + (x - 1)) ≡ 0 = zero_word 640 512 (x - 1) s (omega arith) (omega arith) in
          let here : 640 + (x - 1) ≡ hint_at x = omega arith in
          omega (arith, ap (λ t. word_at t (hint_at x)) whole, rw here at zero);
    }

pub returns : goal.returns
returns c =
    let s = c.args.marks.now in
    let long : length (take 2_048 (drop mark_size s)) ≡ 2_048 = omega (arith, c.requires, length-take 2_048 (drop mark_size s), length-drop mark_size s) in (
      cleared s c.fill.new.self c.requires (c.fill.ensures.after (λ y h. search rules) ∙ ap (λ n. replicate n 0) long),
      part_only (hint_at 1) picks_at _ (omega arith) (omega (arith, c.requires)) (omega (arith, c.requires, c.fill.ensures.len, length-take 2_048 (drop mark_size s), length-drop mark_size s)),
    )
