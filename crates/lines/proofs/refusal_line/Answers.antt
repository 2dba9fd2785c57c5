-- `lines::refusal_line` meets its contract: its three items, one behind the other.
-- Assumes nothing.
use mathlib.Core.Path.{◌∙◌, ap}
use mathlib.Core.List.{List, [], ◌∷◌, ◌++◌}
use Prim.Native.Nat.{ℕ}
use lib.ListN.{length}
use Rattle.words.specs.Writes.{front}
use Rattle.lines.specs.Text.{text, decimal}
use Rattle.lines.proofs.Items.{next_item, refusal_items}
use Rattle.lines.proofs.refusal_line.Goals as goal

pub returns : goal.returns
unfolding text
returns c =
    let a = c.args in
    let o = a.out.now in
    let w = c.put_word-a in
    let p = c.put_number-b in
    let q = c.put_number in
    let first = text "refused" ++ (32 ∷ []) in
    let second = decimal a.number ++ (32 ∷ []) in
    let two = next_item o first second (w.ensures.0, w.ensures.1) (rw c.from.ensures at p.ensures.0) (rw c.from.ensures at p.ensures.1) in
    let all = next_item o (first ++ second) (decimal a.offset ++ (10 ∷ [])) two q.ensures.0 q.ensures.1 in
    let is = refusal_items a.number a.offset in
    (all.0 ∙ ap (λ (x : List ℕ). front x o) is, all.1 ∙ ap length is)
