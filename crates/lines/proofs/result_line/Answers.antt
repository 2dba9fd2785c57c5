-- `lines::result_line` meets its contract: its five items, one behind the other.
-- Assumes nothing.
use mathlib.Core.Path.{◌∙◌, ap}
use mathlib.Core.List.{List, [], ◌∷◌, ◌++◌}
use Prim.Native.Nat.{ℕ}
use lib.ListN.{length}
use Rattle.words.specs.Writes.{front}
use Rattle.lines.specs.Text.{decimal, signed_decimal, ending_of, ending_word}
use Rattle.lines.proofs.Items.{next_item, next_signed, result_items}
use Rattle.lines.proofs.result_line.Goals as goal

pub returns : goal.returns
returns c =
    let a = c.args in
    let o = a.out.now in
    let e = c.put_ending-a in
    let p = c.put_signed-b in
    let q = c.put_number-c in
    let r = c.put_number-d in
    let s = c.put_number in
    let xs = ending_word (ending_of a.ending) ++ (32 ∷ []) in
    let ys = xs ++ (signed_decimal a.cost ++ (32 ∷ [])) in
    let zs = ys ++ (decimal a.finds ++ (32 ∷ [])) in
    let ws = zs ++ (decimal a.flips ++ (32 ∷ [])) in
    let two = next_signed o xs a.cost c.ranges.cost (e.ensures.0, e.ensures.1) p.ensures.0 p.ensures.1 in
    let three = next_item o ys (decimal a.finds ++ (32 ∷ [])) two q.ensures.0 q.ensures.1 in
    let four = next_item o zs (decimal a.flips ++ (32 ∷ [])) three r.ensures.0 r.ensures.1 in
    let all = next_item o ws (decimal a.used ++ (10 ∷ [])) four s.ensures.0 s.ensures.1 in
    let is = result_items (ending_of a.ending) a.cost a.finds a.flips a.used in
    (all.0 ∙ ap (λ (x : List ℕ). front x o) is, all.1 ∙ ap length is)
