-- The goals that the search leaves.
use borrow.Author.Rules.{rules}
use Prim.Native.Nat.{ℕ, ◌<◌}
use native.Mathlib.Omega.{arith}
use mathlib.Core.Path.{◌≡◌, refl, ap, ◌∙◌}
use mathlib.Core.List.{List, ◌++◌}
use lib.ListN.{length, get_or, take, drop, set, length-set}
use Rattle.words.proofs.Writes.{copied_more}
use Rattle.words.proofs.copy.Goals as goal

pub loop-i-preserved : goal.loop-i-preserved
loop-i-preserved c =
    let at = c.loop-i in
    let from = c.args.from.now in
    let h : at.i < length from = c.loop-i-test.true in
    let k : at.i < length c.args.to.now = omega (arith, c.requires) in (
      omega arith,
      ap (λ (l : List ℕ). set l at.i (get_or from at.i 0)) at.invariant.1 ∙ copied_more from c.args.to.now at.i h k,
      length-set at.to at.i (get_or from at.i 0) ∙ at.invariant.2,
    )
