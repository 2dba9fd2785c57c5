-- `exact_difference` meets its contract: the entries of the row above, below the cap, are exact, and so are both binomials made of them.
-- Assumes nothing.
use borrow.Author.Rules.{rules}
use Prim.Native.Nat.{◌-◌}
use mathlib.Core.Path.{◌∙◌, ap₂}
use Rattle.plpb.specs.Count.{capped}
use Rattle.counting.proofs.Difference.{smaller_row, alone, ordered}
use Rattle.counting.proofs.binomial.exact_difference.Goals as goal

pub returns-then-m-k : goal.returns-then-m-k
returns-then-m-k c = c.from.ensures ∙ alone _ _ _ _ c.if-m-k.true c.absorbed-above.ensures

pub absorbed-requires : goal.absorbed-requires
absorbed-requires c =
    let given = c.requires in
    let row = smaller_row _ _ _ _ _ given.3 given.4 (c.rank.ensures.0 ∙ c.binomial-before.ensures) in
    (search rules, search rules, search rules, row.1, row.0)

pub overflow_sub-above : goal.overflow_sub-above
overflow_sub-above c = ordered _ _ _ _ _ c.absorbed-above.ensures c.absorbed.ensures

pub returns : goal.returns
returns c =
    c.from-2.ensures
    ∙ ap₂ (λ a b. capped (a - b)) c.absorbed-above.ensures c.absorbed.ensures
