-- The goals that the search leaves.
use mathlib.Core.Bool.{not}
use mathlib.Core.Path.{ap}
use mathlib.Core.Path.{sym, ◌∙◌}
use native.Mathlib.Omega.{arith}
use Rattle.loaded.proofs.Turns.{chain_turn, chain_refused, chain_done, link_fits}
use Rattle.loaded.proofs.Counted.chain.Goals as goal

pub returns-then-not-link_good : goal.returns-then-not-link_good
returns-then-not-link_good g c =
    let at = c.loop-i in
    sym
    (chain_refused _ _ _ _ _ c.index.ensures c.index-count.ensures c.link_good.ensures _
    c.loop-i-test.true (ap not c.if-not-link_good.true))
    ∙ at.invariant.2

pub overflow_add-at : goal.overflow_add-at
overflow_add-at g c = omega (arith, link_fits _ _ _ _ c.link_good.ensures c.loop-i.invariant.1 (ap not c.if-not-link_good.false))

pub loop-i-preserved : goal.loop-i-preserved
loop-i-preserved g c =
    let at = c.loop-i in (
      omega arith,
      link_fits _ _ _ _ c.link_good.ensures c.loop-i.invariant.1 (ap not c.if-not-link_good.false),
      sym
          (chain_turn _ _ _ _ _ c.index.ensures c.index-count.ensures c.link_good.ensures _
          c.loop-i-test.true (ap not c.if-not-link_good.false))
          ∙ at.invariant.2,
    )

pub returns : goal.returns
returns g c = let at = c.loop-i in sym (chain_done _ _ _ at.at at.i _ (omega arith)) ∙ at.invariant.2
