-- The goals that the search leaves.
use Prim.Native.Nat.{◌+◌, ◌*◌, ◌≤◌}
use native.Mathlib.Omega.{arith}
use lib.ListN.{length}
use Rattle.objective.proofs.AddedTerms.{adding_more, adding_all}
use Rattle.objective.proofs.added.add_terms.Goals as goal

pub loop-v-preserved : goal.loop-v-preserved
loop-v-preserved c =
    let n = c.index-n.ensures in
    let room : 8 * (c.args.first + c.index-n.result) ≤ length c.args.terms.now = omega (arith, c.requires) in
    adding_more _ _ _ _ room _ _ _ c.loop-v-test.true c.loop-v.invariant _ _ c.add_term-at.ensures.0 c.add_term-at.ensures.1

pub returns : goal.returns
returns c = adding_all _ _ _ _ _ _ _ c.index-n.ensures c.loop-v-test.false c.loop-v.invariant
