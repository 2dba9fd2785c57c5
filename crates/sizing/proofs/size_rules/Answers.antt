-- The goals that the search leaves.
use Prim.Native.Nat.{◌<◌}
use native.Mathlib.Omega.{arith}
use Rattle.format.specs.Layout.{rule_room}
use Rattle.recount.proofs.Laid.{rules_few, tables_long}
use Rattle.sizing.proofs.Sizing.{before_next, before_all, terms_ready}
use Rattle.sizing.proofs.size_rules.Goals as goal

pub invariant_of-lent : goal.invariant_of-lent
invariant_of-lent c = record { bytes = (terms_ready _ _ c.args.t.now.laid).bytes }

pub loop-r-preserved : goal.loop-r-preserved
loop-r-preserved c =
    let few : c.loop-r.r < rule_room = omega (arith, c.loop-r-test.true, c.index-rules.ensures, rules_few _ _ c.args.t.now.laid) in
    (omega (arith, c.loop-r-test.true), before_next few c.loop-r.invariant.1 c.size_rule.ensures)

pub returns : goal.returns
returns c =
    let b = c.loop-r.invariant.1 in
    (before_all c.args.t.now.laid (omega (arith, c.loop-r-test.false, c.index-rules.ensures)) c.requires b, b.only)

pub index-rules-requires : goal.index-rules-requires
index-rules-requires c = omega (arith, tables_long _ _ c.args.t.now.laid)
