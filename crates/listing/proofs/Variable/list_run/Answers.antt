-- The goals that the search leaves.
use Prim.Native.Nat.{◌-◌}
use native.Mathlib.Omega.{arith}
use mathlib.Core.Path.{◌≡◌}
use Rattle.words.specs.Words.{word_at}
use Rattle.format.specs.Layout.{end_at}
use Rattle.recount.proofs.Laid.{tables_long}
use Rattle.columns.proofs.Frames.{only_none}
use Rattle.listing.proofs.Listing.{variables_few, run_begins, run_listed, list_at_end}
use Rattle.listing.proofs.Variable.list_run.Goals as goal

pub loop-k-init : goal.loop-k-init
loop-k-init c =
    let v = c.args.self.now in
    let z : 0 ≡ c.run_of-run.result.start - word_at c.args.self.now.plan.tables.now (end_at (c.args.self.now.x - 1)) = omega (arith, c.run_of-run.ensures.0) in
    (omega (arith, c.run_of-run.ensures.0), omega (arith, c.run_of-run.ensures.0, c.run_of-run.ensures.1, run_begins v.plan.laid v.low v.high), list_at_end z c.requires.1, only_none _ _ _)

pub returns : goal.returns
returns c =
    let v = c.args.self.now in
    let i = c.loop-k.invariant in
    (run_listed v.plan.laid v.low v.high c.requires.0 c.run_of-run.ensures.0 c.run_of-run.ensures.1 i.1 c.loop-k-test.false i.2, i.3)

pub run_of-run-requires : goal.run_of-run-requires
run_of-run-requires c =
    let v = c.args.self.now in
    (v.low, omega (arith, v.high, variables_few v.plan.laid, tables_long _ _ v.plan.laid))
