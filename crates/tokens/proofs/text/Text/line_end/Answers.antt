-- `Text::line_end` meets its contract.
-- Assumes nothing.
use Prim.Native.Nat.{◌≤◌}
use native.Mathlib.Omega.{arith}
use mathlib.Core.Path.{ap}
use lib.ListN.{length}
use borrow.Author.Rules.{rules}
use borrow.Author.Tests.{tests}
use Rattle.tokens.specs.Tokens.{is_inside}
use Rattle.tokens.proofs.Runs.{run_is}
use Rattle.tokens.proofs.text.Text.line_end.Goals as goal

pub returns : goal.returns
unfolding is_inside
returns c =
    let end = c.past_such.ensures in
    let inside : c.past_such.result.at ≤ length c.args.self.bytes.now = omega (arith, ap length end.same, c.past_such.result.within) in
    record { bytes = end.same; at = run_is is_inside _ _ inside (λ l. let e = end.stop l in search (rules, tests)) _ end.onward (λ k a b. let e = end.passed k a b in search (rules, tests)) }
