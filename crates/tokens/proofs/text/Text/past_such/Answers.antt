-- `Text::past_such` meets its contract: the library's `position` tells the first byte that is not such, and those before it are.
-- Assumes nothing.
use Rattle.std.proofs.Common.{◌≡◌, ℕ, true, false, ◌+◌, ◌-◌, length, get_or, take, drop}
use native.Mathlib.Omega.{arith}
use mathlib.Core.Path.{ap, subst, ◌∙◌}
use borrow.Author.Rules.{rules}
use borrow.Author.Tests.{tests}
use Rattle.std.proofs.lemmas.Iterator.{IsFirst-from_position, YieldsList-from_slice}
use Rattle.tokens.proofs.Runs.{rest_at, all_before}
use Rattle.tokens.proofs.text.Text.past_such.Goals as goal

pub returns-clause-passed : goal.returns-clause-passed
returns-clause-passed g c k a b =
    let s = c.args.self.bytes.now in
    let at = c.args.self.at in
    let rest = take (length s - at) (drop at s) in
    let no : ℕ → Type 0 = λ x. goal.F-post g c.args.such x false in
    let yes : ℕ → Type 0 = λ x. goal.F-post g c.args.such x true in
    let first =
    IsFirst-from_position _ _ c.position.result no yes c.position.ensures.ran
    (YieldsList-from_slice _ c.iter.ensures.rest)
    (λ x q k. search (rules, tests))
    (λ x q k. search (rules, tests)) in
    let p = all_before no yes rest (length rest) c.position.result first (k - at) 0 (omega arith) (omega (arith, c.unwrap_or-passed.ensures)) in
    let e : at + (k - at) ≡ k = omega arith in
    subst yes (rest_at s at (k - at) ∙ ap (λ k. get_or s k 0) e) p
