-- `division::Stakes::any_bad` meets its contract: each stake is asked, with its place.
-- Assumes nothing.
use mathlib.Core.Path.{ap, ◌∙◌}
use borrow.Author.Rules.{rules}
use borrow.Author.Tests.{tests}
use Rattle.std.specs.Slice.Iter.{iter_rest}
use Rattle.std.proofs.lemmas.Iterator.{YieldsList-from_slice}
use Rattle.std.proofs.lemmas.Iterator.Consumers.{YieldsList-from_enumerate}
use Rattle.std.proofs.lemmas.Iterator.Search.{any_from_yields_List}
use Rattle.division.specs.Eight.{bad_at}
use Rattle.division.proofs.Stepwise.{bad_each}
use Rattle.division.proofs.Stakes.any_bad.Goals as goal

pub returns : goal.returns
returns c =
    let s = c.args.self in
    any_from_yields_List (λ p. bad_at s.count p.0 p.1) _ _ c.any.result c.any.ensures.ran (YieldsList-from_enumerate {s = c.enumerate.result} (YieldsList-from_slice s.stakes (ap iter_rest c.enumerate.ensures.source ∙ c.iter.ensures.rest)) c.enumerate.ensures.count) (λ i b q e. search (rules, tests))
    ∙ bad_each s.count 0 s.stakes
