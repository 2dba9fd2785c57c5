-- `loaded::Counted::starts` meets its contract. The invariant: what was counted so far, and the falls of the rules that are left, are all; and these share out the
-- terms that are left.
-- Assumes nothing.
use Prim.Native.Nat.{◌+◌, ◌-◌, ◌≤◌}
use mathlib.Core.Path.{◌≡◌}
use mathlib.Core.Bool.{true}
use Rattle.words.specs.Words.{word_at}
use Rattle.format.specs.Good.{chain_from}
use Rattle.format.specs.Layout.{rule_first_at, rule_count_at}
use Rattle.loaded.specs.Falls.{starts}
use Rattle.loaded.proofs.Counted.starts.Given as goal

abbrev pub invariant-loop-r : goal.invariant-loop-r
invariant-loop-r l =
    (l.count ≤ l.r) × (l.at ≤ l.self.total)
    × (chain_from (λ r. word_at l.self.tables.now (rule_first_at r)) (λ r. word_at l.self.tables.now (rule_count_at r)) l.self.total l.at l.r (l.self.rules - l.r) ≡ true)
    × (l.count + starts (word_at l.self.terms.now) (λ r. word_at l.self.tables.now (rule_count_at r)) l.above l.at l.r (l.self.rules - l.r)
    ≡ starts (word_at l.self.terms.now) (λ r. word_at l.self.tables.now (rule_count_at r)) 0 0 0 l.self.rules)
