-- `loaded::Counted::section_good` meets its contract. The invariant: what was found so far, and what is left to test, are the whole test, whatever the
-- calls of the test say.
-- Assumes nothing.
use Prim.Native.Nat.{ℕ, ◌+◌, ◌-◌}
use mathlib.Core.Path.{◌≡◌}
use mathlib.Core.Bool.{Bool}
use Rattle.plpb.specs.Lists.{◌and◌}
use Rattle.words.specs.Words.{word_at}
use Rattle.format.specs.Good.{every_from}
use Rattle.loaded.proofs.Counted.section_good.Given as goal

abbrev pub invariant-loop-x : goal.invariant-loop-x
invariant-loop-x g l =
    (good : ℕ → Bool) → ((w : ℕ) (r : Bool) → goal.F-post g l.test w r → r ≡ good w)
    → (l.all and every_from (λ x. good (word_at l.self.tables.now (l.before + x))) l.x (l.self.variables + 1 - l.x))
    ≡ every_from (λ x. good (word_at l.self.tables.now (l.before + x))) 1 l.self.variables
