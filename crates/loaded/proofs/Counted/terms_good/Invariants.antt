-- `loaded::Counted::terms_good` meets its contract. The invariant: what was found so far, and what is left to test, are the whole test.
-- Assumes nothing.
use Prim.Native.Nat.{◌-◌}
use mathlib.Core.Path.{◌≡◌}
use Rattle.plpb.specs.Lists.{◌and◌}
use Rattle.words.specs.Words.{word_at}
use Rattle.format.specs.Good.{every_from, term_good}
use Rattle.loaded.proofs.Counted.terms_good.Given as goal

abbrev pub invariant-loop-i : goal.invariant-loop-i
invariant-loop-i l =
    (l.all and every_from (term_good (word_at l.self.terms.now) l.self.variables 0) l.i (l.self.total - l.i)) ≡ every_from (term_good (word_at l.self.terms.now) l.self.variables 0) 0 l.self.total
