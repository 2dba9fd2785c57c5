-- The goals that the search leaves.
use Prim.Native.Nat.{◌-◌}
use mathlib.Core.Path.{◌≡◌, refl, sym, ◌∙◌}
use native.Mathlib.Omega.{arith}
use Rattle.format.specs.Good.{term_good}
use Rattle.format.proofs.Bools.{and_first, both}
use Rattle.loaded.proofs.Turns.{every_turn, every_done}
use Rattle.loaded.proofs.Counted.terms_good.Goals as goal

pub loop-i-init : goal.loop-i-init
loop-i-init c =
    let n = c.args.self.total in
    let z : n - 0 ≡ n = omega arith in
    rw z (and_first _ _ refl)

pub loop-i-preserved : goal.loop-i-preserved
unfolding term_good
loop-i-preserved c =
    let at = c.loop-i in
    rw (both, c.term_good-all.ensures, c.word.ensures, c.word-in-loop-i.ensures, c.narrow-variables.ensures)
    (sym (every_turn _ at.all at.i _ c.loop-i-test.true) ∙ at.invariant)

pub returns : goal.returns
returns c = let at = c.loop-i in sym (every_done _ at.all at.i _ (omega arith)) ∙ at.invariant
