-- The goals that the search leaves.
use Prim.Native.Nat.{ℕ, ◌+◌, ◌-◌, ◌≤◌}
use mathlib.Core.Path.{◌≡◌, refl, sym, ◌∙◌}
use native.Mathlib.Omega.{arith}
use Rattle.words.specs.Words.{word_at}
use Rattle.format.proofs.Bools.{and_first, both}
use Rattle.format.proofs.Good.{zeros_are}
use Rattle.loaded.proofs.Turns.{every_turn, every_done}
use Rattle.loaded.proofs.Counted.section_good.Goals as goal

pub loop-x-init : goal.loop-x-init
loop-x-init g c = λ good e.
    let n = c.args.self.variables in
    let z : n + 1 - 1 ≡ n = omega arith in
    rw z (and_first _ _ refl)

pub loop-x-preserved : goal.loop-x-preserved
loop-x-preserved g c = λ good e.
    let at = c.loop-x in
    rw (both, e _ _ c.test-all.ensures, c.word.ensures)
    (sym (every_turn (λ (x : ℕ). good (word_at c.args.self.tables.now (c.args.before + x))) at.all at.x _ c.loop-x-test.true) ∙ at.invariant good e)

pub returns : goal.returns
returns g c = λ good e.
    let at = c.loop-x in
    let done : c.args.self.variables + 1 ≤ at.x = omega arith in
    let n : c.args.before + 1 + 512 - (c.args.before + 1 + c.args.self.variables) ≡ 512 - c.args.self.variables = omega arith in
    let all = sym (every_done (λ (x : ℕ). good (word_at c.args.self.tables.now (c.args.before + x))) at.all at.x _ done) ∙ at.invariant good e in
    rw (both, zeros_are _ _ _ _ c.zeros.ensures, n, all)
