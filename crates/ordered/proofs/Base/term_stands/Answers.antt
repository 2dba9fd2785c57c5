-- `term_stands` meets its contract, test by test.
-- Assumes nothing.
use Prim.Native.Nat.{◌+◌, ◌<◌}
use native.Mathlib.Omega.{arith}
use Rattle.ordered.proofs.Words.{no_term, other_named, same_named, term_fits}
use Rattle.ordered.proofs.Base.term_stands.Goals as goal

pub returns-then-index-i : goal.returns-then-index-i
returns-then-index-i c = no_term _ _ _ _ c.requires.1 c.term_in-i.ensures c.index.ensures c.if-index-i.true

pub returns-then-word-x : goal.returns-then-word-x
returns-then-word-x c = other_named _ _ _ _ c.requires.1 c.term_in-i.ensures c.index.ensures c.if-index-i.false c.index-2.ensures c.word.ensures c.if-word-x.true

pub returns : goal.returns
returns c =
    same_named _ _ _ _ c.requires.1 c.term_in-i.ensures c.index.ensures c.if-index-i.false c.index-2.ensures c.word.ensures c.if-word-x.false c.word-2.ensures (omega (arith, c.word-2.type_inv))

fits : (c : goal.After-index-2) → c.index-2.result + c.term_in-i.result < 6_000
fits c = term_fits c.args.self.ready c.args.w c.requires.0 c.requires.1 c.index.ensures c.if-index-i.false c.index-2.ensures

pub overflow_add-k : goal.overflow_add-k
overflow_add-k c = omega (arith, fits c)

pub overflow_mul-k : goal.overflow_mul-k
overflow_mul-k c = omega (arith, fits c.before)

pub word-requires : goal.word-requires
word-requires c = omega (arith, fits c.before, c.args.self.ready.body)

pub overflow_mul-k-2 : goal.overflow_mul-k-2
overflow_mul-k-2 c = omega (arith, fits c.before.before.before.before)

pub overflow_add-k-2 : goal.overflow_add-k-2
overflow_add-k-2 c = omega (arith, fits c.before.before.before.before)

pub word-requires-2 : goal.word-requires-2
word-requires-2 c = omega (arith, fits c.before.before.before.before, c.args.self.ready.body)
