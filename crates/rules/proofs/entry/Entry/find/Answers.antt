-- The goals that the search leaves.
use Rattle.rules.proofs.Finding.{found_start, found_here, found_other, found_end}
use Rattle.rules.proofs.entry.Entry.find.Goals as goal

pub loop-k-init : goal.loop-k-init
loop-k-init c = found_start _ _ _ _

pub loop-k-preserved-then-word-x : goal.loop-k-preserved-then-word-x
loop-k-preserved-then-word-x c =
    let now = c.loop-k in
    found_here _ _ _ _ _ _ c.loop-k-test.true now.auto.k now.invariant _ c.word.ensures c.if-word-x.true

pub loop-k-preserved : goal.loop-k-preserved
loop-k-preserved c =
    let now = c.loop-k in
    found_other _ _ _ _ _ _ c.loop-k-test.true now.auto.k now.invariant _ c.word.ensures c.if-word-x.false

pub returns : goal.returns
returns c = found_end _ _ _ _ _ _ c.loop-k-test.false c.loop-k.invariant
