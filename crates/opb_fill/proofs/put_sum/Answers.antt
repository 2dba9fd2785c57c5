-- The goals that the search leaves.
use native.Mathlib.Omega.{arith}
use mathlib.Core.Path.{ap}
use lib.ListN.{length}
use Rattle.words.proofs.Writes.{lent_long}
use Rattle.statements.proofs.Sums.{term_on}
use Rattle.opb_fill.proofs.Terms.{written_start, written_space, written_more, written_end}
use Rattle.opb_fill.proofs.put_sum.Goals as goal

pub loop-term-init : goal.loop-term-init
loop-term-init c = written_start _ _ c.requires.0 c.requires.1 c.requires.2

pub put_term-requires : goal.put_term-requires
put_term-requires c =
    let t = c.loop-term in
    let term = c.in-Some.ensures in
    omega (arith, lent_long t.end t.out, written_space t.invariant _ term.0 term.1)

pub loop-term-smaller : goal.loop-term-smaller
loop-term-smaller c =
    let text = c.loop-term.text in
    let term = c.in-Some in
    omega (arith, term.ensures.1.rest.at, ap length term.ensures.1.rest.bytes, term.term.rest.within, term_on text.bytes.now text.at term.ensures.0)

pub loop-term-preserved : goal.loop-term-preserved
loop-term-preserved c =
    let term = c.in-Some.ensures in
    written_more c.loop-term.invariant _ term.0 term.1 _ _ c.signed_word.ensures c.put_term.ensures

pub returns : goal.returns
returns c = written_end c.loop-term.invariant c.in_default.ensures
