-- The goals that the search leaves.
use native.Mathlib.Omega.{arith}
use mathlib.Core.Path.{ap}
use lib.ListN.{length}
use Rattle.tables.proofs.Dense.{place_range, placing_end}
use Rattle.statements.proofs.Sums.{sum_none, term_on}
use Rattle.opb_fill.proofs.Terms.{here_and_rest, range_here, range_rest, variable_is, placed_more}
use Rattle.opb_fill.proofs.put_coefficients.Goals as goal

pub put_coefficient-requires : goal.put_coefficient-requires
put_coefficient-requires c =
    let inv = c.loop-term.invariant in
    let term = c.in-Some.ensures in
    let is = variable_is _ _ _ term.1 (range_here _ _ _ term.0 term.1 inv.0) in
    let (a, b) = place_range inv.1 _ _ (here_and_rest _ _ _ term.0 term.1 inv.0) in
    (omega (arith, is, a), omega (arith, is, b), inv.1.long)

pub loop-term-smaller : goal.loop-term-smaller
loop-term-smaller c =
    let text = c.loop-term.text in
    let term = c.in-Some in
    omega (arith, term.ensures.1.rest.at, ap length term.ensures.1.rest.bytes, term.term.rest.within, term_on text.bytes.now text.at term.ensures.0)

pub loop-term-preserved : goal.loop-term-preserved
loop-term-preserved c =
    let inv = c.loop-term.invariant in
    let term = c.in-Some.ensures in (
      range_rest _ _ _ term.0 term.1 inv.0,
      placed_more _ _ _ _ _ _ _ term.0 term.1 inv.0 _ c.signed_word.ensures inv.1 c.put_coefficient.ensures,
    )

pub returns : goal.returns
returns c = placing_end c.loop-term.invariant.1 (sum_none _ _ c.in_default.ensures).0
