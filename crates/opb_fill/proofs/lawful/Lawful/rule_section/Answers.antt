-- The goals that the search leaves.
use native.Mathlib.Omega.{arith}
use mathlib.Core.Path.{sym}
use Rattle.opb_fill.proofs.Filled.{first_reached, going_here, goes_on, rule_start, rule_few, rule_space, rule_first, rule_part, rule_more_terms, rule_more, rule_count_lem, rule_terms, rule_end}
use Rattle.opb_fill.proofs.lawful.Lawful.rule_section.Goals as goal

pub loop-text-init : goal.loop-text-init
loop-text-init c =
    let first = first_reached c.from.result c.from.ensures c.constraint_behind-text.ensures in
    let filled = rule_start _ _ c.args.self.says c.requires.out_len first in
    rw first.bytes (filled, rule_few filled, rule_space filled)

pub put_rule-first-requires : goal.put_rule-first-requires
put_rule-first-requires c =
    let inv = c.loop-text.invariant.0 in
    let l = c.loop-text-test.true in
    (going_here inv.going l, rule_part inv l, omega (arith, rule_first inv))

pub overflow_add-first : goal.overflow_add-first
overflow_add-first c = omega (arith, c.put_rule-first.ensures.0, rule_more_terms c.loop-text.invariant.0 c.loop-text-test.true)

pub loop-text-smaller : goal.loop-text-smaller
loop-text-smaller c = goes_on c.loop-text.text _ c.constraint_behind-text-in-loop-text.ensures c.loop-text-test.true

pub loop-text-preserved : goal.loop-text-preserved
loop-text-preserved c =
    let inv = c.loop-text.invariant.0 in
    let put = c.put_rule-first in
    let next = c.constraint_behind-text-in-loop-text.ensures in
    let filled = rule_more inv c.loop-text-test.true _ _ _ next put.ensures.0 put.ensures.1 in
    rw next.bytes (filled, rule_few filled, rule_space filled)

pub returns : goal.returns
returns c =
    let inv = c.loop-text.invariant.0 in
    let l = c.loop-text-test.false in
    rw (sym inv.bytes) (rule_count_lem inv l, rule_terms inv l, rule_end inv l _ c.clear.ensures)
