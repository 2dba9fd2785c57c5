-- The goals that the search leaves.
use native.Mathlib.Omega.{arith}
use Rattle.numbering.proofs.Coding.{counted_one, coded_one, bit_small, numbering_start, numbering_more, numbering_end, free_small}
use Rattle.numbering.proofs.number.Goals as goal

pub loop-x-init : goal.loop-x-init
loop-x-init c = numbering_start _ _

pub overflow_add-free : goal.overflow_add-free
overflow_add-free c =
    omega (arith, free_small _ _ _ _ _ c.loop-x.invariant, c.from-free.ensures, bit_small c.is_none.result, c.loop-x-test.true, c.requires.0)

pub loop-x-preserved : goal.loop-x-preserved
loop-x-preserved c =
    numbering_more _ _ _ _ _ c.loop-x.invariant (omega (arith, c.loop-x-test.true)) c.requires.0 c.requires.1 c.word.ensures
    (counted_one _ _ _ c.lock_of-lock.ensures c.is_none.ensures c.from-free.ensures) (coded_one _ _ c.lock_of-lock.ensures c.code_of.ensures) c.code_of.type_inv c.write_word.ensures

-- The last variable is coded.
pub returns-2 : goal.returns-2
returns-2 c =
    let all =
    numbering_more _ _ _ _ _ c.loop-x.invariant (omega (arith, c.loop-x-test.true)) c.requires.0 c.requires.1 c.word.ensures
    (counted_one _ _ _ c.lock_of-lock.ensures c.is_none.ensures c.from-free.ensures) (coded_one _ _ c.lock_of-lock.ensures c.code_of.ensures) c.code_of.type_inv c.write_word.ensures in
    numbering_end _ _ _ _ _ all (omega arith)
