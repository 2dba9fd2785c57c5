-- `first_call` meets its contract: the copied tables hold the plan, so that the call can be made.
-- Assumes nothing.
use native.Mathlib.Omega.{arith}
use lib.Seq.{length-take-le}
use Rattle.words.proofs.Writes.{copied_first}
use Rattle.finds.proofs.Whole.{copied_startable}
use Rattle.first.proofs.first_call.Goals as goal

pub invariant_of-t : goal.invariant_of-t
invariant_of-t c =
    record {
      laid =
          (copied_startable c.requires (copied_first _ _ _ c.requires.long c.copy.ensures) (copied_first _ _ _ c.requires.long_terms c.copy-2.ensures)).ready.laid;
    }

pub copy-requires : goal.copy-requires
copy-requires c = rw (length-take-le _ c.args.plan.now c.requires.long) c.requires.work_long

pub copy-requires-2 : goal.copy-requires-2
copy-requires-2 c = rw (length-take-le _ c.args.plan_terms.now c.requires.long_terms) c.requires.work_long_terms

pub call-requires : goal.call-requires
call-requires c = (
  copied_startable c.requires (copied_first _ _ _ c.requires.long c.copy.ensures)
      (copied_first _ _ _ c.requires.long_terms c.copy-2.ensures),
  omega arith,
  omega arith,
)

pub returns : goal.returns
returns c =
    record {
      copied = copied_first _ _ _ c.requires.long c.copy.ensures;
      copied_terms = copied_first _ _ _ c.requires.long_terms c.copy-2.ensures;
      called = c.call.ensures;
    }
