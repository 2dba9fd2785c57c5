-- The goals that the search leaves.
use Rattle.tries.proofs.Trying.{calls_begin, calls_more, calls_found, calls_gone, calls_end}
use Rattle.tries.proofs.make_tries.Goals as goal

pub loop-try-init : goal.loop-try-init
loop-try-init c = calls_begin _ c.requires.0 c.requires.1 c.requires.2 c.requires.3

pub returns-in-Ok : goal.returns-in-Ok
returns-in-Ok c = calls_found c.loop-try.invariant c.loop-try-test.true c.try_once.ensures c.in-Ok.is

pub returns-in-Err-Short : goal.returns-in-Err-Short
returns-in-Err-Short c = calls_gone c.loop-try.invariant c.loop-try-test.true c.try_once.ensures (rw c.in-Err-Short.field-0-is at c.in-Err-Short.is)

pub loop-try-preserved : goal.loop-try-preserved
loop-try-preserved c =
    calls_more c.loop-try.invariant c.loop-try-test.true c.try_once.ensures (rw c.in-Err-Failed.field-0-is at c.in-Err-Failed.is)
    (record { assignment = c.assignment-1.given; tallies = c.tallies-1.given; marks = c.marks-1.given })

pub returns : goal.returns
returns c = calls_end c.loop-try.invariant c.loop-try-test.false
