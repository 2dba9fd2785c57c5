-- `division::bad_at` meets its contract, by whether there is a race.
-- Assumes nothing.
use mathlib.Core.Bool.{not}
use mathlib.Core.Path.{ap}
use borrow.Author.Tests.{lt-ltb, le-ltb}
use Rattle.division.specs.Split.{lawful_stake}
use Rattle.division.specs.Eight.{bad_at}
use Rattle.division.proofs.Laws.{told}
use Rattle.division.proofs.bad_at.Goals as goal

pub returns-then-i-count : goal.returns-then-i-count
unfolding bad_at lawful_stake
returns-then-i-count c =
    let r = c.new.ensures in
    rw (lt-ltb _ _ c.if-i-count.true) (ap not (told _ r.start r.end r.exhausted c.contains.ensures.value))

pub returns-else-i-count : goal.returns-else-i-count
unfolding bad_at
returns-else-i-count c = rw (le-ltb _ _ c.if-i-count.false)
