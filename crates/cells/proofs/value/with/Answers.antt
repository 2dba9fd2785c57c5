-- `cells::value::with` meets its contract: too long, in the first half, or in the second.
-- Assumes nothing.
use borrow.Author.Tests.{le-leb, lt-leb, lt-ltb, le-ltb}
use Rattle.cells.specs.Values.{added}
use Rattle.cells.proofs.value.with.Goals as goal

pub returns-then-v-ge-LONGEST : goal.returns-then-v-ge-LONGEST
unfolding added
returns-then-v-ge-LONGEST c = simp (le-leb 16 _ c.if-v-ge-LONGEST.true) c.too_long.ensures

pub returns-then-v-lt-HALF : goal.returns-then-v-lt-HALF
unfolding added
returns-then-v-lt-HALF c =
    simp
    (lt-leb 16 _ c.if-v-ge-LONGEST.false, lt-ltb _ 8 c.if-v-lt-HALF.true, c.with_byte.ensures, c.more_digits-number.ensures)

pub returns : goal.returns
unfolding added
returns c =
    simp
    (lt-leb 16 _ c.if-v-ge-LONGEST.false, le-ltb _ 8 c.if-v-lt-HALF.false, c.with_byte-2.ensures, c.more_digits-number.ensures)
