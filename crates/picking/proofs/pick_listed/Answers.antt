-- `pick_listed` meets its contract, by whether a number is left.
-- Assumes nothing.
use native.Mathlib.Omega.{arith}
use Rattle.numbers.proofs.Taking.{handed_on}
use Rattle.picking.proofs.Picking.{place_found, word_picked, words_gone}
use Rattle.picking.proofs.pick_listed.Goals as goal

pub overflow_add-at : goal.overflow_add-at
overflow_add-at c = let y = c.requires in omega (arith, y.inside, place_found y c.pick.ensures c.in_ok-drawn.was)

pub word-requires : goal.word-requires
word-requires c = let y = c.requires in omega (arith, y.inside, y.room, place_found y c.pick.ensures c.in_ok-drawn.was)

pub returns-in_err-drawn : goal.returns-in_err-drawn
returns-in_err-drawn c n each = rw (handed_on c.from_residual.result c.from_residual.ensures.1) (words_gone c.requires c.pick.ensures c.in_err-drawn.was n)

pub returns : goal.returns
returns c n each = word_picked c.requires c.pick.ensures c.in_ok-drawn.was c.word.ensures n each
