-- `constraints::put_stored` meets its contract: the term as it is read, its sign changed or not.
-- Assumes nothing.
use mathlib.Core.Path.{sym}
use Rattle.words.specs.Words.{word_at}
use Rattle.spelling.proofs.Puts.{puts_same, room_same}
use Rattle.constraints.specs.Sides.{turns}
use Rattle.constraints.proofs.Stored.{fit_one, read_small, term_read}
use Rattle.constraints.proofs.put_stored.Goals as goal

pub turned-weight-requires : goal.turned-weight-requires
turned-weight-requires c =
    read_small (fit_one c.args.sum.now.fits c.requires.among.0 c.requires.among.1) (record { sfits = c.to_signed.type_inv }) c.to_signed.ensures c.word.ensures

pub put_term-requires : goal.put_term-requires
put_term-requires c =
    room_same c.args.at
    (sym (term_read (turns c.args.side) (word_at c.args.sum.now.terms.now) c.args.i (record { sfits = c.to_signed.type_inv }) c.to_signed.ensures c.word.ensures
    (record { sfits = c.turned-weight.type_inv }) c.turned-weight.ensures c.index.ensures))
    c.requires.room

pub returns : goal.returns
returns c =
    puts_same
    (term_read (turns c.args.side) (word_at c.args.sum.now.terms.now) c.args.i (record { sfits = c.to_signed.type_inv }) c.to_signed.ensures c.word.ensures
    (record { sfits = c.turned-weight.type_inv }) c.turned-weight.ensures c.index.ensures)
    c.put_term.ensures
