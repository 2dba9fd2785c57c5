-- `settings_at` meets its contract, word by word.
-- Assumes nothing.
use Rattle.exchange.specs.Exchange.{settings_at}
use Rattle.exchange.proofs.settings_at.Goals as goal

pub returns : goal.returns
unfolding settings_at
returns c =
    rw (c.word.ensures, c.word-2.ensures, c.word-3.ensures, c.word-4.ensures, c.word-5.ensures, c.word-6.ensures)
