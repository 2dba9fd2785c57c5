-- `division::share` meets its contract: the share without the product.
-- Assumes nothing.
use Rattle.division.proofs.Laws.{share_split}
use Rattle.division.proofs.share.Goals as goal

pub returns : goal.returns
returns c = share_split c.args.n c.args.s c.args.t c.requires.0
