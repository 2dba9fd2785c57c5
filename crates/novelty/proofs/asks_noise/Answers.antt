-- `asks_noise` meets its contract, by whether any of them was flipped.
-- Assumes nothing.
use borrow.Author.Tests.{lt-ltb, le-ltb}
use Rattle.plpb.specs.Lists.{◌and◌}
use Rattle.novelty.specs.Noise.{asks_noise}
use Rattle.novelty.proofs.asks_noise.Goals as goal

pub returns-then-flipped : goal.returns-then-flipped
unfolding asks_noise ◌and◌
returns-then-flipped c = rw (lt-ltb 0 c.args.latest c.if-flipped.true)

pub returns-else-flipped : goal.returns-else-flipped
unfolding asks_noise ◌and◌
returns-else-flipped c = rw (le-ltb 0 c.args.latest c.if-flipped.false)
