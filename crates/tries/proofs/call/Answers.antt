-- `call` meets its contract: what is kept of the plan is worked out, and the tries go on from there.
-- Assumes nothing.
use Rattle.tries.proofs.Trying.{tried_prepared}
use Rattle.tries.proofs.call.Goals as goal

pub returns : goal.returns
returns c =
    tried_prepared c.requires.0 c.prepare.ensures c.make_tries.ensures
