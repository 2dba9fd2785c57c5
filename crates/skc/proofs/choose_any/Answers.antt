-- `choose_any` meets its contract: the pick is among the words of the clause's list.
-- Assumes nothing.
use native.Mathlib.Omega.{arith}
use Rattle.picks.proofs.Noting.{listed}
use Rattle.skc.proofs.Choosing.{list_pickable, list_chosen}
use Rattle.skc.proofs.choose_any.Goals as goal

pub pick_listed-requires : goal.pick_listed-requires
pick_listed-requires c =
    let l = listed c.args.choice.now.footing c.args.choice.now.clause c.plan.ensures c.list_of-list.ensures in
    list_pickable c.requires l.0 (omega (arith, l.1))

pub returns : goal.returns
returns c =
    let l = listed c.args.choice.now.footing c.args.choice.now.clause c.plan.ensures c.list_of-list.ensures in
    list_chosen c.requires l.0 (omega (arith, l.1)) c.pick_listed.ensures
