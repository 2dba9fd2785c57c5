-- `group_mends` meets its contract: a rule of the clause holds, or the group tells.
-- Assumes nothing.
use native.Mathlib.Omega.{arith}
use mathlib.Core.Path.{sym, ◌∙◌}
use Rattle.recount.proofs.Laid.{parts}
use Rattle.groups.proofs.Stretch.{holding_word}
use Rattle.groups.proofs.Runs.{group_stretch}
use Rattle.mending.proofs.Mending.{clause_held, group_none}
use Rattle.mending.proofs.group_mends.Goals as goal

pub overflow_add-group : goal.overflow_add-group
overflow_add-group c = let g = c.args.group.now in omega (arith, g.whole.clause_there, (parts _ _ g.run.now.going.kept.ready.laid).clause_count)

pub word-requires : goal.word-requires
word-requires c = let g = c.args.group.now in omega (arith, g.whole.clause_there, (parts _ _ g.run.now.going.kept.ready.laid).clause_count, g.run.now.footing.now.sized.room)

pub returns-then-word-ne0 : goal.returns-then-word-ne0
returns-then-word-ne0 c = λ e.
    let g = c.args.group.now in
    let s = group_stretch g.run.now g.whole in
    clause_held s g.whole (omega (arith, holding_word s g.whole c.word.ensures, c.if-word-ne0.true))

pub returns : goal.returns
returns c = λ e. let g = c.args.group.now in group_none (group_stretch g.run.now g.whole) g.whole (sym c.any_mends.ensures ∙ e)
