-- `unmet_at` meets its contract: how many rules hold of a clause is among the tallies.
-- Assumes nothing.
use native.Mathlib.Omega.{arith}
use mathlib.Core.Path.{ap, ◌∙◌}
use lib.Dec.{eqb}
use Rattle.effects.proofs.Visits.{visited}
use Rattle.effects.proofs.Places.{place_named}
use Rattle.words.specs.Words.{word_at}
use Rattle.format.specs.Layout.{holding_at}
use Rattle.recount.proofs.Laid.{parts}
use Rattle.counts.proofs.Passing.{held_word}
use Rattle.counts.proofs.unmet_at.Goals as goal

pub overflow_add-clause_at : goal.overflow_add-clause_at
overflow_add-clause_at c =
    omega (arith, c.clause_at.ensures, (place_named (visited c.args.run.now c.requires)).clause_there, (parts _ _ c.args.run.now.going.kept.ready.laid).clause_count)

pub word-requires : goal.word-requires
word-requires c =
    let w = c.args.run.now.going.kept in
    omega (arith, c.clause_at.ensures, (place_named (visited c.args.run.now c.requires)).clause_there, (parts _ _ w.ready.laid).clause_count, w.sized.room)

pub returns : goal.returns
returns c = ap (λ n. eqb n 0) (held_word c.args.run.now c.requires (c.word.ensures ∙ ap (λ i. word_at c.args.run.now.footing.now.tallies.now (holding_at i)) c.clause_at.ensures))
