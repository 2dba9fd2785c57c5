-- The goals that the search leaves.
use native.Mathlib.Numerals.{add-one}
use native.Mathlib.Omega.{arith}
use mathlib.Core.Path.{ap, ◌∙◌}
use mir.Facts.{to_z-of_z}
use mir.Syntax.{w32}
use Rattle.words.specs.Words.{signed}
use Rattle.clauselines.proofs.Looping.{looping_room, looping_more, looping_done}
use Rattle.opbtext.proofs.Parts.{dense_pieces}
use Rattle.opbtext.proofs.lent.Whole.put_coefficients.Goals as goal

pub put_term-next-requires : goal.put_term-next-requires
put_term-next-requires c =
    let weight = to_z-of_z {w = w32} (record { sfits = c.to_signed-weight.type_inv }) ∙ c.to_signed-weight.ensures ∙ ap signed c.word.ensures in
    rw weight (looping_room (dense_pieces c.args.self.now.tables.now _) c.loop-i.invariant (omega (arith, c.loop-i-test.true, c.index-n.ensures)) c.requires)

pub loop-i-preserved : goal.loop-i-preserved
loop-i-preserved c =
    let weight = to_z-of_z {w = w32} (record { sfits = c.to_signed-weight.type_inv }) ∙ c.to_signed-weight.ensures ∙ ap signed c.word.ensures in
    rw (add-one c.loop-i.i)
    (looping_more (dense_pieces c.args.self.now.tables.now _) c.loop-i.invariant (omega (arith, c.loop-i-test.true, c.index-n.ensures)) (rw weight at c.put_term-next.ensures))

pub returns : goal.returns
returns c = looping_done (dense_pieces c.args.self.now.tables.now _) c.loop-i.invariant (omega (arith, c.loop-i-test.false, c.index-n.ensures))
