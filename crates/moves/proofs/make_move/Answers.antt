-- `make_move` meets its contract, by whether a number is left for the clause.
-- Assumes nothing.
use Prim.Native.Nat.{◌<◌}
use native.Mathlib.Omega.{arith}
use Rattle.recount.proofs.Laid.{tables_long, clauses_few}
use Rattle.moves.proofs.Moving.{tally_room, unsatisfied_few, picked_there, picked_within, picked_uses, picked_moves, gone_moves, told_on}
use Rattle.moves.proofs.make_move.Goals as goal

pub pick-requires : goal.pick-requires
pick-requires c =
    (omega (arith, c.requires.1, c.index-unsatisfied.ensures), omega (arith, unsatisfied_few c.requires.0, c.index-unsatisfied.ensures), c.requires.2)

pub index-clauses-requires : goal.index-clauses-requires
index-clauses-requires c =
    omega (arith, tables_long _ _ c.requires.0.ready.laid)

pub nth_zero-requires : goal.nth_zero-requires
nth_zero-requires c =
    omega (arith, tally_room c.requires.0, clauses_few _ _ c.requires.0.ready.laid, c.index-clauses.ensures)

pub flip_in-requires : goal.flip_in-requires
flip_in-requires c =
    let some : 0 < c.index-unsatisfied.result = omega (arith, c.requires.1, c.index-unsatisfied.ensures) in (
      c.requires.0,
      picked_within c.requires.0 _ _ _ c.index-unsatisfied.ensures c.pick.ensures some c.in_ok-drawn.was c.index-clauses.ensures c.nth_zero.ensures c.unwrap-c.ensures,
      (picked_uses c.requires.0 _ _ _ c.index-unsatisfied.ensures c.pick.ensures some c.in_ok-drawn.was c.index-clauses.ensures c.nth_zero.ensures c.unwrap-c.ensures).1,
      c.requires.3,
    )

pub returns : goal.returns
returns c =
    picked_moves c.requires.0 _ _ _ c.index-unsatisfied.ensures c.pick.ensures (omega (arith, c.requires.1, c.index-unsatisfied.ensures)) c.in_ok-drawn.was c.index-clauses.ensures c.nth_zero.ensures c.unwrap-c.ensures _
    c.flip_in.ensures

pub returns-in_err-drawn : goal.returns-in_err-drawn
returns-in_err-drawn c =
    rw (told_on c.from_residual.result c.from_residual.ensures.1)
    (gone_moves c.requires.0 _ _ _ c.index-unsatisfied.ensures c.pick.ensures _ c.requires.2 c.in_err-drawn.was)

pub unwrap-c-requires : goal.unwrap-c-requires
unwrap-c-requires c =
    picked_there c.requires.0 _ _ _ c.index-unsatisfied.ensures c.pick.ensures (omega (arith, c.requires.1, c.index-unsatisfied.ensures)) c.in_ok-drawn.was
    c.index-clauses.ensures c.nth_zero.ensures
