-- The goals that the search leaves.
use Rattle.progress.proofs.Concluding.{cost_low, floor_low, test_above, test_floor, bound_read, bound_small, room_here, tracks_here, descent_ends, descent_falls, descent_again, descent_stops, handed_on}
use Rattle.descent.proofs.descend.Goals as goal

pub bound_for-requires : goal.bound_for-requires
bound_for-requires c =
    let i = c.loop-at.invariant in
    (floor_low i.room.bounded i.tracks c.requires.2, cost_low i.room.bounded i.tracks)

pub call_under-requires : goal.call_under-requires
call_under-requires c =
    let i = c.loop-at.invariant in (
      room_here i.room.bounded i.room,
      tracks_here i.room.bounded i.tracks,
      bound_small i.room.bounded i.tracks c.requires.2 _ (record { sfits = c.bound_for.type_inv }) c.bound_for.ensures,
    )

pub returns-in_err-at : goal.returns-in_err-at
returns-in_err-at c =
    let i = c.loop-at.invariant in
    rw (handed_on c.from_residual.result c.from_residual.ensures.1) (descent_stops i c.call_under.ensures
    (test_above i.room.bounded i.tracks c.requires.2 c.loop-at-test.true)
    (bound_read i.room.bounded i.tracks c.requires.2 _ (record { sfits = c.bound_for.type_inv }) c.bound_for.ensures) c.in_err-at.was)

pub loop-at-smaller : goal.loop-at-smaller
loop-at-smaller c =
    let i = c.loop-at.invariant in
    descent_falls i c.call_under.ensures
    (test_above i.room.bounded i.tracks c.requires.2 c.loop-at-test.true)
    (bound_read i.room.bounded i.tracks c.requires.2 _ (record { sfits = c.bound_for.type_inv }) c.bound_for.ensures) c.in_ok-at.was

pub loop-at-preserved : goal.loop-at-preserved
loop-at-preserved c =
    let i = c.loop-at.invariant in
    descent_again i c.call_under.ensures
    (test_above i.room.bounded i.tracks c.requires.2 c.loop-at-test.true)
    (bound_read i.room.bounded i.tracks c.requires.2 _ (record { sfits = c.bound_for.type_inv }) c.bound_for.ensures) c.in_ok-at.was
    (record {
      tables = c.tables-1.given;
      assignment = c.assignment-1.given;
      tried = c.tried-1.given;
      tallies = c.tallies-1.given;
      marks = c.marks-1.given;
    })

pub returns : goal.returns
returns c =
    let i = c.loop-at.invariant in
    descent_ends i (test_floor i.room.bounded i.tracks c.requires.2 c.loop-at-test.false)
