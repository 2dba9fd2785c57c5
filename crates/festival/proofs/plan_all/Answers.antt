-- `festival::plan_all` meets its contract: the room is judged, the list is split, the races are made.
-- Assumes nothing.
use borrow.Author.Rules.{rules}
use Prim.Native.Nat.{◌/◌}
use mathlib.Core.Path.{◌≡◌, sym, ◌∙◌}
use lib.ListN.{length}
use Rattle.division.specs.Eight.{parts_in}
use Rattle.festival.proofs.Racing.{room_enough, room_small, all_fit, told_all, told_room, none_made, handed_on}
use Rattle.festival.proofs.plan_all.Goals as goal

pub returns-then-not-has_room : goal.returns-then-not-has_room
returns-then-not-has_room c =
    record {
      by_index = λ ss e. told_room (length c.args.g.now.numbers.now / 4) _ (room_small c.has_room.ensures c.if-not-has_room.true) ss;
      work_marks_after = none_made _ _ _;
    }

pub returns-in_err-p : goal.returns-in_err-p
returns-in_err-p c =
    let a = c.args in
    rw (handed_on c.from_residual.result c.from_residual.ensures.1)
    (record {
      by_index =
          told_all a.stakes (length a.g.now.numbers.now / 4) _ (room_enough c.has_room.ensures c.if-not-has_room.false) (sym c.divide.ensures ∙ c.in_err-p.was);
      work_marks_after = none_made _ _ _;
    })

pub race_all-requires : goal.race_all-requires
race_all-requires c =
    let a = c.args in
    let long : length a.stakes.stakes ≡ 8 = search rules in
    all_fit a.stakes (length a.g.now.numbers.now) (length a.g.now.settings.now) (length a.assignments.now) (length a.answers.now) long
    (room_enough c.has_room.ensures c.if-not-has_room.false) (sym c.divide.ensures ∙ c.in_ok-p.was)

pub returns : goal.returns
unfolding parts_in
returns c =
    let a = c.args in
    record {
      by_index =
          told_all a.stakes (length a.g.now.numbers.now / 4) _ (room_enough c.has_room.ensures c.if-not-has_room.false) (sym c.divide.ensures ∙ c.in_ok-p.was);
      work_marks_after = c.race_all.ensures;
    }
