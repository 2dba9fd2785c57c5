-- `clauselines::put_clause` meets its contract: straight where it has one rule, else with 'or'.
-- Assumes nothing.
use mathlib.Core.Path.{sym}
use Rattle.spelling.proofs.Puts.{puts_same, room_same}
use Rattle.clauselines.proofs.Clauses.{read_first, read_single, read_several}
use Rattle.clauselines.proofs.put_clause.Goals as goal

pub put_straight-requires : goal.put_straight-requires
put_straight-requires c =
    let first = c.index-first.ensures in
    let count = c.index-count.ensures in
    record {
      rule_fits = read_first _ _ c.args.c c.args.k first count c.if-count-eq1.true c.requires.clause_fits;
      room = room_same _ (sym (read_single _ _ c.args.c c.args.k first count c.if-count-eq1.true)) c.requires.room;
    }

pub returns-then-count-eq1 : goal.returns-then-count-eq1
returns-then-count-eq1 c =
    puts_same (read_single _ _ c.args.c c.args.k c.index-first.ensures c.index-count.ensures c.if-count-eq1.true) c.put_straight.ensures

pub put-requires : goal.put-requires
put-requires c = room_same _ (sym (read_several _ _ c.args.c c.args.k c.index-first.ensures c.index-count.ensures c.if-count-eq1.false)) c.requires.room

pub returns : goal.returns
returns c = puts_same (read_several _ _ c.args.c c.args.k c.index-first.ensures c.index-count.ensures c.if-count-eq1.false) c.put.ensures
