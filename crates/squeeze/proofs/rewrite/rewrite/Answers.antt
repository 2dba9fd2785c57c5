-- `rewrite::rewrite` meets its contract: the front, the clauses and the end, one behind the other.
-- Assumes nothing.
use native.Mathlib.Omega.{arith}
use Prim.Native.Nat.{◌≤◌, ◌+◌}
use mathlib.Core.Path.{◌∙◌}
use mathlib.Core.List.{[]}
use lib.ListN.{length}
use Rattle.words.proofs.Words.{Below}
use Rattle.tables.specs.Places.{plan_of_file}
use Rattle.tables.proofs.Found.{begun_front, begun_room}
use Rattle.fates.specs.Codes.{decoded}
use Rattle.fates.specs.Rest.{Rest}
use Rattle.rewriting.specs.Written.{clauses_written}
use Rattle.rewriting.specs.Moved.{Laid, ClausesMoved}
use Rattle.squeeze.proofs.Opening.{front_short, front_fits, clauses_kept}
use Rattle.squeeze.proofs.Wholly.{file_laid}
use Rattle.squeeze.proofs.rewrite.rewrite.Goals.{After-keep_clauses-arg-1, After-put_end-arg-1, After-slice_known-4-1}
use Rattle.squeeze.proofs.rewrite.rewrite.Goals as goal

-- The clauses behind the rewritten front.
module _ (c : After-keep_clauses-arg-1) where
  bytes_2 : Below 256 c.args.file.now
  bytes_2 i = (c.slice_known-1.given i).fits

  clauses_2 : Rest (plan_of_file c.args.file.now).variables c.put_front-front.new.file c.first_clause-first.result [] (plan_of_file c.args.file.now).clauses
  clauses_2 =
      clauses_kept _ _ bytes_2 c.requires.accepts (decoded c.args.map.words.now) c.args.variables c.first_clause-first.ensures c.put_front-front.ensures.0

-- The clauses behind the rewritten front.
module _ (c : After-slice_known-4-1) where
  bytes_3 : Below 256 c.args.file.now
  bytes_3 i = (c.slice_known-1.given i).fits

  clauses_3 : Rest (plan_of_file c.args.file.now).variables c.put_front-front.new.file c.first_clause-first.result [] (plan_of_file c.args.file.now).clauses
  clauses_3 =
      clauses_kept _ _ bytes_3 c.requires.accepts (decoded c.args.map.words.now) c.args.variables c.first_clause-first.ensures c.put_front-front.ensures.0

-- The clauses behind the rewritten front.
module _ (c : After-put_end-arg-1) where
  bytes_4 : Below 256 c.args.file.now
  bytes_4 i = (c.slice_known-1.given i).fits

  clauses_4 : Rest (plan_of_file c.args.file.now).variables c.put_front-front.new.file c.first_clause-first.result [] (plan_of_file c.args.file.now).clauses
  clauses_4 =
      clauses_kept _ _ bytes_4 c.requires.accepts (decoded c.args.map.words.now) c.args.variables c.first_clause-first.ensures c.put_front-front.ensures.0

pub keep_clauses-end-requires : goal.keep_clauses-end-requires
keep_clauses-end-requires c =
    let short = front_short _ _ (bytes_2 c) c.requires.accepts (decoded c.args.map.words.now) c.args.variables in
    ((_, _, clauses_2 c), omega (arith, short, c.put_front-front.ensures.1, c.first_clause-first.ensures))

-- What the clauses were rewritten to.
module _ (c : After-slice_known-4-1) where
  moved_2 : Laid c.put_front-front.new.file c.put_front-front.result (clauses_written (decoded c.args.map.words.now) (plan_of_file c.args.file.now).clauses) c.keep_clauses-end.new.file c.keep_clauses-end.result
  unfolding ClausesMoved
  moved_2 = (c.keep_clauses-end.ensures _ _ (clauses_3 c)).0

  room_2 : c.keep_clauses-end.result + 3 ≤ length c.put_front-front.new.file
  unfolding ClausesMoved
  room_2 = (c.keep_clauses-end.ensures _ _ (clauses_3 c)).1

-- What the clauses were rewritten to.
module _ (c : After-put_end-arg-1) where
  moved_3 : Laid c.put_front-front.new.file c.put_front-front.result (clauses_written (decoded c.args.map.words.now) (plan_of_file c.args.file.now).clauses) c.keep_clauses-end.new.file c.keep_clauses-end.result
  unfolding ClausesMoved
  moved_3 = (c.keep_clauses-end.ensures _ _ (clauses_4 c)).0

  room_3 : c.keep_clauses-end.result + 3 ≤ length c.put_front-front.new.file
  unfolding ClausesMoved
  room_3 = (c.keep_clauses-end.ensures _ _ (clauses_4 c)).1

pub returns : goal.returns
unfolding Laid
returns c =
    let s = c.args.file.now in
    let f = decoded c.args.map.words.now in
    let fits = front_fits s (plan_of_file s) (bytes_3 c) c.requires.accepts f c.args.variables in
    let (file, long) = file_laid s f c.args.variables (plan_of_file s) fits c.put_front-front.ensures.0 c.put_front-front.ensures.1 (moved_2 c).0 (moved_2 c).1
    (room_2 c) c.put_end.ensures.0 in
    (file, c.put_end.ensures.1 ∙ long)

pub first_clause-first-requires : goal.first_clause-first-requires
first_clause-first-requires c = (begun_front _ _ c.requires.accepts, omega (arith, begun_room _ _ c.requires.accepts))

pub put_end-requires : goal.put_end-requires
put_end-requires c = omega (arith, room_3 c, c.keep_clauses-end.auto.file)
