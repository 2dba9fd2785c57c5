-- `main` prints a part of its buffer: what `respond` writes lies within it.
-- Assumes nothing.
use lib.Seq.{length-take-le}
use Rattle.std.proofs.Common.{sym}
use Rattle.answers.proofs.Lines.{front_fits}
use Rattle.tent.proofs.main.Goals as goal

pub slice_bounds-out-end : goal.slice_bounds-out-end
slice_bounds-out-end c = let r = c.respond-length in front_fits _ _ r.ensures.0 r.ensures.1 r.auto.out

pub slice_bounds-write_all-end : goal.slice_bounds-write_all-end
slice_bounds-write_all-end c =
    let r = c.respond-length in
    sym (length-take-le r.result r.new.out (front_fits _ _ r.ensures.0 r.ensures.1 r.auto.out))
