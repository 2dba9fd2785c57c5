-- `Whole::put_locked` meets its contract: a line where the variable is locked, else none.
-- Assumes nothing.
use Prim.Native.Nat.{suc, ◌+◌}
use native.Mathlib.Omega.{arith}
use mathlib.Core.Path.{◌≡◌, sym, ◌∙◌}
use Rattle.spelling.proofs.Puts.{puts_nothing, puts_same, room_same}
use Rattle.opbtext.proofs.Parts.{lock_none, read_lock}
use Rattle.opbtext.proofs.lent.Whole.put_locked.Goals as goal
use Rattle.format.specs.Layout.{lock_at}

pub returns-then-lock-eq0 : goal.returns-then-lock-eq0
returns-then-lock-eq0 c = puts_same (lock_none c.args.self.now.tables.now c.args.i (sym c.word-lock.ensures ∙ c.if-lock-eq0.true)) (puts_nothing _ _)

pub put_lock-requires : goal.put_lock-requires
put_lock-requires c =
    let e : lock_at (suc c.args.i) ≡ lock_at (1 + c.args.i) = omega arith in
    let small = rw e at (c.args.self.now.fits.locks.locks c.args.i c.requires.few) in
    room_same _ (sym (read_lock c.args.self.now.tables.now c.args.i c.word-lock.ensures c.if-lock-eq0.false small)) c.requires.room

pub returns : goal.returns
returns c =
    let e : lock_at (suc c.args.i) ≡ lock_at (1 + c.args.i) = omega arith in
    let small = rw e at (c.args.self.now.fits.locks.locks c.args.i c.requires.few) in
    puts_same (read_lock c.args.self.now.tables.now c.args.i c.word-lock.ensures c.if-lock-eq0.false small) c.put_lock.ensures
