-- `try_once` meets its contract, by whether numbers enough are left for the start.
-- Assumes nothing.
use native.Mathlib.Omega.{arith}
use mathlib.Core.Path.{refl}
use Rattle.recount.proofs.Laid.{tables_long, variables_word}
use Rattle.tries.proofs.Trying.{started_uses, started_holdable, started_stamps, started_walking, tried_once, no_start}
use Rattle.tries.proofs.try_once.Goals as goal

pub index-n-requires : goal.index-n-requires
index-n-requires c = omega (arith, tables_long _ _ c.requires.0.ready.laid)

pub start-requires : goal.start-requires
start-requires c =
    (c.requires.1, omega (arith, c.index-n.ensures, variables_word _ _ c.requires.0.ready.laid, c.requires.0.ready.bytes))

pub returns-in_default : goal.returns-in_default
returns-in_default c =
    no_start _ c.requires.0 c.requires.2 c.requires.3 c.index-n.ensures c.start.ensures _ c.requires.1 c.in_default.is refl refl refl

pub hold_locks-requires : goal.hold_locks-requires
hold_locks-requires c =
    started_holdable _ c.requires.0 c.requires.2 c.requires.3 c.index-n.ensures c.start.ensures c.in-Ok.is c.assignment-1.given

pub make_flips-requires : goal.make_flips-requires
make_flips-requires c =
    let u = started_uses _ c.requires.0 c.requires.2 c.requires.3 c.index-n.ensures c.start.ensures c.in-Ok.is in (
      started_walking _ c.requires.0 c.requires.2 c.requires.3 c.index-n.ensures c.start.ensures c.in-Ok.is c.hold_locks.ensures c.assignment-2-1.given
          c.assignment-1.given c.open_kept.ensures c.clear_stamps.ensures,
      u.1,
      u.2,
      started_stamps _ c.requires.0 c.requires.2 c.requires.3 c.index-n.ensures c.start.ensures c.in-Ok.is c.hold_locks.ensures c.assignment-2-1.given c.assignment-1.given c.open_kept.ensures c.clear_stamps.ensures,
    )

pub returns : goal.returns
returns c =
    tried_once _ c.requires.0 c.requires.2 c.requires.3 c.index-n.ensures c.start.ensures c.in-Ok.is c.hold_locks.ensures c.assignment-2-1.given
    c.assignment-1.given c.open_kept.ensures c.clear_stamps.ensures _ c.make_flips.ensures
