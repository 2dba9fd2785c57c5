-- `call_under` meets its contract: the bound is set, the call made, and its find copied out.
-- Assumes nothing.
use mir.Syntax.{w64}
use native.Mathlib.Omega.{arith}
use mathlib.Core.Path.{◌∙◌}
use mir.Facts.{to_z-of_z}
use Rattle.progress.proofs.Bounds.{bounded_long, bounded_rules, bounded_summable, bounded_word, under_bounded, under_startable, called_found, called_failed, called_short}
use Rattle.descent.proofs.call_under.Goals as goal

pub set_bound-requires : goal.set_bound-requires
set_bound-requires c =
    (bounded_long c.requires.0.bounded, bounded_rules c.requires.0.bounded, rw (to_z-of_z c.ranges.bound) c.requires.2)

pub invariant_of-t : goal.invariant_of-t
invariant_of-t c = record { laid = (under_startable c.requires.0 c.args.bound c.requires.2 c.set_bound.ensures).ready.laid }

pub call-requires : goal.call-requires
call-requires c = (
  under_startable c.requires.0 c.args.bound c.requires.2 c.set_bound.ensures,
  c.requires.1.within,
  c.requires.1.flips,
)

pub keep_find-requires : goal.keep_find-requires
keep_find-requires c =
    let u = under_bounded c.requires.0 c.args.bound c.requires.2 c.set_bound.ensures in
    (bounded_summable u, omega (arith, bounded_word u, c.requires.0.tried, c.call.auto.assignment), omega (arith, bounded_word u, c.requires.0.find))

pub returns-in-Ok : goal.returns-in-Ok
returns-in-Ok c =
    called_found c.requires.0 c.args.bound c.requires.2 c.set_bound.ensures _ c.requires.1
    c.in-Ok.is c.call.ensures (omega (arith, c.requires.0.tried, c.call.auto.assignment))
    (to_z-of_z {w = w64} (record { sfits = c.keep_find.type_inv }) ∙ c.keep_find.ensures.0) c.keep_find.ensures.1

pub returns-in-Err-Failed : goal.returns-in-Err-Failed
returns-in-Err-Failed c =
    called_failed c.requires.0 c.args.bound c.requires.2 c.set_bound.ensures _ c.requires.1
    c.call.ensures (rw c.in-Err-Failed.field-0-is at c.in-Err-Failed.is)

pub returns-in-Err-Short : goal.returns-in-Err-Short
returns-in-Err-Short c =
    called_short c.requires.0 c.args.bound c.requires.2 c.set_bound.ensures _ c.requires.1
    c.call.ensures (rw c.in-Err-Short.field-0-is at c.in-Err-Short.is)
