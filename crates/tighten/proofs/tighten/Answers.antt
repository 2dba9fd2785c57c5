-- `tighten` meets its contract: the mode's own tightening, and where LBS failed, linear from there.
-- Assumes nothing.
use denote.Enum.Bare.{same_true, same_false}
use mathlib.Core.Path.{◌≡◌, refl, ◌∙◌, sym, ap}
use mir.Facts.{to_z-of_z}
use Rattle.std.specs.Prelude.{Err}
use Rattle.plpb.specs.Plan.{floor_cost}
use Rattle.plpb.specs.Settings.{lbs}
use Rattle.settings.specs.declared.Tightening.{Tightening}
use Rattle.settings.specs.declared.Tightening.TheVariants as tightening
use Rattle.settings.specs.contracts.Tightening.{the_type}
use Rattle.settings.specs.Settings.{mode_in, mode_of}
use Rattle.progress.proofs.Bounds.{bounded_basis}
use Rattle.progress.proofs.Concluding.{room_here, room_after, unfailed, unfailed_floor, unfailed_short, tightens_linearly, stopped_tracks, failed_tracks, lbs_then_linear}
use Rattle.tighten.proofs.tighten.Goals as goal

-- A mode that is not linear is the other.
not_linear : (m : Tightening) → (m ≡ tightening.Linear → ⊥) → mode_in m ≡ lbs
unfolding mode_in
not_linear tightening.Linear h = absurd (h refl)
not_linear tightening.Lbs h = refl

pub returns-then-eq : goal.returns-then-eq
unfolding mode_in
returns-then-eq c =
    let e = c.descend-first.ensures in
    let m = c.from.ensures in (
      tightens_linearly _ _ _ c.args.from _ _ _ _ c.stopped.ensures _ (sym m ∙ ap mode_in {y = tightening.Linear} (same_true the_type tt _ _ (sym c.eq.ensures ∙ c.if-eq.true))) e.1 e.0,
      stopped_tracks _ _ c.stopped.ensures e.1,
      e.2,
    )

pub returns-in-Ok : goal.returns-in-Ok
returns-in-Ok c =
    let e = c.descend-first.ensures in
    (unfailed _ _ _ c.args.from _ _ _ _ c.stopped-in-Ok.ensures _ (unfailed_floor c.in-Ok.is) e.0, stopped_tracks _ _ c.stopped-in-Ok.ensures e.1, e.2)

pub returns-in-Err-Short : goal.returns-in-Err-Short
returns-in-Err-Short c =
    let e = c.descend-first.ensures in
    let why = rw c.in-Err-Short.is at c.in-Err-Short.field-0-is in
    (unfailed _ _ _ c.args.from _ _ _ _ c.stopped-in-Err-Short.ensures _ (unfailed_short (c.in-Err-Short.is ∙ ap Err why)) e.0, stopped_tracks _ _ c.stopped-in-Err-Short.ensures e.1, e.2)

pub descend-second-requires : goal.descend-second-requires
descend-second-requires c =
    let e = c.descend-first.ensures in (
      room_here e.2.bounded
          (room_after c.requires.0 e.2.bounded
          (record { tables = c.tables-1.given; assignment = c.assignment-1.given; tried = c.tried-1.given; tallies = c.tallies-1.given; marks = c.marks-1.given })),
      failed_tracks (c.in-Err-Failed.is ∙ ap Err (rw c.in-Err-Failed.is at c.in-Err-Failed.field-0-is)) e.2 e.1,
      to_z-of_z c.ranges.floor ∙ c.requires.2 ∙ ap floor_cost (sym (bounded_basis e.2.bounded)),
    )

pub returns : goal.returns
unfolding mode_in mode_of
returns c =
    let e = c.descend-first.ensures in
    let m = c.from.ensures in
    lbs_then_linear (c.in-Err-Failed.is ∙ ap Err (rw c.in-Err-Failed.is at c.in-Err-Failed.field-0-is)) e.2 _ c.args.from _ (sym m ∙ not_linear _ (same_false the_type _ _ (sym c.eq.ensures ∙ c.if-eq.false))) e.0 _ _ c.stopped-2.ensures c.descend-second.ensures
