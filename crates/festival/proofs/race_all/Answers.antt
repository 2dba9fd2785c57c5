-- The goals that the search leaves.
use borrow.Author.Rules.{rules}
use native.Mathlib.Omega.{arith}
use mathlib.Core.Path.{◌≡◌, refl, ◌∙◌}
use lib.ListN.{length}
use Rattle.division.specs.Eight.{laid}
use Rattle.festival.specs.Own.{works}
use Rattle.festival.specs.Festival.{given_in, buffers}
use Rattle.festival.proofs.Racing.{race_first, race_turn, race_last}
use Rattle.festival.proofs.race_all.Goals as goal

pub loop-i-init : goal.loop-i-init
loop-i-init c =
    let a = c.args in
    let p = a.p in (
      race_first (given_in a.g.now)
          p.count p.parts (buffers a.assignments.now a.answers.now
          (works a.work_tables.now a.work_terms.now a.work_assignment.now a.work_tallies.now a.work_marks.now)),
      refl,
      refl,
      refl,
      refl,
      refl,
      refl,
      refl,
    )

pub offset_bounds-parts-i : goal.offset_bounds-parts-i
offset_bounds-parts-i c = record { fits = omega (arith, (c.requires (record { first = 0; length = 0 }) c.loop-i.i c.loop-i-test.true).race) }

pub bounds-parts-i : goal.bounds-parts-i
bounds-parts-i c = (c.requires (record { first = 0; length = 0 }) c.loop-i.i c.loop-i-test.true).race

pub race_at-requires : goal.race_at-requires
race_at-requires c =
    let l = c.loop-i in
    let h = c.requires _ l.i c.loop-i-test.true in
    record {
      race = h.race;
      part = h.part;
      setting = h.setting;
      assignment = omega (arith, h.assignment, l.invariant.1);
      answer = omega (arith, h.answer, l.invariant.2);
    }

pub loop-i-preserved : goal.loop-i-preserved
loop-i-preserved c =
    let a = c.args in
    let p = a.p in
    let l = c.loop-i in
    let h = c.loop-i-test.true in
    let k = c.race_at.auto in
    let f = c.requires (record { first = 0; length = 0 }) l.i h in
    let n : length p.parts ≡ 8 = search rules in (
      race_turn (given_in a.g.now)
          p.count p.parts (buffers a.assignments.now a.answers.now
          (works a.work_tables.now a.work_terms.now a.work_assignment.now a.work_tallies.now a.work_marks.now)) _ l.i h (omega (arith, n, f.race)) f.assignment l.invariant.0
          c.race_at.ensures,
      k.assignments ∙ l.invariant.1,
      k.answers ∙ l.invariant.2,
      k.work_tables ∙ l.invariant.3,
      k.work_terms ∙ l.invariant.4,
      k.work_assignment ∙ l.invariant.5,
      k.work_tallies ∙ l.invariant.6,
      k.work_marks ∙ l.invariant.7,
    )

pub returns : goal.returns
returns c =
    let a = c.args in
    let p = a.p in
    let l = c.loop-i in
    unfold laid in
    race_last (given_in a.g.now)
    p.count p.parts (buffers a.assignments.now a.answers.now
    (works a.work_tables.now a.work_terms.now a.work_assignment.now a.work_tallies.now a.work_marks.now)) l.i c.loop-i-test.false l.invariant.0
