-- The goals that the search leaves.
use Prim.Native.Nat.{◌+◌}
use mathlib.Core.Path.{◌≡◌, ◌∙◌, sym, ap}
use native.Mathlib.Omega.{arith}
use lib.ListN.{get_or, set}
use Rattle.division.specs.Eight.{laid}
use Rattle.races.specs.declared.Race.{Race}
use Rattle.races.specs.Races.{with_part, placed_at}
use Rattle.races.proofs.Turns.{mix, mix_start, mix_next, mix_end, placed_none, placed_some}
use Rattle.races.proofs.put_parts.Goals.{in-Some, in_default}
use Rattle.races.proofs.put_parts.Goals as goal

abbrev none : Race
none = record { stake = 0; first = 0; length = 0 }

pub loop-i-init : goal.loop-i-init
loop-i-init c = mix_start _ _

pub loop-i-preserved : goal.loop-i-preserved
unfolding with_part
loop-i-preserved c =
    let put = λ (r : Race). set c.loop-i.races c.loop-i.i r in
    let next : put (placed_at (laid c.args.p) c.loop-i.i (get_or c.loop-i.races c.loop-i.i none)) ≡ mix (laid c.args.p) (c.loop-i.i + 1) c.args.races.now =
    rw c.loop-i.invariant (mix_next _ _ _ _ (omega (arith, c.loop-i-test.true))) in
    elim c.match-part_of.branch [
      | in-Some w ↦ w.races-is ∙ ap put (sym (placed_some _ _ w.in-Some.part _ (sym w.in-Some.is ∙ c.part_of.ensures))) ∙ next
      | in_default w ↦ w.races-is ∙ ap put (sym (placed_none _ _ _ (sym w.in_default.is ∙ c.part_of.ensures))) ∙ next
    ]

pub returns : goal.returns
returns c = c.loop-i.invariant ∙ mix_end _ _ _ (omega (arith, c.loop-i.auto.races))
