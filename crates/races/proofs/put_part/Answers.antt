-- `races::put_part` meets its contract: two numbers of the record are written, where there is a part for it.
-- Assumes nothing.
use Prim.Native.Nat.{ℕ, ◌+◌, ◌*◌}
use mathlib.Core.List.{List}
use mathlib.Core.Path.{sym, ap, ◌∙◌}
use lib.ListN.{set, get_or}
use lib.Seq.{set-get_or}
use Rattle.races.specs.declared.Race.{Race}
use Rattle.races.specs.Races.{put_at, with_part}
use Rattle.races.proofs.Turns.{placed_none, placed_some}
use Rattle.races.proofs.put_part.Goals as goal

pub returns-in-Some : goal.returns-in-Some
unfolding put_at with_part
returns-in-Some c =
    let s = c.args in
    ap (λ (r : Race). set (set s.races.now (3 * s.i + 1) r.first) (3 * s.i + 2) r.length)
    (sym (placed_some _ s.i c.in-Some.part _ (sym c.in-Some.is ∙ c.part_of.ensures)))

pub returns-in_default : goal.returns-in_default
unfolding put_at
returns-in_default c =
    let s = c.args in
    sym (ap (λ (r : Race). set (set s.races.now (3 * s.i + 1) r.first) (3 * s.i + 2) r.length) (placed_none _ s.i _ (sym c.in_default.is ∙ c.part_of.ensures))
    ∙ ap (λ (xs : List ℕ). set xs (3 * s.i + 2) (get_or s.races.now (3 * s.i + 2) 0)) (set-get_or s.races.now (3 * s.i + 1) 0)
    ∙ set-get_or s.races.now (3 * s.i + 2) 0)
