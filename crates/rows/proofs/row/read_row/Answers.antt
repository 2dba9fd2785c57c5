-- `rows::row::read_row` meets its contract.
-- Assumes nothing.
use mathlib.Core.Path.{ap, ◌∙◌}
use Rattle.cells.proofs.Fields.{no_field, there}
use Rattle.rows.specs.Reading.{is_zones}
use Rattle.rows.proofs.Rows.{lead_stop, second_stop, four_is, three_is, last_stop, last_step, row_stop, two_left, two_stop, still_malformed, reads_three, reads_four}
use Rattle.rows.proofs.row.read_row.Goals as goal

pub returns-in_err-first : goal.returns-in_err-first
returns-in_err-first c = rw c.from_residual.ensures (lead_stop (is_zones c.args.listed) _ (no_field _ c.in_err-first.ensures))

pub returns-in_err-second : goal.returns-in_err-second
returns-in_err-second c =
    let f = there _ c.in_ok-first.first c.in_ok-first.ensures in
    rw c.from_residual-in_err-second.ensures (second_stop (is_zones c.args.listed) _ _ _ f.1 (no_field _ c.in_err-second.ensures))

pub returns-in_err-third-in-Sites : goal.returns-in_err-third-in-Sites
returns-in_err-third-in-Sites c =
    let f = there _ c.in_ok-first.first c.in_ok-first.ensures in
    let g = there _ c.in_ok-second.second c.in_ok-second.ensures in
    rw c.from_residual-in_err-third-in-Sites.ensures
    (three_is _ _ _ _ _ _ f.1 g.1 (ap is_zones c.in-Sites.is) ∙ still_malformed f.0 g.0 _ (last_stop _ (no_field _ c.in_err-third-in-Sites.ensures)))

pub returns-in_ok-third-in-Sites : goal.returns-in_ok-third-in-Sites
returns-in_ok-third-in-Sites c =
    let f = there _ c.in_ok-first.first c.in_ok-first.ensures in
    let g = there _ c.in_ok-second.second c.in_ok-second.ensures in
    let h = there _ c.in_ok-third-in-Sites.third c.in_ok-third-in-Sites.ensures in
    rw (three_is _ _ _ _ _ _ f.1 g.1 (ap is_zones c.in-Sites.is))
    (reads_three f.0 g.0 _ _ _ _ _ h.0 f.2 g.2 h.2 c.empty.ensures (last_step _ _ _ h.1))

pub returns-in_err-third-in-Zones : goal.returns-in_err-third-in-Zones
returns-in_err-third-in-Zones c =
    let f = there _ c.in_ok-first.first c.in_ok-first.ensures in
    let g = there _ c.in_ok-second.second c.in_ok-second.ensures in
    rw c.from_residual-in_err-third-in-Zones.ensures
    (four_is _ _ _ _ _ _ f.1 g.1 (ap is_zones c.in-Zones.is) ∙ still_malformed f.0 g.0 _ (row_stop 0 _ (no_field _ c.in_err-third-in-Zones.ensures)))

pub returns-in_err-fourth-in-Zones : goal.returns-in_err-fourth-in-Zones
returns-in_err-fourth-in-Zones c =
    let f = there _ c.in_ok-first.first c.in_ok-first.ensures in
    let g = there _ c.in_ok-second.second c.in_ok-second.ensures in
    let h = there _ c.in_ok-third-in-Zones.third c.in_ok-third-in-Zones.ensures in
    rw c.from_residual-in_err-fourth-in-Zones.ensures
    (four_is _ _ _ _ _ _ f.1 g.1 (ap is_zones c.in-Zones.is) ∙ still_malformed f.0 g.0 _ (two_stop _ _ _ h.1 (no_field _ c.in_err-fourth-in-Zones.ensures)))

pub returns-in_ok-fourth-in-Zones : goal.returns-in_ok-fourth-in-Zones
returns-in_ok-fourth-in-Zones c =
    let f = there _ c.in_ok-first.first c.in_ok-first.ensures in
    let g = there _ c.in_ok-second.second c.in_ok-second.ensures in
    let h = there _ c.in_ok-third-in-Zones.third c.in_ok-third-in-Zones.ensures in
    let k = there _ c.in_ok-fourth-in-Zones.fourth c.in_ok-fourth-in-Zones.ensures in
    rw (four_is _ _ _ _ _ _ f.1 g.1 (ap is_zones c.in-Zones.is))
    (reads_four f.0 g.0 _ _ _ _ _ h.0 k.0 f.2 g.2 h.2 k.2 (two_left _ _ _ _ _ h.1 k.1))
