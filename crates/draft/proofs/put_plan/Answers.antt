-- `draft::put_plan` meets its contract: the front, the clauses and the end.
-- Assumes nothing.
use native.Mathlib.Omega.{arith}
use mathlib.Core.List.{[]}
use Rattle.format.specs.Writer.{field}
use Rattle.lists.specs.Refusals.{site_rows, zone_rows}
use Rattle.lists.proofs.Accepted.{accepted_faultless}
use Rattle.draft.specs.Draft.{clauses_of}
use Rattle.draft.proofs.Writing.{wrote_more}
use Rattle.draft.proofs.Files.{clauses_small, sites_few, end_wrote, file_wrote}
use Rattle.draft.proofs.put_plan.Goals as goal

pub put_front-end-requires : goal.put_front-end-requires
put_front-end-requires c =
    let S = site_rows c.args.sites.now in
    let Z = zone_rows c.args.zones.now in
    omega (arith, sites_few S Z c.requires.0, c.requires.1, c.requires.3)

pub put_clauses-last-requires : goal.put_clauses-last-requires
put_clauses-last-requires c =
    let S = site_rows c.args.sites.now in
    let Z = zone_rows c.args.zones.now in
    let well = accepted_faultless S Z c.requires.0 in (
      well.zones_well,
      c.requires.2,
      omega (arith, c.put_front-end.ensures.1, c.put_front-end.auto.out, clauses_small S Z c.requires.0, sites_few S Z c.requires.0, c.requires.1, c.requires.3),
    )

pub put_head-requires : goal.put_head-requires
put_head-requires c =
    let S = site_rows c.args.sites.now in
    let Z = zone_rows c.args.zones.now in
    omega
    (arith, c.put_clauses-last.ensures.behind, c.put_clauses-last.auto.out, c.put_front-end.ensures.1, c.put_front-end.auto.out, clauses_small S Z c.requires.0, sites_few S Z c.requires.0, c.requires.1, c.requires.3)

pub overflow_add-result : goal.overflow_add-result
overflow_add-result c =
    let S = site_rows c.args.sites.now in
    let Z = zone_rows c.args.zones.now in
    omega
    (arith, c.put_clauses-last.ensures.behind, c.put_front-end.ensures.1, clauses_small S Z c.requires.0, sites_few S Z c.requires.0, c.requires.1)

pub returns : goal.returns
returns c =
    let o = c.args.out.now in
    let S = site_rows c.args.sites.now in
    let Z = zone_rows c.args.zones.now in
    let first = c.put_front-end.ensures in
    let more = c.put_clauses-last.ensures in
    let small = clauses_small S Z c.requires.0 in
    let few = sites_few S Z c.requires.0 in
    let two = wrote_more o 0 _ (clauses_of S Z) first.0 (omega (arith, first.0.behind, first.1, few, c.requires.1, c.requires.3)) more in
    file_wrote S Z c.args.n.sites c.requires.1
    (wrote_more o 0 _ (field 5 []) two (omega (arith, two.behind, more.behind, first.1, small, few, c.requires.1, c.requires.3)) (end_wrote _ _ c.put_head.ensures))

pub invariant_of-sites : goal.invariant_of-sites
invariant_of-sites c =
    record { well = (accepted_faultless (site_rows c.args.sites.now) (zone_rows c.args.zones.now) c.requires.0).sites_well; counted = c.requires.1 }
