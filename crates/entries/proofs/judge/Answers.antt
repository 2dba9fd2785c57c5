-- `entries::judge` meets its contract: the faults of either list, 54, 55, then 4.
-- Assumes nothing.
use mathlib.Core.Path.{◌≡◌, ◌∙◌}
use mathlib.Core.Bool.{true, false}
use lib.ListN.{length}
use Rattle.std.proofs.lemmas.Result.{err_from_is_err_and, MatchResult-at_ok, MatchResult-at_err}
use Rattle.lists.specs.Refusals.{row_fault, unlisted, unused, judged, site_rows, zone_rows}
use Rattle.entries.specs.Judging.{IsAt}
use Rattle.entries.specs.declared.Refusal.TheVariants.{Site, Zone}
use Rattle.entries.proofs.Verdicts.{unlisted_is, unused_is, refuse_sites, refuse_zones, refuse_unlisted, refuse_unused, refuse_size, accept, within, all_rows, is_fault, at_site, at_zone, AsSite, AsZone, turned, kept}
use Rattle.entries.proofs.judge.Goals.{In_ok-s, In_ok-z, In_ok-map_err, In_ok-map_err-2}
use Rattle.entries.proofs.judge.Goals as goal

-- What each judgement says that found no fault.
sites : (c : In_ok-s) → ((judged (row_fault false (site_rows c.args.sites.now)) (site_rows c.args.sites.now)).fault ≡ 0) × (c.in_ok-s.s ≡ length (site_rows c.args.sites.now))
sites c = all_rows _ (row_fault false (site_rows c.args.sites.now)) _ (MatchResult-at_ok _ _ _ (kept _ _ AsSite c.in_ok-s.ensures.cases) c.judge_list.ensures)

zones : (c : In_ok-z) → ((judged (row_fault true (zone_rows c.args.zones.now)) (zone_rows c.args.zones.now)).fault ≡ 0) × (c.in_ok-z.z ≡ length (zone_rows c.args.zones.now))
zones c = all_rows _ (row_fault true (zone_rows c.args.zones.now)) _ (MatchResult-at_ok _ _ _ (kept _ _ AsZone c.in_ok-z.ensures.cases) c.judge_list-2.ensures)

listed : (c : In_ok-map_err) → (judged (unlisted (site_rows c.args.sites.now) (zone_rows c.args.zones.now)) (site_rows c.args.sites.now)).fault ≡ 0
listed c =
    rw (unlisted_is (site_rows c.args.sites.now) (zone_rows c.args.zones.now)) at (MatchResult-at_ok _ _ _ (kept _ _ AsSite c.in_ok-map_err.ensures.cases) c.judge_zones.ensures)

used : (c : In_ok-map_err-2) → (judged (unused (site_rows c.args.sites.now) (zone_rows c.args.zones.now)) (zone_rows c.args.zones.now)).fault ≡ 0
used c =
    rw (unused_is (site_rows c.args.sites.now) (zone_rows c.args.zones.now)) at (MatchResult-at_ok _ _ _ (kept _ _ AsZone c.in_ok-map_err-2.ensures.cases) c.judge_zones-2.ensures)

pub returns-in_err-s : goal.returns-in_err-s
returns-in_err-s c =
    let S = site_rows c.args.sites.now in
    let p = err_from_is_err_and c.from_residual.result c.from_residual.ensures.1 in
    let t = turned _ _ AsSite c.in_err-s.ensures.cases in
    let turn : p.0 ≡ Site t.0 = p.2 ∙ t.2 in
    let h : IsAt (judged (row_fault false S) S) t.0 = MatchResult-at_err _ _ _ t.1 c.judge_list.ensures in
    rw (p.1, turn) (refuse_sites _ _ (is_fault _ _ h) ∙ at_site _ _ h)

pub returns-in_err-z : goal.returns-in_err-z
returns-in_err-z c =
    let Z = zone_rows c.args.zones.now in
    let p = err_from_is_err_and c.from_residual-in_err-z.result c.from_residual-in_err-z.ensures.1 in
    let t = turned _ _ AsZone c.in_err-z.ensures.cases in
    let turn : p.0 ≡ Zone t.0 = p.2 ∙ t.2 in
    let h : IsAt (judged (row_fault true Z) Z) t.0 = MatchResult-at_err _ _ _ t.1 c.judge_list-2.ensures in
    rw (p.1, turn) (refuse_zones _ _ (sites (goal.at.returns-in_err-z c).In_ok-s).0 (is_fault _ _ h) ∙ at_zone _ _ h)

pub judge_zones-requires : goal.judge_zones-requires
judge_zones-requires c =
    let a = goal.at.judge_zones-requires c in
    ((sites a.In_ok-s).0, (zones a.In_ok-z).1)

pub returns-in_err-map_err : goal.returns-in_err-map_err
returns-in_err-map_err c =
    let S = site_rows c.args.sites.now in
    let Z = zone_rows c.args.zones.now in
    let a = goal.at.returns-in_err-map_err c in
    let p = err_from_is_err_and c.from_residual-in_err-map_err.result c.from_residual-in_err-map_err.ensures.1 in
    let t = turned _ _ AsSite c.in_err-map_err.ensures.cases in
    let turn : p.0 ≡ Site t.0 = p.2 ∙ t.2 in
    let h : IsAt (judged (unlisted S Z) S) t.0 = rw (unlisted_is S Z) at (MatchResult-at_err _ _ _ t.1 c.judge_zones.ensures) in
    rw (p.1, turn) (refuse_unlisted _ _ (sites a.In_ok-s).0 (zones a.In_ok-z).0 (is_fault _ _ h) ∙ at_site _ _ h)

pub judge_zones-requires-2 : goal.judge_zones-requires-2
judge_zones-requires-2 c =
    let a = goal.at.judge_zones-requires-2 c in
    ((zones a.In_ok-z).0, (sites a.In_ok-s).1)

pub returns-in_err-map_err-2 : goal.returns-in_err-map_err-2
returns-in_err-map_err-2 c =
    let S = site_rows c.args.sites.now in
    let Z = zone_rows c.args.zones.now in
    let a = goal.at.returns-in_err-map_err-2 c in
    let p = err_from_is_err_and c.from_residual-in_err-map_err-2.result c.from_residual-in_err-map_err-2.ensures.1 in
    let t = turned _ _ AsZone c.in_err-map_err-2.ensures.cases in
    let turn : p.0 ≡ Zone t.0 = p.2 ∙ t.2 in
    let h : IsAt (judged (unused S Z) Z) t.0 = rw (unused_is S Z) at (MatchResult-at_err _ _ _ t.1 c.judge_zones-2.ensures) in
    rw (p.1, turn) (refuse_unused _ _ (sites a.In_ok-s).0 (zones a.In_ok-z).0 (listed a.In_ok-map_err) (is_fault _ _ h) ∙ at_zone _ _ h)

pub returns-then-not-contains : goal.returns-then-not-contains
returns-then-not-contains c =
    let a = goal.at.returns-then-not-contains c in
    let s = sites a.In_ok-s in
    let r = c.new.ensures in
    refuse_size _ _ s.0 (zones a.In_ok-z).0 (listed a.In_ok-map_err) (used a.In_ok-map_err-2) (within _ r.start r.end r.exhausted c.contains.ensures.value c.if-not-contains.true s.1)

pub returns : goal.returns
returns c =
    let a = goal.at.returns c in
    let s = sites a.In_ok-s in
    let z = zones a.In_ok-z in
    let r = c.new.ensures in
    (accept _ _ s.0 z.0 (listed a.In_ok-map_err) (used a.In_ok-map_err-2) (within _ r.start r.end r.exhausted c.contains.ensures.value c.if-not-contains.false s.1), s.1, z.1)
