-- `draft::put_clause` meets its contract: the clause's field, a rule, and another where none at all will do.
-- Assumes nothing.
use native.Mathlib.Omega.{arith}
use mathlib.Core.Path.{sym}
use mathlib.Core.List.{[]}
use Rattle.format.specs.Writer.{field}
use Rattle.lists.specs.Refusals.{site_rows}
use Rattle.draft.proofs.Writing.{wrote_more, wrote_as}
use Rattle.draft.proofs.Rules.{clause_begun, clause_one, clause_two, clause_as}
use Rattle.draft.proofs.put_clause.Goals as goal

pub returns-then-zone : goal.returns-then-zone
returns-then-zone c name h =
    let a = c.args in
    let begun = clause_begun a.out.now a.at c.put_head.ensures in
    let one = c.put_rule-end.ensures.0 name h in
    let two = c.put_rule.ensures.0 name h in
    let first = wrote_more a.out.now a.at (field 3 []) _ begun (omega (arith, begun.behind, c.requires)) one in
    clause_as name (site_rows a.sites.list.now) a.zone.least a.zone.most c.if-zone.true
    (wrote_as (sym (clause_two name (site_rows a.sites.list.now) a.zone.least a.zone.most))
    (wrote_more a.out.now a.at _ _ first (omega (arith, first.behind, c.put_rule-end.ensures.1, c.requires)) two))

pub returns : goal.returns
returns c name h =
    let a = c.args in
    let begun = clause_begun a.out.now a.at c.put_head.ensures in
    let one = c.put_rule-end.ensures.0 name h in
    clause_as name (site_rows a.sites.list.now) a.zone.least a.zone.most c.if-zone.false
    (wrote_as (sym (clause_one name (site_rows a.sites.list.now) a.zone.least a.zone.most))
    (wrote_more a.out.now a.at (field 3 []) _ begun (omega (arith, begun.behind, c.requires)) one))
