-- `opb_read::fill_tables` meets its contract.
-- Assumes nothing.
use borrow.Author.Rules.{rules}
use native.Mathlib.Omega.{arith}
use Rattle.std.proofs.lemmas.Option.{MatchOption-at_some}
use Rattle.tables.proofs.Whole.{three_long, behind_long, tables_whole}
use Rattle.opb_fill.proofs.Accepted.{formed, lawful_text}
use Rattle.opb_read.proofs.Whole.{first_variables, first_constraints, zeros_free}
use Rattle.opb_read.proofs.fill_tables.Goals as goal

pub unwrap-first-requires : goal.unwrap-first-requires
unwrap-first-requires c = let e = formed c.args.lawful.text.now _ c.args.lawful.says in search rules

pub clause_section-requires : goal.clause_section-requires
clause_section-requires c =
    record { clauses_value = (first_constraints _ c.args.lawful.says _ (MatchOption-at_some _ _ _ c.unwrap-first.ensures c.first_line.ensures).1, search rules) }

pub slice_bounds-fill-end : goal.slice_bounds-fill-end
slice_bounds-fill-end c =
    omega (
      arith,
      three_long _ (lawful_text _ _ c.args.lawful.says) c.args.tables.now _ _ _ c.requires.table_size_in_bounds
          c.objective_section.ensures c.clause_section.ensures c.rule_section-counted.ensures.2,
      c.requires.table_size_in_bounds,
    )

pub put_head-requires : goal.put_head-requires
put_head-requires c =
    let q = lawful_text _ _ c.args.lawful.says in
    let rules = c.rule_section-counted.ensures in (
      omega (
        arith,
        behind_long _ q c.args.tables.now _ _ _ c.requires.table_size_in_bounds
            c.objective_section.ensures c.clause_section.ensures rules.2 _ (zeros_free _ (c.fill.ensures.after (λ y h. search)) search),
        c.requires.table_size_in_bounds,
      ),
      omega (arith, first_constraints _ c.args.lawful.says _ (MatchOption-at_some _ _ _ c.unwrap-first.ensures c.first_line.ensures).1, q.clause_count),
      omega (arith, rules.0, q.rule_count),
      omega (arith, rules.1, q.terms),
    )

pub returns : goal.returns
returns c =
    let first = (MatchOption-at_some _ _ _ c.unwrap-first.ensures c.first_line.ensures).1 in
    let rules = c.rule_section-counted.ensures in
    tables_whole _ (lawful_text _ _ c.args.lawful.says) c.args.tables.now _ _ _ c.requires.table_size_in_bounds
    c.objective_section.ensures c.clause_section.ensures rules.2 _ (zeros_free _ (c.fill.ensures.after (λ y h. search)) search) _
    (first_variables _ c.args.lawful.says _ first) (first_constraints _ c.args.lawful.says _ first)
    rules.0 rules.1 c.put_head.ensures
