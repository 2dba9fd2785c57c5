-- `tables::fill_tables` meets its contract: the sections stand side by side.
-- Assumes nothing.
use native.Mathlib.Omega.{arith}
use mathlib.Core.Path.{sym, ◌∙◌}
use Rattle.tables.specs.Places.{behind_objective}
use Rattle.tables.proofs.Found.{begun_file, begun_front}
use Rattle.tables.proofs.Filled.{lawful_file}
use Rattle.tables.proofs.Whole.{behind_long, tables_whole}
use Rattle.tables.proofs.Lawful.fill_tables.Goals as goal

pub read_u16-variables-requires : goal.read_u16-variables-requires
unfolding behind_objective
read_u16-variables-requires c = omega (arith, begun_front _ _ c.args.self.accepts)

pub put_head-requires : goal.put_head-requires
put_head-requires c =
    let q = lawful_file _ _ c.args.self.accepts in (
      omega (
        arith,
        behind_long _ q c.args.tables.now _ _ _ c.requires.table_size_in_bounds
            c.objective_section.ensures c.clause_section-clauses.ensures.1 c.rule_section-counted.ensures.2 _
            c.lock_section.ensures,
        c.requires.table_size_in_bounds,
      ),
      omega (arith, c.clause_section-clauses.ensures.0, q.clause_count),
      omega (arith, c.rule_section-counted.ensures.0, q.rule_count),
      omega (arith, c.rule_section-counted.ensures.1, q.terms),
    )

pub returns : goal.returns
returns c =
    tables_whole _ (lawful_file _ _ c.args.self.accepts) c.args.tables.now _ _ _ c.requires.table_size_in_bounds
    c.objective_section.ensures c.clause_section-clauses.ensures.1 c.rule_section-counted.ensures.2 _ c.lock_section.ensures _
    (c.read_u16-variables.ensures ∙ sym (begun_file _ _ c.args.self.accepts).variables) c.clause_section-clauses.ensures.0
    c.rule_section-counted.ensures.0 c.rule_section-counted.ensures.1 c.put_head.ensures
