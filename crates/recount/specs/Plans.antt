-- What two tables that are lent say.
-- Assumes nothing.
use Rattle.std.specs.Prelude.{ℕ}
use Rattle.plpb.specs.Plan.{Plan, Rule, Clause}
use Rattle.words.specs.Words.{word_at}
use Rattle.format.specs.Tables.{rule_of, clause_of, plan_of_tables}
use Rattle.recount.specs.declared.tables.Tables.{Tables}

-- The plan that they hold.
abbrev pub plan : Tables → Plan
plan t = plan_of_tables t.tables.now t.terms.now

-- Its rules and clauses, as they are read.
abbrev pub rule : Tables → ℕ → Rule
rule t r = rule_of (word_at t.tables.now) (word_at t.terms.now) r

abbrev pub clause : Tables → ℕ → Clause
clause t c = clause_of (word_at t.tables.now) (word_at t.terms.now) c
