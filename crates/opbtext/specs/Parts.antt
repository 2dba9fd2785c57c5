-- The plan that two lent tables hold, and what is put of it.
-- Assumes nothing.
use Rattle.std.specs.Prelude.{List}
use Rattle.plpb.specs.Plan.{Term, Plan}
use Rattle.words.specs.Words.{word_at}
use Rattle.format.specs.Tables.{plan_of_tables}
use Rattle.opb.specs.Opb.{Line}
use Rattle.opbtext.specs.Whole.{dense_terms, lock_lines}
use Rattle.opbtext.specs.declared.lent.Whole.{Whole}

abbrev pub plan : Whole → Plan
plan w = plan_of_tables w.tables.now w.terms.now

-- A term of each variable, and a line of each that is locked.
abbrev pub coefficients : Whole → List Term
coefficients w = dense_terms w.tables.now 0 (word_at w.tables.now 0)

abbrev pub locks : Whole → List Line
locks w = lock_lines w.tables.now 0 (word_at w.tables.now 0)
