-- The rules of a clause that is lent.
-- Assumes nothing.
use Rattle.plpb.specs.Plan.{Clause}
use Rattle.words.specs.Words.{word_at}
use Rattle.clauselines.specs.Clauses.{rules_in}
use Rattle.clauselines.specs.declared.several.Several.{Several}

abbrev pub several : Several → Clause
several s = rules_in (word_at s.tables.now) (word_at s.terms.now) s.first s.count
