-- `writer::write_text` meets its contract: each refusal in its order, then the text, which was measured first.
-- Assumes nothing.
use mathlib.Core.Path.{sym, ◌∙◌}
use borrow.Author.Tests.{not-true, not-false}
use Rattle.writer.proofs.Short.{ready}
use Rattle.writer.proofs.Answers.{short_tables, short_terms, not_loaded, is_outgrown, is_written}
use Rattle.writer.proofs.write_text.Goals.{then-tables-lt-TABLES-via-then-tables-lt-TABLES, then-tables-lt-TABLES-via-else-tables-lt-TABLES+then-terms-lt-TERMS}
use Rattle.writer.proofs.write_text.Goals as goal

pub returns-then-tables-lt-TABLES : goal.returns-then-tables-lt-TABLES
returns-then-tables-lt-TABLES c = elim c.then-tables-lt-TABLES.branch [
  | then-tables-lt-TABLES-via-then-tables-lt-TABLES w ↦
      let o = short_tables c.args.tables.now c.args.terms.now c.args.text.now w.if-tables-lt-TABLES.true in record { answer = o.0; text_after = o.1 }
  | then-tables-lt-TABLES-via-else-tables-lt-TABLES+then-terms-lt-TERMS w ↦
      let o = short_terms c.args.tables.now c.args.terms.now c.args.text.now w.if-tables-lt-TABLES.false w.if-terms-lt-TERMS.true in
      record { answer = o.0; text_after = o.1 }
]

pub returns-then-not-good : goal.returns-then-not-good
returns-then-not-good c =
    let o =
    not_loaded c.args.tables.now c.args.terms.now c.args.text.now c.if-tables-lt-TABLES.false c.if-terms-lt-TERMS.false
    (sym c.good.ensures ∙ not-true _ c.if-not-good.true-raw) in
    record { answer = o.0; text_after = o.1 }

pub put_text-length-requires : goal.put_text-length-requires
put_text-length-requires c =
    (ready c.args.tables.now c.args.terms.now c.if-tables-lt-TABLES.false c.if-terms-lt-TERMS.false (sym c.good.ensures ∙ not-false _ c.if-not-good.false-raw)).1

pub returns-then-text-length : goal.returns-then-text-length
returns-then-text-length c =
    let o =
    is_outgrown c.args.tables.now c.args.terms.now c.args.text.now c.if-tables-lt-TABLES.false c.if-terms-lt-TERMS.false
    (sym c.good.ensures ∙ not-false _ c.if-not-good.false-raw) c.put_text-length.ensures c.if-text-length.true in
    record { answer = (o.0, o.1); text_after = o.2 }

pub returns : goal.returns
returns c =
    let o =
    is_written c.args.tables.now c.args.terms.now c.args.text.now c.if-tables-lt-TABLES.false c.if-terms-lt-TERMS.false
    (sym c.good.ensures ∙ not-false _ c.if-not-good.false-raw) c.put_text-length.ensures c.if-text-length.false c.put_text.ensures in
    record { answer = (o.0, o.1); text_after = o.2 }

pub invariant_of-whole : goal.invariant_of-whole
invariant_of-whole c =
    record { fits = (ready c.args.tables.now c.args.terms.now c.if-tables-lt-TABLES.false c.if-terms-lt-TERMS.false (sym c.good.ensures ∙ not-false _ c.if-not-good.false-raw)).0 }
