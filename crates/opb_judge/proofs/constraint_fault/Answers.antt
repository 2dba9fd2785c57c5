-- `opb_judge::constraint_fault` meets its contract.
-- Assumes nothing.
use mathlib.Core.Bool.{Bool, true, false, not}
use mathlib.Core.Path.{◌≡◌, refl, sym, ap, subst, ◌∙◌}
use Prim.Native.Nat.{◌+◌}
use lib.Dec.{leb, ltb}
use borrow.Author.Tests.{not-true, not-false}
use Rattle.std.proofs.lemmas.Result.{err_from_is_err_and}
use Rattle.plpb.specs.Lists.{◌or◌, is_empty}
use Rattle.format.proofs.Bools.{and_join}
use Rattle.tokens.specs.Tokens.{number_at, seen}
use Rattle.tokens.specs.Found.{read, Reads}
use Rattle.statements.specs.declared.Sum.{Sum}
use Rattle.statements.specs.declared.Relation.{Relation}
use Rattle.statements.specs.Parts.{SumAt, RelationAt}
use Rattle.tokens.proofs.Runs.{read_behind, behind}
use Rattle.statements.specs.Grammar.{is_objective, terms_in, has_terms, constraint_formed, is_bounded, bound_from, closes, unsigned_from}
use Rattle.statements.proofs.Parts.{left_false, last_false}
use Rattle.opb_lines.specs.ReadText.{variables_in, first_met, constraint_fault}
use Rattle.opb_judge.specs.declared.Line.{Line}
use Rattle.opb_judge.specs.declared.Passed.{Passed}
use Rattle.opb_judge.specs.Steps.{constraint_line, Finds}
use Rattle.opb_judge.proofs.Faults.{not_there, there, refused_late, refused_some, sum_plain, met_same, malformed_is, bound_seen, above_first, full_next, wide_next, lawful_last, told_on}
use Rattle.opb_judge.proofs.constraint_fault.Goals as goal

pub returns-in_err-relation : goal.returns-in_err-relation
unfolding constraint_fault constraint_formed
returns-in_err-relation c =
    let none = not_there _ _ _ c.relation_at.ensures c.in_err-relation.ensures.value in
    let is = err_from_is_err_and c.from_residual.result c.from_residual.ensures.1 in
    rw (is.1, is.2) (told_on refl none.1 (refused_late _ (malformed_is _ _ _ _ (left_false _ (sym (read_behind c.requires.0.rest is_bounded) ∙ none.0)))))

pub returns-in_err-fault_if : goal.returns-in_err-fault_if
unfolding constraint_fault constraint_formed
returns-in_err-fault_if c =
    let line = c.args.line in
    let relation = there _ _ _ _ c.relation_at.ensures c.in_ok-relation.ensures.value in
    let shut = c.closed.ensures ∙ read_behind (behind c.requires.0.rest relation.1.rest) (λ s k. closes s k line.end) ∙ ap (closes _ _) line.ends in
    let is = err_from_is_err_and c.from_residual-in_err-fault_if.result c.from_residual-in_err-fault_if.ensures.1 in
    rw (is.1, is.2) (told_on refl c.in_err-fault_if.ensures.1 (refused_late _ (malformed_is _ _ _ _ (last_false _ (sym shut ∙ not-true _ c.in_err-fault_if.ensures.0)))))

-- A formed constraint meets what its line meets.
formed_meets :
    (line : Line) (sum : Sum) (passed : Passed) → SumAt line.text.bytes.now line.text.at (variables_in line.text.bytes.now) sum → read is_objective line.text ≡ false
    → (r : Relation) → (read is_bounded sum.rest ≡ true) × Reads RelationAt sum.rest r → closes r.rest.bytes.now r.rest.at line.end ≡ true
    → {full : Bool} → full ≡ (leb 512 passed.constraints or ltb 6_000 (passed.terms + sum.count))
    → first_met false sum.above full (ltb 1_000_000_000 r.bound.size) (not sum.lawful)
    ≡ constraint_line line.text.bytes.now passed.constraints passed.terms line.text.at
unfolding constraint_fault constraint_formed has_terms
formed_meets line sum passed q plain r (b, h) k full =
    let s = line.text.bytes.now in
    let bounded = sym (read_behind q.rest is_bounded) ∙ b in
    let shut = sym k ∙ read_behind (behind q.rest h.rest) (λ s k. closes s k line.end) ∙ ap (closes _ _) line.ends in
    let past = full ∙ ap (λ k. leb 512 passed.constraints or ltb 6_000 (passed.terms + k)) q.count in
    let wide = bound_seen s line.text.at (h.bound.size ∙ read_behind q.rest (λ s k. seen (number_at s (unsigned_from s (bound_from s k))))) in
    let some = subst (λ k. has_terms s k ≡ true) (sum_plain _ _ plain) q.some in
    met_same (sym (and_join _ _ bounded (sym shut))) q.above past wide q.lawful ∙ refused_some (is_empty (terms_in s line.text.at)) _ some

pub returns-in_err-fault_if-2 : goal.returns-in_err-fault_if-2
returns-in_err-fault_if-2 c =
    let met = formed_meets c.args.line c.args.sum c.args.passed c.requires.0 c.requires.1 _ (there _ _ _ _ c.relation_at.ensures c.in_ok-relation.ensures.value) (sym c.closed.ensures ∙ not-false _ c.in_ok-fault_if.ensures) refl in
    let is = err_from_is_err_and c.from_residual-in_err-fault_if-2.result c.from_residual-in_err-fault_if-2.ensures.1 in
    rw (is.1, is.2) (told_on met c.in_err-fault_if-2.ensures.1 (above_first _ _ _ c.in_err-fault_if-2.ensures.0))

pub returns-in_err-fault_if-3 : goal.returns-in_err-fault_if-3
returns-in_err-fault_if-3 c =
    let met = formed_meets c.args.line c.args.sum c.args.passed c.requires.0 c.requires.1 _ (there _ _ _ _ c.relation_at.ensures c.in_ok-relation.ensures.value) (sym c.closed.ensures ∙ not-false _ c.in_ok-fault_if.ensures) c.rules_full-full.ensures in
    let is = err_from_is_err_and c.from_residual-in_err-fault_if-3.result c.from_residual-in_err-fault_if-3.ensures.1 in
    rw (is.1, is.2) (told_on met c.in_err-fault_if-3.ensures.1 (full_next _ _ c.in_ok-fault_if-2.ensures c.in_err-fault_if-3.ensures.0))

pub returns-in_err-fault_if-4 : goal.returns-in_err-fault_if-4
returns-in_err-fault_if-4 c =
    let met = formed_meets c.args.line c.args.sum c.args.passed c.requires.0 c.requires.1 _ (there _ _ _ _ c.relation_at.ensures c.in_ok-relation.ensures.value) (sym c.closed.ensures ∙ not-false _ c.in_ok-fault_if.ensures) c.rules_full-full.ensures in
    let is = err_from_is_err_and c.from_residual-in_err-fault_if-4.result c.from_residual-in_err-fault_if-4.ensures.1 in
    rw (is.1, is.2) (told_on met c.in_err-fault_if-4.ensures.1 (wide_next _ c.in_ok-fault_if-2.ensures c.in_ok-fault_if-3.ensures c.in_err-fault_if-4.ensures.0))

pub returns : goal.returns
returns c =
    let met = formed_meets c.args.line c.args.sum c.args.passed c.requires.0 c.requires.1 _ (there _ _ _ _ c.relation_at.ensures c.in_ok-relation.ensures.value) (sym c.closed.ensures ∙ not-false _ c.in_ok-fault_if.ensures) c.rules_full-full.ensures in
    subst (λ k. Finds k c.fault_if-5.result) met
    (lawful_last _ c.in_ok-fault_if-2.ensures c.in_ok-fault_if-3.ensures c.in_ok-fault_if-4.ensures _ c.fault_if-5.ensures)
