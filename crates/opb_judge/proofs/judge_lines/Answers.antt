-- The goals that the search leaves.
use Prim.Native.Nat.{ℕ, ◌≤◌, ◌<◌}
use native.Mathlib.Omega.{arith}
use mathlib.Core.Bool.{true}
use mathlib.Core.Path.{◌≡◌, sym, ap, ◌∙◌}
use lib.ListN.{length}
use Rattle.tokens.specs.Tokens.{seen}
use Rattle.tokens.proofs.Runs.{whole, read_behind, behind}
use borrow.Author.Rules.{rules}
use Rattle.std.specs.Prelude.{Err}
use Rattle.std.proofs.lemmas.Result.{err_from_is_err_and}
use Rattle.verdict.specs.declared.Refusal.{Refusal}
use Rattle.verdict.specs.Answers.{outcome}
use Rattle.opb_judge.specs.declared.Fault.{Fault}
use Rattle.opb_judge.specs.Steps.{number_of}
use Rattle.opb_lines.specs.ReadText.{variables_in, constraints_in, judging}
use Rattle.opb_lines.specs.Lines.{lines_from}
use Rattle.opb_lines.proofs.Lines.{lines_of, next_on}
use Rattle.opb_judge.proofs.Steps.{turned, kept, judged_stop, judged_go, judged_right, judged_wrong}
use Rattle.opb_judge.proofs.judge_lines.Goals as goal

pub loop-text-init : goal.loop-text-init
loop-text-init c =
    let s = c.args.s.now in
    let next = behind (whole c.from.result c.from.ensures) c.next_line-text.ensures in (
      next.bytes,
      omega arith,
      read_behind next (λ s k. outcome (judging s true 0 0 (lines_from s k))) ∙ sym (ap (λ ats. outcome (judging s true 0 0 ats)) (lines_of s)),
    )

pub judge_line-requires : goal.judge_line-requires
judge_line-requires c = (c.requires.0 ∙ ap variables_in (sym c.loop-text.invariant.0), c.requires.1)

-- The refusal of a fault at the line.
abbrev Turns : ℕ → Fault → Refusal → Type 0
Turns at fault r = r ≡ record { number = number_of fault; offset = at }

pub returns-in_err-passed : goal.returns-in_err-passed
returns-in_err-passed c =
    let inside : c.loop-text.text.at < length c.loop-text.text.bytes.now = omega (arith, c.loop-text-test.true, ap length c.loop-text.invariant.0) in
    let t = turned _ _ _ c.in_err-passed.ensures.cases in
    let turn : Turns c.loop-text.text.at t.0 c.in_err-passed.field-0.0 = let h = t.2 in search rules in
    let is = err_from_is_err_and c.from_residual.result c.from_residual.ensures.1 in
    is.1 ∙ ap Err (is.2 ∙ turn) ∙ sym (judged_stop _ _ _ c.judge_line.result c.judge_line.ensures inside _ t.1) ∙ c.loop-text.invariant.2

pub loop-text-smaller : goal.loop-text-smaller
loop-text-smaller c =
    let text = c.loop-text.text in
    let inside : c.loop-text.text.at < length c.loop-text.text.bytes.now = omega (arith, c.loop-text-test.true, ap length c.loop-text.invariant.0) in
    omega (arith, c.next_line-text-in-loop-text.ensures.at, next_on text.bytes.now text.at text.within inside)

pub loop-text-preserved : goal.loop-text-preserved
loop-text-preserved c =
    let next = c.next_line-text-in-loop-text.ensures in
    let inside : c.loop-text.text.at < length c.loop-text.text.bytes.now = omega (arith, c.loop-text-test.true, ap length c.loop-text.invariant.0) in
    let q = judged_go _ _ _ c.judge_line.result c.judge_line.ensures inside _ (kept Refusal _ _ _ c.in_ok-passed.ensures.cases (λ e h. h)) next in
    (next.bytes ∙ c.loop-text.invariant.0, q.1 c.loop-text.invariant.1, q.0 ∙ c.loop-text.invariant.2)

pub returns-then-passed-constraints : goal.returns-then-passed-constraints
returns-then-passed-constraints c =
    let none : length c.loop-text.text.bytes.now ≤ c.loop-text.text.at = omega (arith, c.loop-text-test.false, ap length c.loop-text.invariant.0) in
    let named = c.requires.2 ∙ ap (λ s. seen (constraints_in s)) (sym c.loop-text.invariant.0) in
    judged_right _ _ _ none c.loop-text.invariant.1 named c.if-passed-constraints.true ∙ c.loop-text.invariant.2

pub returns-else-passed-constraints : goal.returns-else-passed-constraints
returns-else-passed-constraints c =
    let none : length c.loop-text.text.bytes.now ≤ c.loop-text.text.at = omega (arith, c.loop-text-test.false, ap length c.loop-text.invariant.0) in
    let named = c.requires.2 ∙ ap (λ s. seen (constraints_in s)) (sym c.loop-text.invariant.0) in
    ap Err c.refusal.ensures
    ∙ judged_wrong _ _ _ none c.loop-text.invariant.1 named c.if-passed-constraints.false
    ∙ c.loop-text.invariant.2
