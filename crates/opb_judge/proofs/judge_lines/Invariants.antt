-- `opb_judge::judge_lines` meets its contract. The invariant: the lines from the present one on come to what all lines come to. The measure is what is left of
-- the text.
-- Assumes nothing.
use Prim.Native.Nat.{◌-◌, ◌≤◌}
use mathlib.Core.Bool.{true}
use mathlib.Core.Path.{◌≡◌}
use lib.ListN.{length}
use Rattle.verdict.specs.Answers.{outcome}
use Rattle.tokens.specs.Found.{read}
use Rattle.opb_lines.specs.ReadText.{starts, judging}
use Rattle.opb_lines.specs.Lines.{lines_from}
use Rattle.opb_judge.proofs.judge_lines.Given as goal

abbrev pub invariant-loop-text : goal.invariant-loop-text
invariant-loop-text l =
    (l.text.bytes.now ≡ l.s) × (l.passed.constraints ≤ 512)
    × (outcome (judging l.text.bytes.now l.passed.free l.passed.constraints l.passed.terms (read lines_from l.text)) ≡ outcome (judging l.s true 0 0 (starts 0 l.s)))

abbrev pub decreases-loop-text : goal.decreases-loop-text
decreases-loop-text l = length l.s - l.text.at
