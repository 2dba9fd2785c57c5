-- `Text::digits` meets its contract. The invariant: the digits from the present place on end where the number's do, and what is seen with them is what is seen
-- of the number.
-- Assumes nothing.
use Rattle.std.proofs.Common.{◌≡◌, ◌≤◌, ◌+◌, drop}
use Rattle.tokens.specs.Tokens.{run_end, is_digit, number, number_at, most, seen}
use Rattle.tokens.proofs.text.Text.digits.Given as goal

abbrev pub invariant-loop-passed : goal.invariant-loop-passed
invariant-loop-passed l =
    (l.value ≤ most) × (run_end is_digit l.self.bytes.now (l.self.at + l.passed) ≡ run_end is_digit l.self.bytes.now l.self.at)
    × (seen (number l.value (drop (l.self.at + l.passed) l.self.bytes.now)) ≡ seen (number_at l.self.bytes.now l.self.at))
