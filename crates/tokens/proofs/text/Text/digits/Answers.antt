-- The goals that the search leaves.
use Rattle.std.proofs.Common.{◌≡◌, ◌+◌, ◌*◌, ◌-◌, ◌<◌, length, get_or, drop}
use native.Mathlib.Omega.{arith}
use mathlib.Core.Path.{refl, sym, ap, ◌∙◌}
use Rattle.std.specs.Char.{is_ascii_digit}
use Rattle.tokens.specs.Tokens.{run_end, is_digit, number, number_at, seen}
use Rattle.tokens.proofs.Runs.{rest_length, rest_at, run_end_lem, run_stop, run_go}
use Rattle.tokens.proofs.Numbers.{digit_ascii, digit_range, number_end, number_stop, number_go, seen_small, seen_most}
use Rattle.tokens.proofs.text.Text.digits.Goals as goal

pub loop-passed-init : goal.loop-passed-init
unfolding number_at
loop-passed-init c =
    let s = c.args.self.bytes.now in
    let start : c.args.self.at + 0 ≡ c.args.self.at = omega arith in
    (omega arith, ap (run_end is_digit s) start, ap (λ k. seen (number_at s k)) start)

pub returns-then-not-is_ascii_digit : goal.returns-then-not-is_ascii_digit
returns-then-not-is_ascii_digit c =
    let s = c.args.self.bytes.now in
    let loop = c.loop-passed in
    let at = c.args.self.at + loop.passed in
    let in-text : at < length s = omega (arith, c.loop-passed-test.true, rest_length s c.args.self.at) in
    let e = rest_at s c.args.self.at loop.passed in
    let none = digit_ascii (get_or s at 0) (sym c.if-not-is_ascii_digit.true ∙ c.is_ascii_digit.ensures.value ∙ ap is_ascii_digit e) in
    record {
      value = sym (seen_small _ loop.invariant.0) ∙ ap seen (number_stop s loop.value at in-text none) ∙ loop.invariant.2;
      rest = record { bytes = refl; at = run_stop is_digit s at in-text none ∙ loop.invariant.1 };
    }

pub with_digit-value-requires : goal.with_digit-value-requires
with_digit-value-requires c =
    let (a, b) = digit_range _ (digit_ascii _ (sym c.if-not-is_ascii_digit.false ∙ c.is_ascii_digit.ensures.value)) in
    (c.loop-passed.invariant.0, a, b)

pub loop-passed-preserved : goal.loop-passed-preserved
loop-passed-preserved c =
    let s = c.args.self.bytes.now in
    let loop = c.loop-passed in
    let at = c.args.self.at + loop.passed in
    let in-text : at < length s = omega (arith, c.loop-passed-test.true, rest_length s c.args.self.at) in
    let e = rest_at s c.args.self.at loop.passed in
    let some = digit_ascii (get_or s at 0) (sym c.if-not-is_ascii_digit.false ∙ c.is_ascii_digit.ensures.value ∙ ap is_ascii_digit e) in
    let next : c.args.self.at + (loop.passed + 1) ≡ at + 1 = omega arith in (
      rw c.with_digit-value.ensures (seen_most _),
      ap (run_end is_digit s) next ∙ run_go is_digit s at in-text some ∙ loop.invariant.1,
      ap (λ k. seen (number c.with_digit-value.result (drop k s))) next
          ∙ number_go s loop.value at in-text some (c.with_digit-value.ensures ∙ ap (λ b. seen (10 * loop.value + (b - 48))) e)
          ∙ loop.invariant.2,
    )

pub returns : goal.returns
returns c =
    let s = c.args.self.bytes.now in
    let loop = c.loop-passed in
    let n = rest_length s c.args.self.at in
    let end : length s ≡ c.args.self.at + loop.passed = omega (arith, n, c.loop-passed-test.false, loop.auto.passed-end, c.args.self.within) in
    record {
      value =
          sym (seen_small _ loop.invariant.0) ∙ ap seen (number_end s loop.value (length s) (omega arith))
          ∙ ap (λ k. seen (number loop.value (drop k s))) end
          ∙ loop.invariant.2;
      rest = record { bytes = refl; at = run_end_lem is_digit s (length s) (omega arith) ∙ ap (run_end is_digit s) end ∙ loop.invariant.1 };
    }
