-- `calls::tests::Lent::flip_refusal` meets its contract: the word of the variable among the locks answers what the definition asks next. Assumes nothing.
use native.Mathlib.Omega.{arith}
use mathlib.Core.Path.{sym}
use Rattle.tallies.proofs.Refusals.{takes}
use Rattle.calls.proofs.Opening.{passed_on, some_number}
use Rattle.calls.proofs.Accepting.{loaded_tables, few_variables, flip_first, flip_locked, flip_free}
use Rattle.calls.proofs.tests.Lent.flip_refusal.Goals as goal

pub returns-in_err-t : goal.returns-in_err-t
returns-in_err-t c =
    let q = c.in_err-t.field-0.0 in
    passed_on _ q c.from_residual.ensures.1 (flip_first _ _ _ c.in_err-t.ensures.number (some_number q))

pub word-requires : goal.word-requires
word-requires c =
    let z = sym c.in_ok-t.ensures.number in
    omega (arith, loaded_tables _ (takes _ _ z).opening, few_variables _ _ z)

pub returns-then-word-gt0 : goal.returns-then-word-gt0
returns-then-word-gt0 c =
    record { number = flip_locked _ _ (sym c.in_ok-t.ensures.number) (omega (arith, c.word.ensures)); handed = tt }

pub returns : goal.returns
returns c =
    record { number = flip_free _ _ (sym c.in_ok-t.ensures.number) (omega (arith, c.word.ensures)); handed = c.in_ok-t.ensures.handed }
