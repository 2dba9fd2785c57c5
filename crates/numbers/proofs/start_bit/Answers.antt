-- `numbers::start_bit` meets its contract: the bit of the word is that of the number.
-- Assumes nothing.
use Prim.Native.Nat.{ℕ, ◌+◌, ◌/◌, ◌%◌}
use mathlib.Core.Path.{ap, sym, ◌∙◌}
use mathlib.Core.Bool.{cond}
use Rattle.plpb.specs.Numbers.{bit}
use Rattle.numbers.proofs.Taking.{numbers_of_at}
use Rattle.numbers.proofs.start_bit.Goals as goal

pub returns : goal.returns
returns c =
    let i = c.args.i in
    c.bit_of.ensures
    ∙ ap (λ (w : ℕ). cond (bit (i % 32) w) 1 0)
    (c.word.ensures ∙ sym (numbers_of_at c.args.numbers.now (c.args.used + i / 32) c.requires))
