-- The goals that the search leaves.
use Prim.Native.Nat.{ℕ, ◌<◌}
use native.Mathlib.Omega.{arith}
use mathlib.Core.List.{List}
use mathlib.Core.Path.{◌≡◌, ap, ◌∙◌}
use lib.ListN.{length, set, take, drop}
use Rattle.plpb.specs.Numbers.{start_words}
use Rattle.numbers.specs.Numbers.{numbers_of}
use Rattle.numbers.proofs.Taking.{start_bit, length_start, write_more, written_all}
use Rattle.numbers.proofs.write_start.Invariants.{bytes}
use Rattle.numbers.proofs.write_start.Goals as goal

pub start_bit-requires : goal.start_bit-requires
unfolding start_words
start_bit-requires c = omega (arith, c.loop-i-test.true, c.requires)

pub loop-i-preserved : goal.loop-i-preserved
loop-i-preserved c =
    let at = c.args in
    let loop = c.loop-i in
    let n = length at.assignment.now in
    let xs = bytes at.numbers.now at.used n in
    let size : length xs ≡ n = length_start n (take (start_words n) (drop at.used (numbers_of at.numbers.now))) in
    let l : loop.i < n = omega (arith, c.loop-i-test.true) in
    ap (λ (s : List ℕ). set s loop.i c.start_bit.result) loop.invariant
    ∙ write_more xs at.assignment.now loop.i c.start_bit.result (omega arith) l
    (start_bit at.numbers.now at.used n loop.i c.start_bit.result l c.start_bit.ensures)

pub returns : goal.returns
returns c =
    let at = c.args in
    let n = length at.assignment.now in
    let xs = bytes at.numbers.now at.used n in
    let size : length xs ≡ n = length_start n (take (start_words n) (drop at.used (numbers_of at.numbers.now))) in
    c.loop-i.invariant ∙ written_all xs at.assignment.now c.loop-i.i (omega (arith, c.loop-i-test.false)) (omega (arith, c.loop-i-test.false))
