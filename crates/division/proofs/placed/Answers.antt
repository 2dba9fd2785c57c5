-- The goals that the search leaves.
use borrow.Author.Rules.{rules}
use native.Mathlib.Omega.{arith}
use mathlib.Core.Path.{◌≡◌, refl, ◌∙◌}
use lib.ListN.{length}
use Rattle.division.specs.Split.{sum}
use Rattle.division.proofs.Stepwise.{mixed_first, mixed_next, mixed_last, parts_length, part_at, sum_next, sum_room}
use Rattle.division.proofs.placed.Goals as goal

pub loop-i-init : goal.loop-i-init
unfolding sum
loop-i-init c = (mixed_first _ _, refl)

pub overflow_add-at : goal.overflow_add-at
overflow_add-at c = record { fits = omega (arith, sum_room c.args.l c.loop-i.i c.loop-i.invariant.1 refl, c.requires) }

pub loop-i-preserved : goal.loop-i-preserved
loop-i-preserved c =
    let a = c.args in
    let i = c.loop-i.i in
    let n : length a.l ≡ 8 = search rules in (
      mixed_next (record { first = 0; length = 0 }) _ _ i (omega (arith, c.loop-i-test.true)) (parts_length 0 a.l ∙ n) c.loop-i.invariant.0
          (part_at a.l i _ (omega (arith, n, c.loop-i-test.true)) c.loop-i.invariant.1 refl),
      sum_next a.l i c.loop-i.invariant.1 refl,
    )

pub returns : goal.returns
returns c =
    let a = c.args in
    let n : length a.l ≡ 8 = search rules in
    mixed_last _ _ _ (omega (arith, c.loop-i-test.false)) (parts_length 0 a.l ∙ n) c.loop-i.invariant.0
