-- `races::part_of` meets its contract: a part out of the array.
-- Assumes nothing.
use borrow.Author.Rules.{rules}
use mathlib.Core.Path.{◌≡◌, sym}
use native.Mathlib.Omega.{arith}
use lib.ListN.{length}
use Rattle.division.specs.Eight.{laid}
use Rattle.races.proofs.Turns.{no_part, no_place, one_part}
use Rattle.races.proofs.part_of.Goals.{then-p-i-via-then-p-i, then-p-i-via-else-p-i+then-i-ge8}
use Rattle.races.proofs.part_of.Goals as goal

pub returns-then-p-i : goal.returns-then-p-i
unfolding laid
returns-then-p-i c =
    let p = c.args.p in
    let n : length p.parts ≡ 8 = search rules in
    elim c.then-p-i.branch [
      | then-p-i-via-then-p-i w ↦ sym (no_part p.count p.parts c.args.i w.if-p-i.true)
      | then-p-i-via-else-p-i+then-i-ge8 w ↦ sym (no_place p.count p.parts c.args.i (omega (arith, n, w.if-i-ge8.true)))
    ]

pub returns : goal.returns
unfolding laid
returns c =
    let p = c.args.p in
    let n : length p.parts ≡ 8 = search rules in
    sym (one_part p.count p.parts c.args.i _ c.if-p-i.false (omega (arith, n, c.if-i-ge8.false)))
