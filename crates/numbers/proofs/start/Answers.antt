-- `numbers::start` meets its contract, by whether numbers enough are left.
-- Assumes nothing.
use Prim.Native.Nat.{ℕ}
use mathlib.Core.List.{List, ◌++◌}
use mathlib.Core.Path.{◌≡◌, refl, ap}
use lib.ListN.{length, take, drop}
use lib.Seq.{length-take-le}
use Rattle.numbers.proofs.Taking.{starts_taken, starts_short, words_needed}
use Rattle.numbers.proofs.start.Goals as goal

pub returns-then-numbers-after : goal.returns-then-numbers-after
returns-then-numbers-after c =
    let at = c.args in
    let needs = words_needed at.numbers.now at.used at.n c.div_ceil.ensures in
    starts_short at.numbers.now at.used at.n at.assignment.now at.assignment.now (rw needs at c.if-numbers-after.true) refl

pub write_start-requires : goal.write_start-requires
write_start-requires c =
    let at = c.args in
    let short : length (take at.n at.assignment.now) ≡ at.n = length-take-le at.n at.assignment.now c.requires.1 in
    let needs = words_needed at.numbers.now at.used at.n c.div_ceil.ensures in
    rw (short, ← needs) c.if-numbers-after.false

pub returns : goal.returns
returns c =
    let at = c.args in
    let short : length (take at.n at.assignment.now) ≡ at.n = length-take-le at.n at.assignment.now c.requires.1 in
    let needs = words_needed at.numbers.now at.used at.n c.div_ceil.ensures in
    rw needs (starts_taken at.numbers.now at.used at.n at.assignment.now (c.write_start.new.assignment ++ drop at.n at.assignment.now) (rw needs at c.if-numbers-after.false)
    (ap (λ (s : List ℕ). s ++ drop at.n at.assignment.now) (rw short at c.write_start.ensures)))
