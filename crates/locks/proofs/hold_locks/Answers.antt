-- The goals that the search leaves.
use Prim.Native.Nat.{ℕ, ◌<◌}
use native.Mathlib.Omega.{arith}
use mathlib.Core.List.{List, ◌++◌}
use mathlib.Core.Path.{◌≡◌, sym, ap, ap₂, ◌∙◌}
use lib.ListN.{length, get_or, set, take, drop}
use lib.Seq.{length-take-le, get_or-take}
use Rattle.numbers.proofs.Taking.{write_more, written_all}
use Rattle.locks.specs.Held.{held_by, held_first, held_bytes}
use Rattle.locks.proofs.Holding.{length_held, held_at, not_yet}
use Rattle.locks.proofs.hold_locks.Goals as goal

pub loop-i-preserved : goal.loop-i-preserved
loop-i-preserved c =
    let loop = c.loop-i in
    let n = c.args.n in
    let bytes = c.args.assignment.now in
    let xs = held_first c.args.tables.now n bytes in
    let size : length xs ≡ n = length_held c.args.tables.now n bytes in
    let short : length (take n bytes) ≡ n = length-take-le n bytes (omega (arith, c.requires.1)) in
    let l : loop.i < n = omega (arith, c.loop-i-test.true, short) in
    let read : get_or loop.byte-items loop.i 0 ≡ get_or bytes loop.i 0 =
    ap (λ (s : List ℕ). get_or s loop.i 0) loop.invariant ∙ not_yet xs (take n bytes) loop.i (omega arith) (omega arith) ∙ get_or-take n bytes loop.i 0 l in
    ap (λ (s : List ℕ). set s loop.i c.held.result) loop.invariant
    ∙ write_more xs (take n bytes) loop.i c.held.result (omega arith) (omega arith)
    (c.held.ensures ∙ ap₂ held_by c.word.ensures read ∙ sym (held_at c.args.tables.now n bytes loop.i l))

pub returns : goal.returns
unfolding held_bytes
returns c =
    let n = c.args.n in
    let bytes = c.args.assignment.now in
    let xs = held_first c.args.tables.now n bytes in
    let size : length xs ≡ n = length_held c.args.tables.now n bytes in
    let short : length (take n bytes) ≡ n = length-take-le n bytes (omega (arith, c.requires.1)) in
    ap (λ (s : List ℕ). s ++ drop n bytes) (c.loop-i.invariant ∙ written_all xs (take n bytes) c.loop-i.i (omega (arith, c.loop-i-test.false)) (omega (arith, c.loop-i-test.false)))
