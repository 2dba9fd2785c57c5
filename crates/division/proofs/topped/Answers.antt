-- The goals that the search leaves.
use borrow.Author.Rules.{rules}
use native.Mathlib.Omega.{arith}
use mathlib.Core.Path.{◌≡◌, sym, ap, ap₂, ◌∙◌}
use Prim.Native.Nat.{ℕ, ◌+◌}
use lib.ListN.{length, get_or}
use Rattle.division.proofs.Laws.{at_most_lem}
use Rattle.division.proofs.Plain.{ones_length}
use Rattle.division.proofs.Stepwise.{mixed_first, mixed_here, mixed_next, mixed_last, ones_at}
use Rattle.division.proofs.topped.Goals as goal

pub loop-i-init : goal.loop-i-init
loop-i-init c = mixed_first _ _

pub overflow_add-x : goal.overflow_add-x
overflow_add-x c =
    let a = c.args in
    let i = c.loop-i.i in
    let n : length a.b ≡ 8 = search rules in
    let e = ap (λ l. get_or l i 0) c.loop-i.invariant ∙ mixed_here 0 _ a.b i (omega (arith, n, c.loop-i-test.true)) (ones_length a.r a.b) in
    record { fits = omega (arith, e, at_most_lem a.b i, c.requires, c.extra.ensures.1) }

pub loop-i-preserved : goal.loop-i-preserved
loop-i-preserved c =
    let a = c.args in
    let i = c.loop-i.i in
    let n : length a.b ≡ 8 = search rules in
    let e = ap (λ l. get_or l i 0) c.loop-i.invariant ∙ mixed_here 0 _ a.b i (omega (arith, n, c.loop-i-test.true)) (ones_length a.r a.b) in
    mixed_next 0 _ a.b i (omega (arith, n, c.loop-i-test.true)) (ones_length a.r a.b) c.loop-i.invariant
    (ap₂ (λ (x y : ℕ). x + y) e c.extra.ensures.0 ∙ sym (ones_at a.r a.b i (omega (arith, n, c.loop-i-test.true))))

pub returns : goal.returns
returns c =
    let a = c.args in
    let n : length a.b ≡ 8 = search rules in
    mixed_last _ a.b _ (omega (arith, n, c.loop-i-test.false)) (ones_length a.r a.b) c.loop-i.invariant
