-- The goals that the search leaves.
use borrow.Author.Rules.{rules}
use native.Mathlib.Omega.{arith}
use mathlib.Core.Path.{◌≡◌, sym, ap, ◌∙◌}
use Prim.Native.Nat.{ℕ, ◌*◌, ◌/◌}
use lib.ListN.{length, get_or}
use Rattle.division.proofs.Laws.{at_most_lem}
use Rattle.division.proofs.Whole.{whole_parts_length}
use Rattle.division.proofs.Stepwise.{mixed_first, mixed_here, mixed_next, mixed_last, whole_at}
use Rattle.division.proofs.whole_parts.Goals as goal

pub loop-x-init : goal.loop-x-init
loop-x-init c = mixed_first _ _

pub share-requires : goal.share-requires
share-requires c =
    let a = c.args in
    let i = c.loop-x.x-index in
    let n : length a.s ≡ 8 = search rules in
    let e = ap (λ l. get_or l i 0) c.loop-x.invariant ∙ mixed_here 0 _ a.s i (omega (arith, n, c.loop-x-test.true)) (whole_parts_length a.n a.t a.s) in
    (c.requires.0, omega (arith, e, at_most_lem a.s i, c.requires.1), c.requires.2)

pub loop-x-preserved : goal.loop-x-preserved
loop-x-preserved c =
    let a = c.args in
    let i = c.loop-x.x-index in
    let n : length a.s ≡ 8 = search rules in
    let e = ap (λ l. get_or l i 0) c.loop-x.invariant ∙ mixed_here 0 _ a.s i (omega (arith, n, c.loop-x-test.true)) (whole_parts_length a.n a.t a.s) in
    mixed_next 0 _ a.s i (omega (arith, n, c.loop-x-test.true)) (whole_parts_length a.n a.t a.s) c.loop-x.invariant
    (c.share.ensures ∙ ap (λ (k : ℕ). a.n * k / a.t) e ∙ sym (whole_at a.n a.t a.s i (omega (arith, n, c.loop-x-test.true))))

pub returns : goal.returns
returns c =
    let a = c.args in
    let n : length a.s ≡ 8 = search rules in
    mixed_last _ a.s _ (omega (arith, n, c.loop-x-test.false)) (whole_parts_length a.n a.t a.s) c.loop-x.invariant
