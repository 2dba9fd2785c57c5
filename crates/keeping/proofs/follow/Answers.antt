-- The goals that the search leaves.
use Prim.Native.Nat.{ℕ, ◌+◌, ◌-◌, ◌≤◌, ◌<◌}
use native.Mathlib.Omega.{arith}
use mathlib.Core.Path.{◌≡◌, ap, ◌∙◌}
use mathlib.Core.List.{List}
use lib.ListN.{length}
use Rattle.words.specs.Words.{word_at}
use Rattle.order.specs.Order.{occurrences}
use Rattle.format.specs.Layout.{end_at, entry_at}
use Rattle.format.specs.Tables.{plan_of_tables}
use Rattle.recount.proofs.Laid.{tables_long}
use Rattle.columns.specs.Layout.{weight_at}
use Rattle.flips.specs.Passing.{Followable}
use Rattle.flips.proofs.Following.{run_size, run_few, places_few}
use Rattle.keeping.proofs.Keeping.{keeping_at, keeping_start, keeping_end, place_ready, place_kept}
use Rattle.keeping.proofs.follow.Goals as goal

-- The place that is next is one of the run, and its words are those that are read.
inside : {tables terms bits t₀ : List ℕ} {x to k : ℕ} → Followable tables terms bits t₀ x → word_at tables (end_at (x - 1)) ≤ k → k < to → to ≡ word_at tables (end_at x) → k - word_at tables (end_at (x - 1)) < length (occurrences (plan_of_tables tables terms) x)
inside y l h e = omega (arith, e, run_size y)

here : (s : List ℕ) (at : ℕ → ℕ) (from k : ℕ) {w : ℕ} → from ≤ k → w ≡ word_at s (at k) → w ≡ word_at s (at (from + (k - from)))
here s at from k l h = let z : k ≡ from + (k - from) = omega arith in h ∙ ap (λ i. word_at s (at i)) z

pub loop-k-init : goal.loop-k-init
loop-k-init c =
    let z : 0 ≡ c.run_of-run.result.start - word_at c.args.lent.now.plan.tables.now (end_at (c.args.x - 1)) = omega (arith, c.run_of-run.ensures.0) in
    (omega (arith, c.run_of-run.ensures.0), omega (arith, c.run_of-run.ensures.0, c.run_of-run.ensures.1, run_size c.requires.follow), keeping_at z (keeping_start c.requires), λ j. omega (arith, c.slice_known-1.given j))

pub pass-requires : goal.pass-requires
pass-requires c =
    let i = c.loop-k.invariant in
    place_ready c.requires (inside c.requires.follow i.0 c.loop-k-test.true c.run_of-run.ensures.1)
    (here c.args.lent.now.plan.tables.now (λ n. entry_at n) (word_at c.args.lent.now.plan.tables.now (end_at (c.args.x - 1))) _ i.0 c.word.ensures)
    (here c.args.marks.now (λ n. weight_at n) (word_at c.args.lent.now.plan.tables.now (end_at (c.args.x - 1))) _ i.0 c.word-in-loop-k.ensures)
    c.value_of-value.ensures i.2

pub loop-k-preserved : goal.loop-k-preserved
loop-k-preserved c =
    let i = c.loop-k.invariant in
    let from = word_at c.args.lent.now.plan.tables.now (end_at (c.args.x - 1)) in
    let next : c.loop-k.k - word_at c.args.lent.now.plan.tables.now (end_at (c.args.x - 1)) + 1 ≡ c.loop-k.k + 1 - word_at c.args.lent.now.plan.tables.now (end_at (c.args.x - 1)) = omega (arith, i.0) in (
      omega (arith, i.0),
      omega (arith, c.loop-k-test.true),
      keeping_at next
          (place_kept c.requires (inside c.requires.follow i.0 c.loop-k-test.true c.run_of-run.ensures.1)
          (here c.args.lent.now.plan.tables.now (λ n. entry_at n) from _ i.0 c.word.ensures)
          (here c.args.marks.now (λ n. weight_at n) from _ i.0 c.word-in-loop-k.ensures)
          c.value_of-value.ensures i.2 c.pass.ensures),
      λ j. omega (arith, c.slice_known-in-loop-k-1.given j),
    )

pub returns : goal.returns
returns c =
    let i = c.loop-k.invariant in
    let all : c.loop-k.k - word_at c.args.lent.now.plan.tables.now (end_at (c.args.x - 1)) ≡ length (occurrences (plan_of_tables c.args.lent.now.plan.tables.now c.args.lent.now.plan.terms.now) c.args.x) = omega (arith, i.0, i.1, c.loop-k-test.false, c.run_of-run.ensures.1, run_size c.requires.follow) in
    keeping_end c.requires i.2 all i.3

pub run_of-run-requires : goal.run_of-run-requires
run_of-run-requires c = (c.requires.follow.low, omega (arith, places_few c.requires.follow, tables_long _ _ c.args.lent.now.plan.laid))

pub overflow_add-k : goal.overflow_add-k
overflow_add-k c = omega (arith, c.loop-k-test.true, c.run_of-run.ensures.1, run_few c.requires.follow)

pub word-requires : goal.word-requires
word-requires c = omega (arith, c.loop-k-test.true, c.run_of-run.ensures.1, run_few c.requires.follow, tables_long _ _ c.args.lent.now.plan.laid)

pub overflow_add-k-in-loop-k : goal.overflow_add-k-in-loop-k
overflow_add-k-in-loop-k c = omega (arith, c.loop-k-test.true, c.run_of-run.ensures.1, run_few c.requires.follow)

pub word-requires-in-loop-k : goal.word-requires-in-loop-k
word-requires-in-loop-k c = omega (arith, c.loop-k-test.true, c.run_of-run.ensures.1, run_few c.requires.follow, c.requires.weighed.room)
