-- The goals that the search leaves.
use Prim.Native.Nat.{ℕ, ◌+◌, ◌-◌, ◌≤◌, ◌<◌}
use native.Mathlib.Omega.{arith}
use mathlib.Core.Path.{◌≡◌, refl, sym, ap, ◌∙◌}
use mathlib.Core.List.{List}
use lib.ListN.{length}
use Rattle.words.specs.Words.{word_at}
use Rattle.order.specs.Order.{occurrences}
use Rattle.format.specs.Tables.{plan_of_tables}
use Rattle.format.specs.Layout.{end_at, entry_at}
use Rattle.recount.proofs.Laid.{tables_long}
use Rattle.flips.specs.Passing.{Followable}
use Rattle.flips.proofs.Passing.{inside_more}
use Rattle.flips.proofs.Following.{going_at, going_start, going_whole, follow_room, run_size, run_named, run_few, places_few, pass_ready, pass_step}
use Rattle.flips.proofs.follow.Goals as goal

-- The place that is next is one of the run, and its word the one that is read.
inside : {tables terms bits t₀ : List ℕ} {x from to k : ℕ} → Followable tables terms bits t₀ x → from ≤ k → k < to → from ≡ word_at tables (end_at (x - 1)) → to ≡ word_at tables (end_at x) → k - from < length (occurrences (plan_of_tables tables terms) x)
inside y l h e f = omega (arith, e, f, run_size y)

here : (tables : List ℕ) (x : ℕ) {from k w : ℕ} → from ≤ k → from ≡ word_at tables (end_at (x - 1)) → w ≡ word_at tables (entry_at k) → w ≡ word_at tables (entry_at (word_at tables (end_at (x - 1)) + (k - from)))
here tables x {from} {k} l e h = let z : k ≡ word_at tables (end_at (x - 1)) + (k - from) = omega (arith, e) in h ∙ ap (λ i. word_at tables (entry_at i)) z

pub loop-k-init : goal.loop-k-init
loop-k-init c =
    let z : c.run_of-run.result.start - c.run_of-run.result.start ≡ 0 = omega arith in
    (omega arith, omega (arith, c.run_of-run.ensures.0, c.run_of-run.ensures.1, run_size c.requires), going_at (sym z) (going_start c.requires), record { size = refl; beyond = refl }, λ j. omega (arith, c.slice_known-1.given j))

pub pass-requires : goal.pass-requires
pass-requires c =
    let i = c.loop-k.invariant in
    pass_ready c.requires (inside c.requires i.0 c.loop-k-test.true c.run_of-run.ensures.0 c.run_of-run.ensures.1) (here c.args.lent.now.plan.tables.now c.args.x i.0 c.run_of-run.ensures.0 c.word.ensures) i.2 (rw i.3.size (follow_room c.requires))

pub loop-k-preserved : goal.loop-k-preserved
loop-k-preserved c =
    let i = c.loop-k.invariant in
    let next : c.loop-k.k - c.run_of-run.result.start + 1 ≡ c.loop-k.k + 1 - c.run_of-run.result.start = omega (arith, i.0) in (
      omega (arith, i.0),
      omega (arith, c.loop-k-test.true),
      going_at next
          (pass_step c.requires (inside c.requires i.0 c.loop-k-test.true c.run_of-run.ensures.0 c.run_of-run.ensures.1) (here c.args.lent.now.plan.tables.now c.args.x i.0 c.run_of-run.ensures.0 c.word.ensures) i.2 c.pass.ensures.0),
      inside_more i.3 c.pass.ensures.1,
      λ j. omega (arith, c.slice_known-in-loop-k-1.given j),
    )

pub returns : goal.returns
returns c =
    let i = c.loop-k.invariant in
    let all : c.loop-k.k - c.run_of-run.result.start ≡ length (occurrences (plan_of_tables c.args.lent.now.plan.tables.now c.args.lent.now.plan.terms.now) c.args.x) =
    omega (arith, i.0, i.1, c.loop-k-test.false, c.run_of-run.ensures.0, c.run_of-run.ensures.1, run_size c.requires) in
    let size : c.run_of-run.result.end - c.run_of-run.result.start ≡ length (occurrences (plan_of_tables c.args.lent.now.plan.tables.now c.args.lent.now.plan.terms.now) c.args.x) =
    omega (arith, c.run_of-run.ensures.0, c.run_of-run.ensures.1, run_size c.requires) in
    (c.narrow.ensures ∙ size ∙ run_named c.requires, going_whole c.requires i.2 i.3 all i.4)

pub run_of-run-requires : goal.run_of-run-requires
run_of-run-requires c = (c.requires.low, omega (arith, places_few c.requires, tables_long _ _ c.requires.ready.laid))

pub overflow_add-k : goal.overflow_add-k
overflow_add-k c = omega (arith, c.loop-k-test.true, c.run_of-run.ensures.1, run_few c.requires)

pub word-requires : goal.word-requires
word-requires c = omega (arith, c.loop-k-test.true, c.run_of-run.ensures.1, run_few c.requires, tables_long _ _ c.requires.ready.laid)

pub narrow-requires : goal.narrow-requires
narrow-requires c = omega (arith, c.run_of-run.ensures.1, run_few c.requires)
