-- The goals that the search leaves.
use borrow.Author.Rules.{rules}
use Prim.Native.Nat.{ℕ, ◌<◌}
use native.Mathlib.Omega.{arith}
use mathlib.Core.Path.{◌≡◌}
use mathlib.Core.List.{List}
use Rattle.words.specs.Words.{word_at}
use Rattle.order.specs.Order.{term_count}
use Rattle.format.specs.Tables.{plan_of_tables}
use Rattle.recount.specs.Core.{Laid}
use Rattle.recount.proofs.Laid.{tables_long, sections}
use Rattle.weighing.proofs.Weighing.{weighed_next, weighed_all, entries_few}
use Rattle.weighing.proofs.weigh.Goals as goal

-- An entry below the count is one of the order's.
next : {tables terms : List ℕ} {k n : ℕ} → Laid tables terms → k < n → n ≡ word_at tables 3 → k < term_count (plan_of_tables tables terms)
next y h e = omega (arith, h, e, (sections _ _ y).terms)

pub index-count-requires : goal.index-count-requires
index-count-requires c = omega (arith, tables_long _ _ c.args.t.now.laid)

pub overflow_add-k : goal.overflow_add-k
overflow_add-k c = omega (arith, entries_few c.args.t.now.laid (next c.args.t.now.laid c.loop-k-test.true c.index-count.ensures))

pub entry_weight-requires : goal.entry_weight-requires
entry_weight-requires c = next c.args.t.now.laid c.loop-k-test.true c.index-count.ensures

pub write_word-requires : goal.write_word-requires
write_word-requires c = omega (arith, entries_few c.args.t.now.laid (next c.args.t.now.laid c.loop-k-test.true c.index-count.ensures), c.loop-k.invariant.1.only.size, c.requires)

pub loop-k-preserved : goal.loop-k-preserved
loop-k-preserved c = (omega (arith, c.loop-k-test.true), weighed_next c.requires (entries_few c.args.t.now.laid (next c.args.t.now.laid c.loop-k-test.true c.index-count.ensures)) (search rules) c.entry_weight.ensures c.loop-k.invariant.1 c.write_word.ensures)

pub returns : goal.returns
returns c = weighed_all c.args.t.now.laid c.requires c.index-count.ensures c.loop-k-test.false c.loop-k.invariant.1
