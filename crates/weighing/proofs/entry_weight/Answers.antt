-- `entry_weight` meets its contract: the entry's word tells a place of the plan, and the term stands there.
-- Assumes nothing.
use Prim.Native.Nat.{◌<◌}
use native.Mathlib.Omega.{arith}
use mathlib.Core.Path.{ap, ◌∙◌}
use lib.IntN.{nat_abs}
use mir.Facts.{to_z-of_z}
use mir.Syntax.{w32}
use Rattle.recount.proofs.Laid.{tables_long, rules_few}
use Rattle.weighing.proofs.Weighing.{entries_few, rule_there, term_few, term_inside, weight_here}
use Rattle.weighing.proofs.entry_weight.Goals.{After-rule_in}
use Rattle.weighing.proofs.entry_weight.Goals as goal
use Rattle.format.specs.Layout.{rule_room}

rule_few : (c : After-rule_in) → c.rule_in.result < rule_room
rule_few c = omega (arith, rule_there c.args.t.now.laid c.requires c.word-w.ensures c.rule_in.ensures, rules_few _ _ c.args.t.now.laid)

pub overflow_add-k : goal.overflow_add-k
overflow_add-k c = omega (arith, entries_few c.args.t.now.laid c.requires)

pub word-w-requires : goal.word-w-requires
word-w-requires c = omega (arith, entries_few c.args.t.now.laid c.requires, tables_long _ _ c.args.t.now.laid)

pub overflow_mul-rule_in : goal.overflow_mul-rule_in
overflow_mul-rule_in c = omega (arith, rule_few c)

pub overflow_add-rule_in : goal.overflow_add-rule_in
overflow_add-rule_in c = omega (arith, rule_few c)

pub index-requires : goal.index-requires
index-requires c = omega (arith, rule_few c, tables_long _ _ c.args.t.now.laid)

pub overflow_add-i : goal.overflow_add-i
overflow_add-i c = omega (arith, term_few c.args.t.now.laid c.requires c.word-w.ensures c.rule_in.ensures c.index.ensures c.term_in.ensures)

pub overflow_mul-i : goal.overflow_mul-i
overflow_mul-i c = omega (arith, term_few c.args.t.now.laid c.requires c.word-w.ensures c.rule_in.ensures c.index.ensures c.term_in.ensures)

pub overflow_add-i-2 : goal.overflow_add-i-2
overflow_add-i-2 c = omega (arith, term_few c.args.t.now.laid c.requires c.word-w.ensures c.rule_in.ensures c.index.ensures c.term_in.ensures)

pub word-requires : goal.word-requires
word-requires c = omega (arith, term_inside c.args.t.now.laid c.requires c.word-w.ensures c.rule_in.ensures c.index.ensures c.term_in.ensures)

pub returns : goal.returns
returns c = weight_here c.args.t.now.laid c.requires c.word-w.ensures c.rule_in.ensures c.index.ensures c.term_in.ensures c.word.ensures (c.magnitude.ensures ∙ ap nat_abs (to_z-of_z {w = w32} (record { sfits = c.to_signed.type_inv }) ∙ c.to_signed.ensures))
