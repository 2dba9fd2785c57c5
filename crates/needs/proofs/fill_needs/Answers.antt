-- The goals that the search leaves.
use native.Mathlib.Omega.{arith}
use Prim.Native.Nat.{ℕ, ◌<◌}
use mathlib.Core.Path.{◌≡◌}
use mathlib.Core.List.{List}
use lib.ListN.{length}
use Rattle.plpb.specs.Tallies.{rules_of}
use Rattle.words.specs.Words.{word_at}
use Rattle.format.specs.Tables.{plan_of_tables}
use Rattle.recount.specs.Core.{Laid}
use Rattle.recount.proofs.Laid.{parts, rules_word, tables_long}
use Rattle.columns.proofs.Kept.{sized_behind}
use Rattle.sizing.proofs.Sizes.{plan_small}
use Rattle.needs.proofs.Filling.{filled_readable, filled_next}
use Rattle.needs.proofs.fill_needs.Goals as goal

-- The rule at hand is one of the plan's.
inside : {tables terms : List ℕ} {r rules : ℕ} → Laid tables terms → r < rules → rules ≡ word_at tables 2 → r < length (rules_of (plan_of_tables tables terms))
inside {tables} {terms} l h e = omega (arith, e, rules_word tables terms l)

pub read_rule-requires : goal.read_rule-requires
read_rule-requires c =
    let h = inside c.args.t.now.laid c.loop-r-test.true c.index-rules.ensures in
    filled_readable c.requires.0 c.requires.1 (parts _ _ c.args.t.now.laid).rule_count h c.loop-r.invariant.1 (plan_small _ _ c.args.t.now.laid _ h)

pub put_needs-requires : goal.put_needs-requires
put_needs-requires c =
    let h = inside c.args.t.now.laid c.loop-r-test.true c.index-rules.ensures in
    (omega (arith, h, (parts _ _ c.args.t.now.laid).rule_count), omega (arith, c.loop-r.invariant.1.only.size, c.requires.0.room))

pub loop-r-preserved : goal.loop-r-preserved
loop-r-preserved c =
    let h = inside c.args.t.now.laid c.loop-r-test.true c.index-rules.ensures in (
      omega (arith, c.loop-r-test.true),
      filled_next c.requires.0 c.requires.1 (parts _ _ c.args.t.now.laid).rule_count h c.loop-r.invariant.1 (plan_small _ _ c.args.t.now.laid _ h) c.read_rule.ensures c.put_needs.ensures,
    )

pub returns : goal.returns
returns c =
    let f = c.loop-r.invariant.1 in
    let l = c.args.t.now.laid in (
      record { each = λ i h. f.each i (omega (arith, c.loop-r-test.false, c.index-rules.ensures, rules_word _ _ l)) },
      sized_behind (parts _ _ l).rule_count (omega arith) f.only c.requires.0,
      f.only,
    )

pub index-rules-requires : goal.index-rules-requires
index-rules-requires c = omega (arith, tables_long _ _ c.args.t.now.laid)
