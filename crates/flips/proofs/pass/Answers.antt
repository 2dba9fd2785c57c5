-- `pass` meets its contract: the rule's state tells its P and whether it holds; with the P before it tells whether it held.
-- Assumes nothing.
use Prim.Native.Nat.{ℕ, ◌<◌}
use borrow.Author.Rules.{rules}
use native.Mathlib.Omega.{arith}
use mathlib.Core.Path.{◌≡◌}
use mathlib.Core.List.{List}
use Rattle.words.specs.Words.{word_at}
use Rattle.format.specs.Layout.{rule_room}
use Rattle.recount.specs.Core.{Laid}
use Rattle.recount.proofs.Laid.{rules_few}
use Rattle.recount.proofs.Keeping.{tally_wrote}
use Rattle.flips.proofs.Passing.{weight_ready, clause_ready, place_passed}
use Rattle.flips.proofs.pass.Goals as goal

few : {tables terms : List ℕ} {r q : ℕ} → Laid tables terms → r ≡ q → q < word_at tables 2 → r < rule_room
few l e h = omega (arith, e, h, rules_few _ _ l)

pub held_with-held-requires : goal.held_with-held-requires
held_with-held-requires c = weight_ready c.args.lent.now.plan.tables.now c.args.lent.now.plan.terms.now c.rule_in-r.ensures c.state-s.ensures c.requires.1 c.word.ensures

pub pass_clause-requires : goal.pass_clause-requires
pass_clause-requires c =
    let few = few c.args.lent.now.plan.laid c.rule_in-r.ensures c.requires.0 in
    let w = tally_wrote c.rule_in-r.result c.state-s.result.p _ _ (omega (arith, few)) (search rules) c.requires.1.countable.room c.write_word.ensures in
    clause_ready c.args.lent.now.plan.tables.now c.args.lent.now.plan.terms.now c.rule_in-r.ensures c.state-s.ensures c.requires.1 c.word.ensures c.held_with-held.ensures few w c.clause_in.ensures

pub returns : goal.returns
returns c =
    let few = few c.args.lent.now.plan.laid c.rule_in-r.ensures c.requires.0 in
    let w = tally_wrote c.rule_in-r.result c.state-s.result.p _ _ (omega (arith, few)) (search rules) c.requires.1.countable.room c.write_word.ensures in
    place_passed c.args.lent.now.plan.tables.now c.args.lent.now.plan.terms.now c.rule_in-r.ensures c.state-s.ensures c.requires.1 c.word.ensures c.held_with-held.ensures few w c.clause_in.ensures c.holds.ensures
    c.pass_clause.ensures

pub word-requires : goal.word-requires
word-requires c = omega (arith, few c.args.lent.now.plan.laid c.rule_in-r.ensures c.requires.0, c.requires.1.countable.room)

pub write_word-requires : goal.write_word-requires
write_word-requires c = omega (arith, few c.args.lent.now.plan.laid c.rule_in-r.ensures c.requires.0, c.requires.1.countable.room)
