-- The goals that the search leaves.
use native.Mathlib.Omega.{arith}
use native.Mathlib.Numerals.{add-one}
use Rattle.clauselines.proofs.Looping.{looping_room, looping_more, looping_done}
use Rattle.clauselines.proofs.Rules.{rule_pieces}
use Rattle.clauselines.proofs.several.Several.put_rules.Goals as goal

pub put_rule-next-requires : goal.put_rule-next-requires
put_rule-next-requires c =
    let fit = c.args.self.now.fit in
    let test = c.loop-i-test.true in
    record {
      rule_fits = (fit.each c.loop-i.i test, omega (arith, fit.low, test));
      room = looping_room (rule_pieces _ _ _ _ _) c.loop-i.invariant test c.requires;
    }

pub loop-i-preserved : goal.loop-i-preserved
loop-i-preserved c = rw (add-one c.loop-i.i) (looping_more (rule_pieces _ _ _ _ _) c.loop-i.invariant c.loop-i-test.true c.put_rule-next.ensures)

pub returns : goal.returns
returns c = looping_done (rule_pieces _ _ _ _ _) c.loop-i.invariant c.loop-i-test.false
