-- `past_limits` meets its contract, tag by tag.
-- Assumes nothing.
use native.Mathlib.Omega.{arith}
use Rattle.faults.specs.Faults.{state_of}
use Rattle.faults.proofs.Faults.{told, limits_count, limits_clause, limits_rule, limits_none, count_size, rule_size, body_room}
use Rattle.faults.proofs.Field.past_limits.Goals as goal

pub read_u16-requires : goal.read_u16-requires
read_u16-requires c =
    omega (arith, body_room _ _ c.args.self.headed, count_size _ _ c.args.self.headed (told c.args.self.tagged c.in-Variables.is))

pub returns-in-Variables : goal.returns-in-Variables
unfolding state_of
returns-in-Variables c = limits_count _ _ _ _ (told c.args.self.tagged c.in-Variables.is) c.count_wrong.ensures c.read_u16.ensures

pub returns-in-Clause : goal.returns-in-Clause
unfolding state_of
returns-in-Clause c = limits_clause _ _ (told c.args.self.tagged c.in-Clause.is)

pub overflow_sub-size : goal.overflow_sub-size
overflow_sub-size c = omega (arith, rule_size _ _ c.args.self.headed (told c.args.self.tagged c.in-Rule.is))

pub returns-in-Rule : goal.returns-in-Rule
unfolding state_of
returns-in-Rule c = limits_rule _ _ _ _ (told c.args.self.tagged c.in-Rule.is) c.rules_full.ensures c.read_size-size.ensures

pub returns-in_default : goal.returns-in_default
unfolding state_of
returns-in_default c = limits_none _ _ _ c.args.self.tagged c.in_default.not-Variables c.in_default.not-Clause c.in_default.not-Rule
