-- `right_terms` meets its contract: only the objective and a rule have terms.
-- Assumes nothing.
use native.Mathlib.Omega.{arith}
use Rattle.format.specs.File.{length_at}
use Rattle.faults.proofs.Faults.{told, terms_objective, terms_rule, terms_none, rule_size}
use Rattle.faults.proofs.Field.right_terms.Goals as goal

pub returns-in-Objective : goal.returns-in-Objective
returns-in-Objective c = terms_objective _ _ c.args.self.headed c.end.ensures _ _ (told c.args.self.tagged c.in-Objective.is) c.terms_lawful.ensures

pub slice_bounds-terms_lawful-count-in-Rule : goal.slice_bounds-terms_lawful-count-in-Rule
unfolding length_at
slice_bounds-terms_lawful-count-in-Rule c =
    omega (arith, c.end-in-Rule.ensures, rule_size _ _ c.args.self.headed (told c.args.self.tagged c.in-Rule.is))

pub slice_bounds-terms_lawful-start-in-Rule : goal.slice_bounds-terms_lawful-start-in-Rule
unfolding length_at
slice_bounds-terms_lawful-start-in-Rule c =
    omega (arith, c.end-in-Rule.ensures, rule_size _ _ c.args.self.headed (told c.args.self.tagged c.in-Rule.is), c.args.self.headed.room)

pub returns-in-Rule : goal.returns-in-Rule
returns-in-Rule c = terms_rule _ _ c.args.self.headed c.end-in-Rule.ensures _ _ (told c.args.self.tagged c.in-Rule.is) c.terms_lawful-in-Rule.ensures

pub returns-in_default : goal.returns-in_default
returns-in_default c = terms_none _ _ _ _ c.args.self.tagged c.in_default.not-Objective c.in_default.not-Rule
