-- `rules::keep_rule` meets its contract, by whether anything is left.
-- Assumes nothing.
use Rattle.format.specs.File.{rule_at}
use Rattle.rewriting.proofs.Rulewise.{rule_gone, rule_stays, laid_none, laid_is}
use Rattle.rewriting.proofs.rules.keep_rule.Goals as goal

pub returns-in-None : goal.returns-in-None
returns-in-None c = laid_none _ _ (rule_gone _ _ c.in-None.ensures)

pub returns-in-Some : goal.returns-in-Some
unfolding rule_at
returns-in-Some c = laid_is _ _ _ _ (rule_stays _ (rule_at c.args.file.now c.args.at) c.in-Some.left c.in-Some.ensures) c.put_rule.ensures
