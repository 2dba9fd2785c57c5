-- `rulelines::read_rule` meets its contract: the entry is the rule's.
-- Assumes nothing.
use mathlib.Core.Path.{refl}
use Rattle.rulelines.proofs.Entries.{rule_read}
use Rattle.rulelines.proofs.read_rule.Goals as goal

pub returns : goal.returns
returns c = rule_read _ _ c.args.r _ c.read_entry-e.ensures c.requires _ refl refl refl
