-- `folder::files::judge_settings` meets its contract, by whether a setting is at fault.
-- Assumes nothing.
use mathlib.Core.Path.{sym, ◌∙◌}
use Rattle.folder.proofs.Judging.{judged_fault, judged_lawful}
use Rattle.folder.proofs.files.judge_settings.Goals as goal

pub returns-then-fault-ne0 : goal.returns-then-fault-ne0
returns-then-fault-ne0 c = judged_fault _ _ c.settings_refusal-fault.ensures c.if-fault-ne0.true

pub returns : goal.returns
returns c = judged_lawful _ (sym c.settings_refusal-fault.ensures ∙ c.if-fault-ne0.false)
