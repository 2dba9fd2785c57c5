-- `entries::is_answer` meets its contract.
-- Assumes nothing.
use mathlib.Core.Path.{◌≡◌, sym, ◌∙◌}
use mathlib.Core.Bool.{Bool, true, false}
use Rattle.plpb.specs.Lists.{◌or◌}
use Rattle.entries.proofs.is_answer.Goals as goal

first : (a b : Bool) → a ≡ true → true ≡ (a or b)
unfolding ◌or◌
first a b e = rw e

second : (a b : Bool) → a ≡ false → b ≡ (a or b)
unfolding ◌or◌
second a b e = rw e

pub returns-then-is_yes : goal.returns-then-is_yes
returns-then-is_yes c = c.if-is_yes.true ∙ first _ _ (sym c.is_yes.ensures ∙ c.if-is_yes.true)

pub returns-else-is_yes : goal.returns-else-is_yes
returns-else-is_yes c = c.is_no.ensures ∙ second _ _ (sym c.is_yes.ensures ∙ c.if-is_yes.false)
