-- `from_call` meets its contract, by what the call came to.
-- Assumes nothing.
use mathlib.Core.Path.{refl, subst}
use Rattle.finds.specs.Whole.{Empty}
use Rattle.finds.proofs.Whole.{call_empty, call_first, call_found}
use Rattle.walk.proofs.from_call.Goals as goal

pub returns-in-Err : goal.returns-in-Err
returns-in-Err c =
    (call_empty c.requires _ c.in-Err.is (subst (λ x. Empty x c.nothing.result) c.in-Err.is c.nothing.ensures), refl, refl)

pub from_find-requires : goal.from_find-requires
from_find-requires c = call_first c.requires c.in-Ok.is

pub returns-in-Ok : goal.returns-in-Ok
returns-in-Ok c = let f = c.from_find.ensures in (call_found c.requires c.in-Ok.is f.0, f.1, f.2)
