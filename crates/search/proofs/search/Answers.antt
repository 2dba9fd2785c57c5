-- `search` meets its contract: it is refused as its tests say, or the search is made.
-- Assumes nothing.
use Rattle.search.proofs.Refusing.{refused, refused_hands}
use Rattle.search.proofs.search.Goals as goal

pub returns-then-refusal-ne0 : goal.returns-then-refusal-ne0
returns-then-refusal-ne0 c = record { searches = refused _ _ _ c.refusal-refusal.ensures c.if-refusal-ne0.true; hands_out = refused_hands _ _ _ }
