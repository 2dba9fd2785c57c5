-- `draft::put_front` meets its contract: the count, the objective's terms, and then their head.
-- Assumes nothing.
use native.Mathlib.Omega.{arith}
use mathlib.Core.List.{[]}
use Rattle.draft.proofs.Files.{front_wrote}
use Rattle.draft.proofs.put_front.Goals as goal

pub returns : goal.returns
returns c =
    let terms = c.put_terms-end.ensures in (
      front_wrote c.args.out.now c.args.sites.count _ (omega (arith, c.requires)) c.put_head.ensures c.write_u16.ensures
          (terms.0 [] tt) c.put_head-2.ensures,
      terms.1,
    )
