-- `group_end` meets its contract: the first place of another clause is found, or the run ends.
-- Assumes nothing.
use Prim.Native.Nat.{◌+◌}
use native.Mathlib.Omega.{arith}
use mathlib.Core.Bool.{not}
use mathlib.Core.Path.{refl, sym, ap, ◌∙◌}
use lib.Dec.{eqb}
use borrow.Author.Rules.{rules}
use borrow.Author.Tests.{tests}
use Rattle.std.specs.Option.{unwrap_or}
use Rattle.std.proofs.lemmas.Iterator.{YieldsList-from_range}
use Rattle.std.proofs.lemmas.Iterator.Adapters.{option_map_id}
use Rattle.std.proofs.lemmas.Iterator.Search.{find_from_yields_List}
use Rattle.order.specs.Order.{order, run_end, cut}
use Rattle.order.specs.Blocks.{same_clause}
use Rattle.effects.specs.Kept.{place_at}
use Rattle.effects.specs.Run.{plan}
use Rattle.groups.proofs.Stretch.{first_other}
use Rattle.groups.proofs.group_end.Goals as goal

pub returns : goal.returns
returns c =
    let r = c.args.run.now in
    let d = c.clause_at-c.result in
    c.unwrap_or.ensures
    ∙ ap (λ o. unwrap_or o r.end)
    (sym (option_map_id c.find.result)
    ∙ find_from_yields_List (λ j. not (eqb (place_at r.footing.now.tables.now r.footing.now.terms.now j).clause d)) _ _ c.find.result c.find.ensures.ran
    (YieldsList-from_range c.args.k r.end _ refl refl) (λ i b q e. search (rules, tests)))
    ∙ first_other r.going d r.end r.ends _ c.args.k refl (omega (arith, c.requires))
    ∙ ap (λ d. c.args.k + same_clause d (cut c.args.k (run_end (plan r) r.x) (order (plan r)))) c.clause_at-c.ensures
