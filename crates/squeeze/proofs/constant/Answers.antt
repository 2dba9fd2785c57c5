-- `constant` meets its contract: what the locked variables give to the objective.
-- Assumes nothing.
use mir.Syntax.{w64}
use mir.Syntax.{w32}
use native.Mathlib.Omega.{arith}
use Prim.Native.Nat.{◌/◌}
use mathlib.Core.Path.{ap, ◌∙◌}
use mir.Facts.{to_z-of_z}
use Rattle.format.specs.File.{terms_at}
use Rattle.tables.specs.Places.{behind_objective, plan_of_file}
use Rattle.tables.proofs.Found.{begun_front}
use Rattle.squeezed.specs.Squeezed.{given_total}
use Rattle.fates.specs.Codes.{decoded}
use Rattle.fates.proofs.Parts.{given_total_lem}
use Rattle.squeeze.proofs.Opening.{count_is, objective_is, objective_small, objective_few}
use Rattle.squeeze.proofs.constant.Goals as goal

pub read_size-requires : goal.read_size-requires
unfolding behind_objective
read_size-requires c = omega (arith, begun_front _ _ c.requires.accepts)

pub invariant_of-terms : goal.invariant_of-terms
unfolding behind_objective
invariant_of-terms c =
    let accepts = c.requires.accepts in
    let count = count_is _ c.read_size.ensures in
    let few = objective_few _ _ (λ i. (c.type_inv.file i).fits) accepts in
    record {
      fits =
          record {
            inside = omega (arith, begun_front _ _ accepts, count);
            few = omega (arith, count, few);
            small = rw count (objective_small _ _ (λ i. (c.type_inv.file i).fits) accepts);
          };
    }

pub returns : goal.returns
returns c =
    let s = c.args.file.now in
    let f = decoded c.args.map.words.now in
    to_z-of_z {w = w64} (record { sfits = c.from.type_inv }) ∙ c.from.ensures ∙ to_z-of_z {w = w32} (record { sfits = c.given.type_inv }) ∙ c.given.ensures.0
    ∙ given_total_lem f (terms_at s 8 (c.read_size.result / 6)) ∙ ap (λ k. given_total f (terms_at s 8 k)) (count_is _ c.read_size.ensures)
    ∙ ap (given_total f) (objective_is s (plan_of_file s) (λ i. (c.type_inv.file i).fits) c.requires.accepts)
