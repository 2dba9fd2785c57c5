-- `of` meets its contract: the first word of the tables says how many variables the plan has.
-- Assumes nothing.
use native.Mathlib.Omega.{arith}
use mathlib.Core.Path.{refl, sym, ap, ◌∙◌}
use lib.ListN.{take}
use Rattle.recount.specs.Core.{Ready}
use Rattle.recount.proofs.Laid.{tables_long, variables_word}
use Rattle.recount.proofs.Cores.{first_length}
use Rattle.recount.proofs.lent.Lent.of.Goals as goal

pub index-n-requires : goal.index-n-requires
index-n-requires c = omega (arith, tables_long _ _ c.args.plan.laid)

pub slice_bounds-result-end : goal.slice_bounds-result-end
slice_bounds-result-end c =
    first_length _ _ _ (record { laid = c.args.plan.laid; bytes = c.requires }) _ c.index-n.ensures

pub invariant_of-result : goal.invariant_of-result
invariant_of-result c =
    let y : Ready _ _ _ = record { laid = c.args.plan.laid; bytes = c.requires } in
    record { bytes = omega (arith, first_length _ _ _ y _ c.index-n.ensures, c.index-n.ensures, variables_word _ _ c.args.plan.laid) }

pub returns : goal.returns
returns c =
    (refl, ap (λ n. take n c.args.assignment.now) (c.index-n.ensures ∙ sym (variables_word _ _ c.args.plan.laid)))
