-- `fill` meets its contract: the words of the locks, turned into codes.
-- Assumes nothing.
use native.Mathlib.Omega.{arith}
use Prim.Native.Nat.{◌≤◌}
use mathlib.Core.Path.{sym, ◌∙◌}
use Rattle.tables.specs.Places.{behind_objective, plan_of_file}
use Rattle.tables.proofs.Found.{begun_file, begun_front}
use Rattle.tables.proofs.Filled.{lawful_file}
use Rattle.numbering.proofs.Filling.{filled, filled_long, locks_in_lem, says, counts}
use Rattle.numbering.proofs.fill.Goals as goal

pub read_size-requires : goal.read_size-requires
unfolding behind_objective
read_size-requires c = omega (arith, begun_front _ _ c.args.lawful.accepts)

pub number-requires : goal.number-requires
number-requires c =
    let variables = c.read_size.ensures ∙ sym (begun_file _ _ c.args.lawful.accepts).variables in (
      omega (arith, variables, (lawful_file _ _ c.args.lawful.accepts).high),
      omega (arith, filled_long (plan_of_file c.args.lawful.file.now) _ _ _ c.requires.map_len c.write_word.ensures c.lock_section.ensures),
    )

pub returns : goal.returns
returns c =
    let p = plan_of_file c.args.lawful.file.now in
    let l = locks_in_lem p (filled p _ _ _ c.requires.map_len c.write_word.ensures c.lock_section.ensures) in
    let variables = c.read_size.ensures ∙ sym (begun_file _ _ c.args.lawful.accepts).variables in
    let few : c.read_size.result ≤ 512 = omega (arith, variables, (lawful_file _ _ c.args.lawful.accepts).high) in
    (says p _ _ _ _ l c.number.ensures variables few, counts p _ _ _ _ l c.number.ensures variables few)
