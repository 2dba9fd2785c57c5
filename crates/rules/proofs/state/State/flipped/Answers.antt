-- `flipped` meets its contract, by how the variable stands.
-- Assumes nothing.
use native.Mathlib.Omega.{arith}
use Rattle.rules.proofs.States.{on_in_P, off_in_N, turned_out, turned_on, turned_off}
use Rattle.rules.proofs.state.State.flipped.Goals as goal

pub overflow_add-result : goal.overflow_add-result
overflow_add-result c =
    record { fits = omega (arith, c.requires.small, on_in_P c.args.self c.requires _ c.in-On.is) }

pub overflow_sub-result : goal.overflow_sub-result
overflow_sub-result c =
    on_in_P c.args.self c.requires _ c.in-On.is

pub overflow_sub-result-in-Off : goal.overflow_sub-result-in-Off
overflow_sub-result-in-Off c =
    off_in_N c.args.self c.requires _ c.in-Off.is

pub overflow_add-result-in-Off : goal.overflow_add-result-in-Off
overflow_add-result-in-Off c =
    record { fits = omega (arith, c.requires.small, off_in_N c.args.self c.requires _ c.in-Off.is) }

pub returns-in-Out : goal.returns-in-Out
returns-in-Out c = turned_out c.args.self c.requires c.in-Out.is

pub returns-in-On : goal.returns-in-On
returns-in-On c =
    turned_on c.args.self c.requires _ c.in-On.is

pub returns-in-Off : goal.returns-in-Off
returns-in-Off c =
    turned_off c.args.self c.requires _ c.in-Off.is
