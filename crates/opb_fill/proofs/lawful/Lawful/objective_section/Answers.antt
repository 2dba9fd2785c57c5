-- `Lawful::objective_section` meets its contract.
-- Assumes nothing.
use Prim.Native.Nat.{ℕ}
use mathlib.Core.Path.{ap, ◌∙◌}
use lib.ListN.{length, length-replicate}
use Rattle.opb_fill.proofs.Filled.{objective_ranges, objective_done}
use Rattle.opb_fill.proofs.lawful.Lawful.objective_section.Goals as goal

pub put_coefficients-requires : goal.put_coefficients-requires
put_coefficients-requires c =
    let clear = c.clear in
    let (a, b) = objective_ranges _ c.args.self.says _ c.objective_begins.ensures in
    (a, b, ap length clear.ensures ∙ length-replicate {A = ℕ} _ 0 ∙ c.requires.out_len)

pub returns : goal.returns
returns c =
    objective_done _ c.args.self.says _ c.objective_begins.ensures c.args.out.now _ _ c.requires.out_len c.clear.ensures c.put_coefficients.ensures
