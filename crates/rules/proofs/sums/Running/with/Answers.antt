-- `with` meets its contract: the sums of words wrap as `%` does, and the sizes take the size of the weight.
-- Assumes nothing.
use Prim.Native.Nat.{◌+◌, ◌%◌}
use mathlib.Core.Path.{refl, ◌∙◌, ap}
use lib.IntN.{nat_abs}
use mir.Syntax.{w32}
use mir.Facts.{to_z-of_z}
use Rattle.rules.proofs.sums.Running.with.Goals as goal

pub returns : goal.returns
returns c =
    let back = to_z-of_z {w = w32} (record { sfits = c.to_signed.type_inv }) ∙ c.to_signed.ensures in
    record {
      sizes = ap (λ n. n + c.args.self.sizes) (c.magnitude.ensures ∙ ap nat_abs back);
      weights = refl;
      trues = ap (λ n. (c.args.self.trues + n) % 4_294_967_296) c.only_if.ensures;
    }
