-- `division::total` meets its contract: the library's sum is that of the definition.
-- Assumes nothing.
use Prim.Native.Nat.{◌<◌, ◌^◌}
use borrow.Author.Rules.{rules}
use mathlib.Core.Path.{◌≡◌, ◌∙◌}
use Rattle.std.specs.List.{sum as total_of}
use Rattle.division.proofs.Laws.{sum_is}
use Rattle.division.proofs.total.Goals as goal

pub sum-requires-clause-fits : goal.sum-requires-clause-fits
sum-requires-clause-fits c =
    let h : total_of c.args.s < 2 ^ 64 = rw (sum_is c.args.s) c.requires in search rules

pub returns : goal.returns
returns c =
    let e : c.sum.result ≡ total_of c.args.s = search rules in e ∙ sum_is c.args.s
