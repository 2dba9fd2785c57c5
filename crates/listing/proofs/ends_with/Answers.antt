-- `ends_with` meets its contract: of no variables none is the last.
-- Assumes nothing.
use borrow.Author.Tests.{lt-ltb, le-ltb}
use native.Mathlib.Omega.{arith}
use mathlib.Core.Path.{sym, ap, ◌∙◌}
use lib.Dec.{eqb}
use Prim.Native.Nat.{◌+◌, ◌-◌}
use Rattle.plpb.specs.Lists.{◌and◌}
use Rattle.words.specs.Words.{word_at}
use Rattle.columns.specs.Layout.{list_at}
use Rattle.listing.proofs.ends_with.Goals as goal

pub returns-else-n-gt0 : goal.returns-else-n-gt0
unfolding ◌and◌
returns-else-n-gt0 c =
    let none = le-ltb 0 c.args.n (omega (arith, c.if-n-gt0.false)) in
    none ∙ sym (ap (λ b. b and eqb (word_at c.args.marks.now (list_at (c.args.at + c.args.n - 1))) c.args.x) none)

pub returns-then-n-gt0 : goal.returns-then-n-gt0
unfolding ◌and◌
returns-then-n-gt0 c = ap (λ w. eqb w c.args.x) c.index.ensures ∙ sym (ap (λ b. b and eqb (word_at c.args.marks.now (list_at (c.args.at + c.args.n - 1))) c.args.x) (lt-ltb 0 c.args.n (omega (arith, c.if-n-gt0.true))))
