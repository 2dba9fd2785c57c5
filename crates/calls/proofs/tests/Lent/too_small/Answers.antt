-- `calls::tests::Lent::too_small` meets its contract: the buffers are tested one after another. Assumes nothing.
use mathlib.Core.Path.{◌≡◌, refl, ap, ◌∙◌}
use lib.Dec.{ltb}
use lib.ListN.{length}
use borrow.Author.Tests.{lt-ltb, le-ltb}
use Rattle.plpb.specs.Lists.{◌or◌}
use Rattle.format.specs.Layout.{table_size, term_size, tally_size}
use Rattle.format.specs.Assignment.{assignment_size}
use Rattle.tallies.specs.Calls.{too_small}
use Rattle.calls.proofs.Opening.{or_first, or_second}
use Rattle.calls.proofs.tests.Lent.too_small.Goals.{Joined-self-lt-TERMS, then-self-lt-TABLES, else-self-lt-TABLES, then-self-lt-TERMS, else-self-lt-TERMS}
use Rattle.calls.proofs.tests.Lent.too_small.Goals as goal

-- What the first three tests come to.
module _ (c : Joined-self-lt-TERMS) where
  two : c.if-self-lt-TABLES.value ≡ (ltb (length c.args.self.now.tables.now) table_size or ltb (length c.args.self.now.terms.now) term_size)
  two = elim c.if-self-lt-TABLES.branch [
    | then-self-lt-TABLES w ↦ or_first _ _ w.value-is (lt-ltb _ _ w.if-self-lt-TABLES.true)
    | else-self-lt-TABLES w ↦ or_second _ _ w.value-is (le-ltb _ _ w.if-self-lt-TABLES.false)
  ]

  three : c.if-self-lt-TERMS.value
      ≡ ((ltb (length c.args.self.now.tables.now) table_size or ltb (length c.args.self.now.terms.now) term_size) or ltb (length c.args.self.now.assignment.now) assignment_size)
  three =
      (elim c.if-self-lt-TERMS.branch [
        | then-self-lt-TERMS w ↦ or_first _ _ w.value-is w.if-self-lt-TERMS.true
        | else-self-lt-TERMS w ↦ or_second _ _ w.value-is w.if-self-lt-TERMS.false
      ])
      ∙ ap (λ b. b or ltb (length c.args.self.now.assignment.now) assignment_size) two

pub returns-then-self-lt-ASSIGNMENT : goal.returns-then-self-lt-ASSIGNMENT
unfolding too_small
returns-then-self-lt-ASSIGNMENT c =
    or_first _ _ refl c.if-self-lt-ASSIGNMENT.true ∙ ap (λ b. b or ltb (length c.args.self.now.tallies.now) tally_size) (three (goal.at.returns-then-self-lt-ASSIGNMENT c).Joined-self-lt-TERMS)

pub returns-else-self-lt-ASSIGNMENT : goal.returns-else-self-lt-ASSIGNMENT
unfolding too_small
returns-else-self-lt-ASSIGNMENT c =
    or_second _ _ refl c.if-self-lt-ASSIGNMENT.false ∙ ap (λ b. b or ltb (length c.args.self.now.tallies.now) tally_size) (three (goal.at.returns-else-self-lt-ASSIGNMENT c).Joined-self-lt-TERMS)
