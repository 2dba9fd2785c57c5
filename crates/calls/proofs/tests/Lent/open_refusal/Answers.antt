-- `calls::tests::Lent::open_refusal` meets its contract: each test answers what the definition asks next. Assumes nothing.
use native.Mathlib.Omega.{arith}
use mathlib.Core.Path.{refl, sym, ◌∙◌}
use lib.Seq.{length-take-le}
use borrow.Author.Tests.{not-true, not-false}
use Rattle.plpb.proofs.Lists.{T_true}
use Rattle.recount.proofs.Callers.{loaded_laid}
use Rattle.calls.proofs.Bits.{bits_first}
use Rattle.calls.proofs.Opening.{large_tables, refused_21, refused_22, refused_24, refused_none, room_for_bits}
use Rattle.calls.proofs.tests.Lent.open_refusal.Goals as goal

pub returns-then-too_small : goal.returns-then-too_small
returns-then-too_small c = record { number = refused_21 _ (sym c.too_small.ensures ∙ c.if-too_small.true); handed = tt }

pub returns-then-not-good : goal.returns-then-not-good
returns-then-not-good c =
    record { number = refused_22 _ (sym c.too_small.ensures ∙ c.if-too_small.false) (sym c.good.ensures ∙ not-true _ c.if-not-good.true-raw); handed = tt }

pub index-n-requires : goal.index-n-requires
index-n-requires c = omega (arith, large_tables _ (sym c.too_small.ensures ∙ c.if-too_small.false))

pub slice_bounds-bits-end : goal.slice_bounds-bits-end
slice_bounds-bits-end c =
    sym (length-take-le c.index-n.result c.args.self.now.assignment.now (room_for_bits _ (sym c.too_small.ensures ∙ c.if-too_small.false) (sym c.good.ensures ∙ not-false _ c.if-not-good.false-raw) _ c.index-n.ensures))

pub returns-then-not-bits : goal.returns-then-not-bits
returns-then-not-bits c =
    record {
      number = refused_24 _ (sym c.too_small.ensures ∙ c.if-too_small.false) (sym c.good.ensures ∙ not-false _ c.if-not-good.false-raw) _
          c.index-n.ensures (sym (bits_first _ _) ∙ sym c.bits.ensures ∙ not-true _ c.if-not-bits.true-raw);
      handed = tt;
    }

pub returns : goal.returns
returns c =
    record {
      number = refused_none _ (sym c.too_small.ensures ∙ c.if-too_small.false) (sym c.good.ensures ∙ not-false _ c.if-not-good.false-raw) _
          c.index-n.ensures (sym (bits_first _ _) ∙ sym c.bits.ensures ∙ not-false _ c.if-not-bits.false-raw);
      handed = (refl, refl);
    }

pub invariant_of-result : goal.invariant_of-result
invariant_of-result c = record { laid = loaded_laid _ _ (T_true (sym c.good.ensures ∙ not-false _ c.if-not-good.false-raw)) }
