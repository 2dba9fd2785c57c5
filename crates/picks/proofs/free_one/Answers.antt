-- `free_one` meets its contract: the hint alone changes, or a pick comes behind the others.
-- Assumes nothing.
use Prim.Native.Nat.{ℕ, ◌+◌, ◌≤◌}
use native.Mathlib.Omega.{arith}
use mathlib.Core.Path.{◌≡◌, sym, ap, ◌∙◌}
use mathlib.Core.List.{List}
use lib.Dec.{eqb}
use borrow.Author.Tests.{not-true, not-false}
use Rattle.plpb.specs.Count.{capped_break}
use Rattle.words.specs.Words.{word_at}
use Rattle.words.proofs.Writes.{word_wrote}
use Rattle.effects.specs.declared.footing.Footing.{Footing}
use Rattle.effects.specs.Footing.{plan_on, bits_on}
use Rattle.effects.proofs.Runs.{going_few}
use Rattle.effects.proofs.Visits.{going_on, has_places}
use Rattle.picks.specs.Picks.{Triable}
use Rattle.picks.proofs.Noting.{tried_not, tried_so}
use Rattle.picks.proofs.free_one.Goals as goal
use Rattle.recount.proofs.Laid.{parts}
use Rattle.columns.specs.Layout.{picks_at}

-- The variable is one of the plan's.
few : {q : Footing} {marks : List ℕ} {i count x : ℕ} → Triable q marks i count → x ≡ word_at marks i → (1 ≤ x) × (x ≤ 512)
few y e = (omega (arith, e, y.run.low), omega (arith, e, going_few (going_on _ (has_places y.run))))

plan_few : {q : Footing} {marks : List ℕ} {i count : ℕ} → Triable q marks i count → (plan_on q).variables ≤ 512
plan_few {q} y = (parts q.tables.now q.terms.now q.ready.laid).high

pub returns-then-not-is_free : goal.returns-then-not-is_free
returns-then-not-is_free c =
    let x = few c.requires c.index-x.ensures in
    let same = ap (λ x. eqb (capped_break (plan_on c.args.footing.now) (bits_on c.args.footing.now) x) 0) c.index-x.ensures in
    tried_not c.is_free.ensures.1 c.is_free.ensures.2 x.0 x.1 (plan_few c.requires) c.requires.run.weighed.room _ (sym same ∙ sym c.is_free.ensures.0 ∙ not-true _ c.if-not-is_free.true-raw)

pub returns : goal.returns
returns c =
    let x = few c.requires c.index-x.ensures in
    let hint = c.is_free.ensures.1 in
    let same = ap (λ x. eqb (capped_break (plan_on c.args.footing.now) (bits_on c.args.footing.now) x) 0) c.index-x.ensures in
    tried_so hint c.is_free.ensures.2 x.0 x.1 (plan_few c.requires) c.requires.run.weighed.room c.args.count (sym same ∙ sym c.is_free.ensures.0 ∙ not-false _ c.if-not-is_free.false-raw)
    (word_wrote (picks_at + c.args.count) c.narrow.result _ _ (omega (arith, c.requires.few, hint.size, c.requires.run.weighed.room)) (omega (arith, c.narrow.ensures, x.1)) c.write_word.ensures)
    c.requires.few (c.narrow.ensures ∙ c.index-x.ensures)

pub narrow-requires : goal.narrow-requires
narrow-requires c = omega (arith, (few c.requires c.index-x.ensures).1)
