-- `offer` meets its contract: a count above the least leaves all as it was, any other puts its variable in its place.
-- Assumes nothing.
use Prim.Native.Nat.{ℕ, ◌+◌, ◌≤◌, ◌<◌}
use native.Mathlib.Omega.{arith}
use mathlib.Core.Path.{◌≡◌, refl, ap, ◌∙◌}
use mathlib.Core.List.{List}
use Rattle.words.specs.Words.{word_at}
use Rattle.words.proofs.Writes.{word_wrote}
use Rattle.effects.specs.declared.footing.Footing.{Footing}
use Rattle.effects.specs.Footing.{plan_on, bits_on}
use Rattle.effects.proofs.Runs.{going_few}
use Rattle.effects.proofs.Visits.{going_on, has_places}
use Rattle.picks.specs.Picks.{Triable}
use Rattle.least.specs.declared.Best.{Best}
use Rattle.least.specs.Best.{place_for}
use Rattle.least.proofs.Leading.{offered_in, offered_same, place_few}
use Rattle.least.proofs.offer.Goals as goal
use Rattle.recount.proofs.Laid.{parts}
use Rattle.columns.specs.Layout.{picks_at}

-- The variable is one of the plan's,
few : {q : Footing} {marks : List ℕ} {i count x : ℕ} → Triable q marks i count → x ≡ word_at marks i → x ≤ 512
few y e = omega (arith, e, going_few (going_on _ (has_places y.run)))

-- and its place one of the picks.
low : (n : ℕ) {at : ℕ} (b : Best) → at ≡ place_for n b → b.count < 512 → at < 512
low n b e h = omega (arith, e, place_few n b, h)

pub returns : goal.returns
returns c =
    let p = plan_on c.args.footing.now in
    let a = bits_on c.args.footing.now in
    let d = c.in-Some.ensures in
    let exact = d.0 in
    let wrote = word_wrote (picks_at + c.place_for-at.result) c.narrow.result c.args.marks.now _ (omega (arith, low _ c.args.best c.place_for-at.ensures c.requires.few, c.requires.run.weighed.room)) (omega (arith, c.narrow.ensures, few c.requires c.index-x.ensures)) c.write_word.ensures in
    offered_same p a c.index-x.ensures
    (offered_in (parts _ _ c.args.footing.now.ready.laid).high (omega (arith, exact, d.1)) (c.place_for-at.ensures ∙ ap (λ n. place_for n c.args.best) exact) c.requires.few c.requires.run.weighed.room wrote c.narrow.ensures exact refl)

pub overflow_add-at : goal.overflow_add-at
overflow_add-at c = omega (arith, low _ c.args.best c.place_for-at.ensures c.requires.few)

pub narrow-requires : goal.narrow-requires
narrow-requires c = omega (arith, few c.requires c.index-x.ensures)

pub write_word-requires : goal.write_word-requires
write_word-requires c = omega (arith, low _ c.args.best c.place_for-at.ensures c.requires.few, c.requires.run.weighed.room)

pub overflow_add-result : goal.overflow_add-result
overflow_add-result c = omega (arith, low _ c.args.best c.place_for-at.ensures c.requires.few)
