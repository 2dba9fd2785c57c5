-- `choose_ranked` meets its contract: the first without a number, or one of the two by noise.
-- Assumes nothing.
use mathlib.Core.Bool.{Bool, true, false, cond}
use mathlib.Core.Path.{◌≡◌, refl, sym, ap, ◌∙◌}
use Prim.Native.Nat.{ℕ}
use lib.Dec.{ltb}
use Rattle.numbers.proofs.Taking.{picked_at, picked_short, handed_on}
use Rattle.novelty.proofs.Choosing.{ranked_alone, ranked_first, ranked_drawn, ranked_gone}
use Rattle.novelty.proofs.choose_ranked.Goals as goal

second : {b : Bool} (x y : ℕ) → b ≡ true → x ≡ cond b x y
second x y e = rw e refl

first : {b : Bool} (x y : ℕ) → b ≡ false → y ≡ cond b x y
first x y e = rw e refl

pub returns-then-second_taken : goal.returns-then-second_taken
returns-then-second_taken c = λ s p a last xs e r v.
    ranked_drawn s r v c.args.numbers.now c.args.used c.unwrap-first.ensures c.in-Some.is (sym c.if-asks_noise.ensures)
    (picked_at c.pick.ensures c.in_ok-drawn-in-Some.was)
    (second _ _ (sym (c.is_below-second_taken.ensures ∙ ap (ltb _) e) ∙ c.if-second_taken.true))

pub returns-else-second_taken : goal.returns-else-second_taken
returns-else-second_taken c = λ s p a last xs e r v.
    ranked_drawn s r v c.args.numbers.now c.args.used c.unwrap-first.ensures c.in-Some.is (sym c.if-asks_noise.ensures)
    (picked_at c.pick.ensures c.in_ok-drawn-in-Some.was)
    (first _ _ (sym (c.is_below-second_taken.ensures ∙ ap (ltb _) e) ∙ c.if-second_taken.false))

pub returns-in_err-drawn-in-Some : goal.returns-in_err-drawn-in-Some
returns-in_err-drawn-in-Some c = λ s p a last xs e r v.
    rw (handed_on c.from_residual.result c.from_residual.ensures.1)
    (ranked_gone s r v c.args.numbers.now c.args.used c.unwrap-first.ensures c.in-Some.is (sym c.if-asks_noise.ensures) c.requires.0
    (picked_short c.pick.ensures c.in_err-drawn-in-Some.was))

pub returns-in_default : goal.returns-in_default
returns-in_default c = λ s p a last xs e r v.
    ranked_first s r v c.args.numbers.now c.args.used c.unwrap-first.ensures c.requires.0 (sym c.if-asks_noise.ensures)

pub returns-in_default-2 : goal.returns-in_default-2
returns-in_default-2 c = λ s p a last xs e r v.
    ranked_alone s r v c.args.numbers.now c.args.used c.unwrap-first.ensures c.requires.0 c.in_default.is
