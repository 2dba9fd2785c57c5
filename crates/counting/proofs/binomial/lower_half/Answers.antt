-- The goals that the search leaves.
use Prim.Native.Nat.{ℕ, suc, ◌+◌, ◌-◌, ◌*◌, ◌/◌, ◌≤◌, ◌<◌}
use native.Mathlib.Numerals.{add-one}
use native.Mathlib.Omega.{arith}
use mathlib.Core.Path.{◌≡◌, refl, sym, ◌∙◌, ap}
use Rattle.plpb.specs.Count.{cap, capped}
use Rattle.plpb.specs.Equations.{binom}
use Rattle.plpb.specs.Factors.{passes_at}
use Rattle.plpb.proofs.Binomial.{binom_one, binom_mono_lower, next_quotient}
use Rattle.plpb.proofs.Factors.{first_past, none_past}
use Rattle.plpb.proofs.Capped.{capped_small, capped_large, capped_one}
use Rattle.counting.proofs.Words.{word_product}
use Rattle.counting.proofs.binomial.lower_half.Goals as goal

next : (m i entry : ℕ) → entry ≡ binom m i → entry * (m - i) / (i + 1) ≡ binom m (i + 1)
next m i entry h = rw (h, add-one) (next_quotient m i)

past : (m k i entry : ℕ) → i + 1 ≤ k → k + k ≤ m → 4294967295 < entry → entry ≡ binom m (i + 1) → suc cap ≡ capped (binom m k)
unfolding cap
past m k i entry h mid l e =
    let rise : binom m (i + 1) ≤ binom m k = binom_mono_lower m (i + 1) k h (omega arith) in
    sym (capped_large (binom m k) (omega arith))

none_chosen : (m k : ℕ) → k ≡ 0 → 1 ≡ capped (binom m k)
unfolding binom
none_chosen m k h = rw h (sym capped_one)

none_tried : (m k : ℕ) → k ≡ 0 → 0 ≡ passes_at m 0 k
unfolding passes_at
none_tried m k h = rw h refl

-- The entry before the one that is past the cap is not, so that one is the first.
first : (m k i entry : ℕ) → i + 1 ≤ k → k + k ≤ m → entry ≡ binom m i → entry ≤ 4294967295 → 4294967295 < entry * (m - i) / (i + 1) → i + 1 ≡ passes_at m 0 k
unfolding cap
first m k i entry h mid e s l =
    let step : entry * (m - i) / (i + 1) ≡ binom m (i + 1) = next m i entry e in
    first_past m k mid i h (omega arith) (omega arith)

all_tried : (m k i entry : ℕ) → i ≤ k → k ≤ i → k + k ≤ m → entry ≡ binom m i → entry ≤ 4294967295 → k ≡ passes_at m 0 k
unfolding cap
all_tried m k i entry h l mid e s =
    let same : i ≡ k = omega arith in
    let exact : entry ≡ binom m k = e ∙ ap (binom m) same in
    none_past m k mid (omega arith)

whole : (m k i entry : ℕ) → i ≤ k → k ≤ i → entry ≡ binom m i → entry ≤ 4294967295 → entry ≡ capped (binom m k)
unfolding cap
whole m k i entry h l e s =
    let same : i ≡ k = omega arith in
    let exact : entry ≡ binom m k = e ∙ ap (binom m) same in
    sym (rw (← exact) (capped_small entry (omega arith)))

pub returns-then-k-eq0 : goal.returns-then-k-eq0
returns-then-k-eq0 c = record { count_value = none_chosen _ _ c.if-k-eq0.true; factors_value = none_tried _ _ c.if-k-eq0.true }

pub loop-i-init : goal.loop-i-init
loop-i-init c = (omega arith, sym (binom_one _), omega arith)

pub overflow_sub-entry : goal.overflow_sub-entry
overflow_sub-entry c = omega arith

pub overflow_mul-entry : goal.overflow_mul-entry
overflow_mul-entry c = record { fits = word_product (omega arith) (omega arith) }

pub returns-then-rank-entry : goal.returns-then-rank-entry
unfolding cap
returns-then-rank-entry c =
    let above = rw c.rank.ensures.0 at c.if-rank-entry.true in record { count_value = past _ _ _ _ (omega arith) (omega arith) above (next _ _ _ c.loop-i.invariant.1); factors_value = first _ _ _ _ (omega arith) (omega arith) c.loop-i.invariant.1 c.loop-i.invariant.2 above }

pub loop-i-preserved : goal.loop-i-preserved
loop-i-preserved c = (omega arith, next _ _ _ c.loop-i.invariant.1, omega (arith, c.if-rank-entry.false, c.rank.ensures.0))

pub returns : goal.returns
returns c =
    let i = c.loop-i.invariant in record { count_value = c.from.ensures ∙ whole _ _ _ _ i.0 c.loop-i-test.false i.1 i.2; factors_value = all_tried _ _ _ _ i.0 c.loop-i-test.false (omega arith) i.1 i.2 }
