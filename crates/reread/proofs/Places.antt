-- What stands at a place of a text, and where runs of bytes, words and numbers end there.
-- Assumes nothing.
use Prim.Native.Nat.{ℕ, zero, suc, ◌+◌, ◌*◌, ◌-◌, ◌/◌, ◌%◌, ◌≤◌, ◌<◌}
use native.Mathlib.Omega.{arith}
use native.Mathlib.Decide.{dec_lt}
use mathlib.Core.Path.{◌≡◌, refl, sym, ap, ◌∙◌}
use mathlib.Core.Bool.{Bool, true, not}
use mathlib.Core.List.{List, [], ◌∷◌, ◌++◌}
use lib.ListN.{length, get_or, drop, length-drop}
use lib.Seq.{drop-drop, drop-append_seam, get_or-drop}
use borrow.Author.Tests.{eq-eqb, le-leb, not-true}
use Rattle.plpb.specs.Lists.{◌and◌, all}
use Rattle.plpb.proofs.Lists.{T_true, is_true, and_left, and_right, and_both, all_append}
use Rattle.texts.specs.Texts.{digit, decimal}
use Rattle.texts.proofs.Decimal.{decimal_small, decimal_large, length_large, value_from, decimal_value}
use Rattle.tokens.specs.Tokens.{run, run_end, is_digit, number, number_at, begins, word_end}

-- No such byte stands at the front of a list.
unfoldable pub stops : (ℕ → Bool) → List ℕ → Bool
stops such [] = true
stops such (b ∷ bs) = not (such b)

run_over : (such : ℕ → Bool) (xs r : List ℕ) → all such xs ≡ true → stops such r ≡ true → run such (xs ++ r) ≡ length xs
unfolding run all stops
run_over such [] [] a h = refl
run_over such [] (b ∷ bs) a h = rw (not-true (such b) h)
run_over such (x ∷ xs) r a h =
    rw (is_true (such x) (and_left _ _ (T_true a))) (ap suc (run_over such xs r (is_true _ (and_right (such x) _ (T_true a))) h))

begins_here : (w r : List ℕ) → begins w (w ++ r) ≡ true
unfolding begins ◌and◌
begins_here [] r = refl
begins_here (b ∷ w) r = rw (eq-eqb b b refl) (begins_here w r)

-- ---- digits

number_over : (v : ℕ) (xs r : List ℕ) → all is_digit xs ≡ true → stops is_digit r ≡ true → number v (xs ++ r) ≡ value_from v xs
unfolding number all stops value_from
number_over v [] [] a h = refl
number_over v [] (b ∷ bs) a h = rw (not-true (is_digit b) h)
number_over v (x ∷ xs) r a h =
    rw (is_true (is_digit x) (and_left _ _ (T_true a))) (number_over (10 * v + (x - 48)) xs r (is_true _ (and_right (is_digit x) _ (T_true a))) h)

not_lt : {a b : ℕ} → (a < b → ⊥) → b ≤ a
not_lt n = omega arith

digit_is : (d : ℕ) → d < 10 → is_digit (digit d) ≡ true
unfolding is_digit ◌and◌
digit_is d h = rw (le-leb 48 (48 + d) (omega arith), le-leb (48 + d) 57 (omega arith))

digits_in : (k n : ℕ) → n ≤ k → all is_digit (decimal n) ≡ true
unfolding all
digits_in zero n h = ap (all is_digit) (decimal_small n (omega arith)) ∙ is_true _ (and_both _ _ (T_true (digit_is n (omega arith))) tt)
digits_in (suc k) n h = by (dec_lt n 10) (λ (l : 10 ≤ n). digits_in k (n / 10) (omega arith))
  where
    by : Dec (n < 10) → (10 ≤ n → all is_digit (decimal (n / 10)) ≡ true) → all is_digit (decimal n) ≡ true
    by (yes l) f = ap (all is_digit) (decimal_small n l) ∙ is_true _ (and_both _ _ (T_true (digit_is n l)) tt)
    by (no l) f =
        ap (all is_digit) (decimal_large n (not_lt l))
        ∙ all_append is_digit (decimal (n / 10)) (digit (n % 10) ∷ [])
        ∙ is_true _ (and_both _ _ (T_true (f (not_lt l))) (and_both _ _ (T_true (digit_is (n % 10) (omega arith))) tt))

pub digits : (n : ℕ) → all is_digit (decimal n) ≡ true
digits n = digits_in n n (omega arith)

pub some_digit : (n : ℕ) → 0 < length (decimal n)
some_digit n = by (dec_lt n 10)
  where
    by : Dec (n < 10) → 0 < length (decimal n)
    by (yes l) = let e : length (decimal n) ≡ 1 = ap length (decimal_small n l) in omega (arith, e)
    by (no l) = omega (arith, length_large n (not_lt l))

-- ---- places

module _ (s : List ℕ) where
  -- From a place on stand these bytes, and behind them those.
  pub record Here (at : ℕ) (xs r : List ℕ) : Type 0 where
    pub is : drop at s ≡ xs ++ r

  module _ {at : ℕ} {xs r : List ℕ} (h : Here at xs r) where
    pub past : drop (at + length xs) s ≡ r
    past = sym (drop-drop (length xs) at s) ∙ ap (drop (length xs)) h.is ∙ drop-append_seam xs r

    pub byte_of : (b : ℕ) (ys : List ℕ) → xs ≡ b ∷ ys → get_or s at 0 ≡ b
    byte_of b ys e =
        ap (λ k. get_or s k 0) (let z : at ≡ at + 0 = omega arith in z) ∙ sym (get_or-drop at s 0 0) ∙ ap (λ l. get_or l 0 0) (h.is ∙ ap (λ l. l ++ r) e)

    pub run_ends : (such : ℕ → Bool) → all such xs ≡ true → stops such r ≡ true → run_end such s at ≡ at + length xs
    unfolding run_end
    run_ends such a e = ap (λ k. at + k) (ap (run such) h.is ∙ run_over such xs r a e)

    pub word_ends : word_end xs s at ≡ at + length xs
    unfolding word_end
    word_ends = let b : begins xs (drop at s) ≡ true = ap (begins xs) h.is ∙ begins_here xs r in rw b

  pub byte_at : {at b : ℕ} {xs r : List ℕ} → Here at (b ∷ xs) r → get_or s at 0 ≡ b
  byte_at {b = b} {xs = xs} h = byte_of h b xs refl

  pub tail : {at b : ℕ} {xs r : List ℕ} → Here at (b ∷ xs) r → Here (at + 1) xs r
  tail {at} {b} {xs} {r} h = let one : Here at (b ∷ []) (xs ++ r) = record { is = h.is } in record { is = past one }

  pub within : (at : ℕ) {b : ℕ} {r : List ℕ} → drop at s ≡ b ∷ r → at < length s
  within at {b} {r} h = let e : length s - at ≡ suc (length r) = sym (length-drop at s) ∙ ap length h in omega (arith, e)

  pub at_end : (at : ℕ) → drop at s ≡ [] → length s ≤ at
  at_end at h = let e : length s - at ≡ 0 = sym (length-drop at s) ∙ ap length h in omega (arith, e)

  -- A number's digits.
  module _ (n : ℕ) {at : ℕ} {r : List ℕ} (d : stops is_digit r ≡ true) (h : Here at (decimal n) r) where
    pub digits_end_lem : run_end is_digit s at ≡ at + length (decimal n)
    digits_end_lem = run_ends h is_digit (digits n) d

    pub digits_say : number_at s at ≡ n
    unfolding number_at
    digits_say = ap (number 0) h.is ∙ number_over 0 (decimal n) r (digits n) d ∙ decimal_value n
