-- Laws of numbers in decimal: the two cases, how many digits there are, and that the digits say the number.
-- Assumes nothing.
use Prim.Native.Nat.{ℕ, zero, suc, ◌+◌, ◌*◌, ◌-◌, ◌/◌, ◌%◌, ◌^◌, ◌≤◌, ◌<◌}
use native.Mathlib.Omega.{arith}
use native.Mathlib.Nat.{pow-succ'}
use native.Mathlib.Decide.{dec_lt}
use mathlib.Core.Path.{◌≡◌, refl, sym, ap, ◌∙◌}
use mathlib.Core.List.{List, [], ◌∷◌, ◌++◌}
use lib.ListN.{length, length-append}
use borrow.Author.Tests.{lt-ltb, le-ltb}
use Rattle.texts.specs.Texts.{digit, decimal_in, decimal}

not_lt : {a b : ℕ} → (a < b → ⊥) → b ≤ a
not_lt n = omega arith

in_small : (k n : ℕ) → n < 10 → decimal_in k n ≡ digit n ∷ []
unfolding decimal_in
in_small zero n h = refl
in_small (suc k) n h = rw (lt-ltb n 10 h)

in_large : (k n : ℕ) → 10 ≤ n → decimal_in (suc k) n ≡ decimal_in k (n / 10) ++ (digit (n % 10) ∷ [])
unfolding decimal_in
in_large k n h = rw (le-ltb n 10 h)

-- However many steps more are allowed, the digits are the same.
steps : (j k n : ℕ) → n ≤ j → n ≤ k → decimal_in j n ≡ decimal_in k n
steps zero k n p q = in_small zero n (omega arith) ∙ sym (in_small k n (omega arith))
steps (suc j) zero n p q = in_small (suc j) n (omega arith) ∙ sym (in_small zero n (omega arith))
steps (suc j) (suc k) n p q = by (dec_lt n 10) (λ (h : 10 ≤ n). steps j k (n / 10) (omega arith) (omega arith))
  where
    by : Dec (n < 10) → (10 ≤ n → decimal_in j (n / 10) ≡ decimal_in k (n / 10)) → decimal_in (suc j) n ≡ decimal_in (suc k) n
    by (yes h) f = in_small (suc j) n h ∙ sym (in_small (suc k) n h)
    by (no h) f =
        in_large j n (not_lt h) ∙ ap (λ (l : List ℕ). l ++ (digit (n % 10) ∷ [])) (f (not_lt h)) ∙ sym (in_large k n (not_lt h))

pub decimal_small : (n : ℕ) → n < 10 → decimal n ≡ digit n ∷ []
unfolding decimal
decimal_small n h = in_small n n h

pub decimal_large : (n : ℕ) → 10 ≤ n → decimal n ≡ decimal (n / 10) ++ (digit (n % 10) ∷ [])
unfolding decimal
decimal_large zero h = absurd (omega arith)
decimal_large (suc k) h =
    let n = suc k in
    in_large k n h ∙ ap (λ (l : List ℕ). l ++ (digit (n % 10) ∷ [])) (steps k (n / 10) (n / 10) (omega arith) (omega arith))

pub length_large : (n : ℕ) → 10 ≤ n → length (decimal n) ≡ length (decimal (n / 10)) + 1
length_large n h = ap length (decimal_large n h) ∙ length-append (decimal (n / 10)) (digit (n % 10) ∷ [])

-- A number below 10^k has k digits at most; one of 64 bits has 20.
short : (k n : ℕ) → n < 10 ^ suc k → length (decimal n) ≤ suc k
short zero n h =
    let l : n < 10 = h in
    let e : length (decimal n) ≡ 1 = ap length (decimal_small n l) in
    omega (arith, e)
short (suc k) n h = by (dec_lt n 10) (λ (l : n / 10 < 10 ^ suc k). short k (n / 10) l)
  where
    by : Dec (n < 10) → (n / 10 < 10 ^ suc k → length (decimal (n / 10)) ≤ suc k) → length (decimal n) ≤ suc (suc k)
    by (yes l) f = let e : length (decimal n) ≡ 1 = ap length (decimal_small n l) in omega (arith, e)
    by (no l) f =
        let less : n / 10 < 10 ^ suc k = omega (arith, h, pow-succ' 10 (suc k)) in
        omega (arith, length_large n (not_lt l), f less)

pub twenty : (n : ℕ) → n < 2 ^ 64 → length (decimal n) ≤ 20
twenty n h = let l : n < 10 ^ 20 = omega (arith, h) in short 19 n l

-- What digits say, read from the first to the last behind what was read before; of a number's decimal it is the number.
unfoldable pub value_from : ℕ → List ℕ → ℕ
value_from before [] = before
value_from before (d ∷ rest) = value_from (10 * before + (d - 48)) rest

value_snoc : (before : ℕ) (ds : List ℕ) (d : ℕ) → value_from before (ds ++ (d ∷ [])) ≡ 10 * value_from before ds + (d - 48)
unfolding value_from
value_snoc before [] d = refl
value_snoc before (e ∷ ds) d = value_snoc (10 * before + (e - 48)) ds d

value_small : (k n : ℕ) → n < 10 → value_from 0 (decimal_in k n) ≡ n
unfolding value_from
value_small k n h = ap (value_from 0) (in_small k n h) ∙ omega arith

value_in : (k n : ℕ) → n ≤ k → value_from 0 (decimal_in k n) ≡ n
value_in zero n h = value_small zero n (omega arith)
value_in (suc k) n h = by (dec_lt n 10) (λ (l : 10 ≤ n). value_in k (n / 10) (omega arith))
  where
    by : Dec (n < 10) → (10 ≤ n → value_from 0 (decimal_in k (n / 10)) ≡ n / 10) → value_from 0 (decimal_in (suc k) n) ≡ n
    by (yes l) f = value_small (suc k) n l
    by (no l) f =
        ap (value_from 0) (in_large k n (not_lt l))
        ∙ value_snoc 0 (decimal_in k (n / 10)) (digit (n % 10))
        ∙ omega (arith, f (not_lt l))

pub decimal_value : (n : ℕ) → value_from 0 (decimal n) ≡ n
unfolding decimal
decimal_value n = value_in n n (omega arith)
