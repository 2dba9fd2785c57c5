-- Laws of counts: capping goes with sum and product, so that a count may be cut at each step of its computation; and what T-08 says of cut counts.
-- Assumes nothing.
use Prim.Native.Nat.{ℕ, zero, suc, ◌+◌, ◌*◌, ◌≤◌, ◌<◌, min}
use native.Mathlib.Nat.{add_assoc, le_trans, mul_comm, mul-zero, zero-mul, le-mul_of_pos_right, min-eq_left, min-eq_right, zero-min}
use native.Mathlib.Decide.{dec_le}
use native.Mathlib.Omega.{arith}
use mathlib.Core.Bool.{true, false}
use mathlib.Core.List.{List, ◌∷◌}
use mathlib.Core.Path.{◌≡◌, refl, sym, ◌∙◌, ap, ap₂}
use borrow.Author.Tests.{lt-ltb, le-ltb}
use Rattle.plpb.specs.Count.{cap, Count, given, rank, capped, sum, product}
use Rattle.plpb.specs.Lists.{sum_by}

-- A number up to the cap, and the next one, stands as it is ..
pub capped_small : (n : ℕ) → n ≤ suc cap → capped n ≡ n
unfolding capped
capped_small n h = omega arith

-- .. and any other as that next one.
pub capped_large : (n : ℕ) → cap < n → capped n ≡ suc cap
unfolding capped
capped_large n h = omega arith

-- What stands at the cap or below is the number itself ..
pub capped_exact : (n : ℕ) → capped n ≤ cap → capped n ≡ n
unfolding capped
capped_exact n h = omega arith

-- .. and only numbers above the cap stand above it.
pub capped_passes : (n : ℕ) → cap < capped n → cap < n
unfolding capped
capped_passes n h = omega arith

pub capped_most : (n : ℕ) → capped n ≤ suc cap
unfolding capped
capped_most n = omega arith

pub capped_twice : (n : ℕ) → capped (capped n) ≡ capped n
capped_twice n = capped_small (capped n) (capped_most n)

pub capped_zero : capped 0 ≡ 0
unfolding capped
capped_zero = omega arith

pub capped_one : capped 1 ≡ 1
unfolding capped cap
capped_one = refl

-- Only none is given out as none.
pub capped_none : (n : ℕ) → capped n ≡ 0 → n ≡ 0
unfolding capped cap
capped_none n h = omega arith

-- Sums.
pub capped_sum : (a b : ℕ) → capped (capped a + capped b) ≡ capped (a + b)
unfolding capped
capped_sum a b = omega arith

-- Products: a factor past the bound takes the product there too, unless the other is 0.
reached : (b x y : ℕ) → b ≤ x → min (b * min (suc y) b) b ≡ min (x * suc y) b
reached zero x y h = omega arith
reached (suc b) x y h =
    let left : suc b ≤ suc b * min (suc y) (suc b) = le-mul_of_pos_right (suc b) (omega arith) in
    let right : x ≤ x * suc y = le-mul_of_pos_right x (omega arith) in
    min-eq_right left ∙ sym (min-eq_right (le_trans h right))

one_past : (b x y : ℕ) → b ≤ x → min (b * min y b) b ≡ min (x * y) b
one_past b x zero h = simp (zero-min, mul-zero)
one_past b x (suc y) h = reached b x y h

-- Capping before a product changes nothing after it.
min_product : (b x y : ℕ) → min (min x b * min y b) b ≡ min (x * y) b
min_product b x y = go (dec_le b x) (dec_le b y)
  where
    go : Dec (b ≤ x) → Dec (b ≤ y) → min (min x b * min y b) b ≡ min (x * y) b
    go (yes h) k = rw (min-eq_right h) (one_past b x y h)
    go (no h) (yes k) = rw (min-eq_right k, mul_comm (min x b) b, mul_comm x y) (one_past b y x k)
    go (no h) (no k) =
        let small : x ≤ b = omega arith in
        let small' : y ≤ b = omega arith in
        rw (min-eq_left small, min-eq_left small')

pub capped_product : (a b : ℕ) → capped (capped a * capped b) ≡ capped (a * b)
unfolding capped
capped_product a b = min_product (suc cap) a b

-- The same for operands of which it is known what they are the capped numbers of.
pub sum_of : {x y : ℕ} (a b : ℕ) → x ≡ capped a → y ≡ capped b → capped (x + y) ≡ capped (a + b)
sum_of a b p q = ap₂ (λ s t. capped (s + t)) p q ∙ capped_sum a b

pub product_of : {x y : ℕ} (a b : ℕ) → x ≡ capped a → y ≡ capped b → capped (x * y) ≡ capped (a * b)
product_of a b p q = ap₂ (λ s t. capped (s * t)) p q ∙ capped_product a b

-- So numbers that are the same once capped may stand for each other in a sum or a product that is capped.
pub same_sum : (a a' b b' : ℕ) → capped a ≡ capped a' → capped b ≡ capped b' → capped (a + b) ≡ capped (a' + b')
same_sum a a' b b' p q = sym (capped_sum a b) ∙ sum_of a' b' p q

pub same_product : (a a' b b' : ℕ) → capped a ≡ capped a' → capped b ≡ capped b' → capped (a * b) ≡ capped (a' * b')
same_product a a' b b' p q = sym (capped_product a b) ∙ product_of a' b' p q

-- A sum over a list, capped at each step: what it comes to with the rest does not change.
pub sum_step : {A : Type 0} (f : A → ℕ) (sum next share : ℕ) (x : A) (xs : List A) → share ≡ capped (f x) → next ≡ capped (sum + share) → capped (next + sum_by f xs) ≡ capped (sum + sum_by f (x ∷ xs))
unfolding sum_by
sum_step f sum next share x xs p q =
    let one : capped next ≡ capped (sum + f x) =
    ap capped q ∙ capped_twice (sum + share) ∙ same_sum sum sum share (f x) refl (ap capped p ∙ capped_twice (f x)) in
    same_sum next (sum + f x) (sum_by f xs) (sum_by f xs) one refl ∙ ap capped (add_assoc sum (f x) (sum_by f xs))

-- ---- what is given out (T-08)

-- A number up to the cap is given out as it is, uncut ..
pub given_small : (n : ℕ) → n ≤ cap → given n ≡ record { value = n; cut = false }
unfolding given
given_small n h = ap₂ (λ v c. record { value = v; cut = c }) (min-eq_left h) (le-ltb cap n h)

-- .. and any other as the cap, cut: so two cut counts are equal.
pub given_large : (n : ℕ) → cap < n → given n ≡ record { value = cap; cut = true }
unfolding given
given_large n h = ap₂ (λ v c. record { value = v; cut = c }) (min-eq_right (omega arith)) (lt-ltb cap n h)

-- The count of a number stands where capping puts it ..
pub given_rank : (n : ℕ) → rank (given n) ≡ capped n
unfolding rank
given_rank n = at (dec_le n cap)
  where
    at : Dec (n ≤ cap) → rank (given n) ≡ capped n
    at (yes h) = ap rank (given_small n h) ∙ sym (capped_small n (omega arith))
    at (no h) = ap rank (given_large n (omega arith)) ∙ sym (capped_large n (omega arith))

-- .. and is given out alike when it is capped first.
pub given_capped : (n : ℕ) → given (capped n) ≡ given n
given_capped n = at (dec_le n cap)
  where
    at : Dec (n ≤ cap) → given (capped n) ≡ given n
    at (yes h) = ap given (capped_small n (omega arith))
    at (no h) =
        let passed : capped n ≡ suc cap = capped_large n (omega arith) in
        ap given passed ∙ given_large (suc cap) (omega arith) ∙ sym (given_large n (omega arith))

-- "A cut count is greater than any uncut one" ..
pub cut_greater : (c d : Count) → c.value ≤ cap → c.cut ≡ false → d.cut ≡ true → rank c < rank d
unfolding rank
cut_greater c d small kept cut = rw (kept, cut) (omega arith)

-- .. "two cut ones are equal".
pub cut_equal : (c d : Count) → c.cut ≡ true → d.cut ≡ true → rank c ≡ rank d
unfolding rank
cut_equal c d one other = rw (one, other)

-- The count of a sum is the sum of the counts, and so for products.
pub sum_given : (m n : ℕ) → sum (given m) (given n) ≡ given (m + n)
unfolding sum
sum_given m n =
    rw (given_rank m, given_rank n)
    (sym (given_capped (capped m + capped n)) ∙ ap given (capped_sum m n) ∙ given_capped (m + n))

pub product_given : (m n : ℕ) → product (given m) (given n) ≡ given (m * n)
unfolding product
product_given m n =
    rw (given_rank m, given_rank n)
    (sym (given_capped (capped m * capped n)) ∙ ap given (capped_product m n) ∙ given_capped (m * n))

-- "zero times a cut one is zero and uncut"
pub zero_product : (c : Count) → product (given 0) c ≡ record { value = 0; cut = false }
unfolding product
zero_product c = rw (given_rank 0, capped_zero, zero-mul) (given_small 0 (omega arith))
