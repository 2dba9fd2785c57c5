-- Picks that favour nobody (T-06): every place among m is taken by equally many of the numbers that there are; and a longer list gives a pick or a start
-- that was met the same.
-- Assumes nothing.
use Prim.Native.Nat.{ℕ, zero, suc, ◌+◌, ◌*◌, ◌-◌, ◌/◌, ◌%◌, ◌≤◌, ◌<◌}
use native.Mathlib.Nat.{add-zero, zero-add, zero-mul, suc-mul, mod-add-div', mod-eq_of_lt, mul-add-mod_self_right, le-div_iff_mul-le, div-lt_iff_lt-mul}
use native.Mathlib.Omega.{arith}
use mathlib.Core.Bool.{Bool, true, false, cond}
use mathlib.Core.List.{List, [], ◌∷◌, ◌++◌}
use mathlib.Core.Path.{◌≡◌, refl, sym, ap, ap₂, ◌∙◌}
use borrow.Author.Tests.{lt-ltb, le-ltb, eqb-true, eqb-false, eq-eqb, ne_eqb, leb-true, le-leb}
use lib.Dec.{leb, ltb, eqb}
use lib.ListN.{length, take, drop, length-append, length-drop}
use lib.Seq.{take-append-le, drop-append-le}
use Rattle.plpb.specs.Lists.{◌and◌, count, row}
use Rattle.plpb.specs.Numbers.{taken, too_few, take_words, range, fair, pick_among, take_pick}
use Rattle.plpb.proofs.Lists.{count_nil, count_cons, count_append}

-- ---- the limit

module _ (N m : ℕ) (h : 0 < m) where
  limit : N - N % m ≡ N / m * m
  limit = omega (arith, mod-add-div' N m)

  -- A number's multiple of m and one more: below the limit this is still among the N numbers, at or above it no more.
  above : (r : ℕ) → r - r % m + m ≡ (r / m + 1) * m
  above r = omega (arith, mod-add-div' r m, next (r / m))
    where
      next : (q : ℕ) → (q + 1) * m ≡ q * m + m
      next q = let e : q + 1 ≡ suc q = omega arith in ap (λ k. k * m) e ∙ suc-mul q m

  pub kept_within : (r : ℕ) → r < N - N % m → r - r % m + m ≤ N
  kept_within r l =
      let q : r / m < N / m = (div-lt_iff_lt-mul h).1 (rw limit at l) in
      rw (above r) ((le-div_iff_mul-le h).0 (omega arith))

  pub within_kept : (r : ℕ) → r - r % m + m ≤ N → r < N - N % m
  within_kept r l =
      let q : r / m + 1 ≤ N / m = (le-div_iff_mul-le h).1 (rw (above r) at l) in
      rw limit ((div-lt_iff_lt-mul h).0 (omega arith))

-- ---- every place alike

row_split : (i a b : ℕ) → row i (a + b) ≡ row i a ++ row (i + a) b
unfolding row
row_split i zero b = rw (zero-add b, add-zero i)
row_split i (suc a) b =
    let e : suc i + a ≡ i + suc a = omega arith in
    let f : suc a + b ≡ suc (a + b) = omega arith in
    rw f (ap (λ r. i ∷ r) (row_split (suc i) a b ∙ ap (λ k. row (suc i) a ++ row k b) e))

-- Counting over numbers in a row, by what is so of each.
count_row_same : (p q : ℕ → Bool) (i k : ℕ) → ((x : ℕ) → i ≤ x → x < i + k → p x ≡ q x) → count p (row i k) ≡ count q (row i k)
unfolding row
count_row_same p q i zero h = count_nil p ∙ sym (count_nil q)
count_row_same p q i (suc k) h =
    count_cons p i (row (suc i) k)
    ∙ ap₂ (λ b n. cond b 1 0 + n) (h i (omega arith) (omega arith)) (count_row_same p q (suc i) k (λ x l u. h x (omega arith) (omega arith)))
    ∙ sym (count_cons q i (row (suc i) k))

count_row_none : (p : ℕ → Bool) (i k : ℕ) → ((x : ℕ) → i ≤ x → x < i + k → p x ≡ false) → count p (row i k) ≡ 0
unfolding row
count_row_none p i zero h = count_nil p
count_row_none p i (suc k) h =
    count_cons p i (row (suc i) k)
    ∙ ap₂ (λ b n. cond b 1 0 + n) (h i (omega arith) (omega arith)) (count_row_none p (suc i) k (λ x l u. h x (omega arith) (omega arith)))

less : (a b : ℕ) → a ≤ b → (a ≡ b → ⊥) → a < b
less a b l n = omega (arith, l, n)

-- One of k numbers in a row is a given one of them.
count_row_one : (x i k : ℕ) → i ≤ x → x < i + k → count (λ r. eqb r x) (row i k) ≡ 1
unfolding row
count_row_one x i zero l u = absurd (omega arith)
count_row_one x i (suc k) l u = at (eqb i x) refl (λ d. count_row_one x (suc i) k (omega arith) (omega arith))
  where
    at : (b : Bool) → eqb i x ≡ b → (i < x → count (λ r. eqb r x) (row (suc i) k) ≡ 1) → count (λ r. eqb r x) (i ∷ row (suc i) k) ≡ 1
    at true e on =
        count_cons (λ r. eqb r x) i (row (suc i) k)
        ∙ ap₂ (λ b n. cond b 1 0 + n) e
        (count_row_none (λ r. eqb r x) (suc i) k (λ r a b. ne_eqb r x (λ z. let s = eqb-true i x e in omega arith)))
    at false e on =
        count_cons (λ r. eqb r x) i (row (suc i) k) ∙ ap₂ (λ b n. cond b 1 0 + n) e (on (less i x l (eqb-false i x e)))

module _ (m i : ℕ) (h : 0 < m) (k : i < m) where
  -- Among m numbers in a row that begin at a multiple of m, one has the remainder i.
  one_block : (q : ℕ) → count (λ r. eqb (r % m) i) (row (q * m) m) ≡ 1
  one_block q = count_row_same (λ r. eqb (r % m) i) (λ r. eqb r (q * m + i)) (q * m) m same ∙ count_row_one (q * m + i) (q * m) m (omega arith) (omega arith)
    where
      same : (x : ℕ) → q * m ≤ x → x < q * m + m → eqb (x % m) i ≡ eqb x (q * m + i)
      same x l u =
          let j = x - q * m in
          let e : q * m + j ≡ x = omega arith in
          let r : x % m ≡ j = ap (λ y. y % m) (sym e) ∙ mul-add-mod_self_right q m j ∙ mod-eq_of_lt (omega arith) in
          rw r (shifted (eqb j i) refl e)
        where
          shifted : (b : Bool) → eqb (x - q * m) i ≡ b → q * m + (x - q * m) ≡ x → eqb (x - q * m) i ≡ eqb x (q * m + i)
          shifted true z e = z ∙ sym (eq-eqb x (q * m + i) (let s = eqb-true _ i z in omega arith))
          shifted false z e = z ∙ sym (ne_eqb x (q * m + i) (λ w. eqb-false _ i z (omega arith)))

  blocks : (q : ℕ) → count (λ r. eqb (r % m) i) (row 0 (q * m)) ≡ q
  blocks zero = ap (λ n. count (λ r. eqb (r % m) i) (row 0 n)) (zero-mul m) ∙ (unfold row in count_nil (λ r. eqb (r % m) i))
  blocks (suc q) =
      ap (λ n. count (λ r. eqb (r % m) i) (row 0 n)) (suc-mul q m)
      ∙ ap (count (λ r. eqb (r % m) i)) (row_split 0 (q * m) m)
      ∙ count_append (λ r. eqb (r % m) i) (row 0 (q * m)) (row (0 + q * m) m)
      ∙ ap₂ ◌+◌ (blocks q) (ap (λ n. count (λ r. eqb (r % m) i) (row n m)) (zero-add (q * m)) ∙ one_block q)
      ∙ omega arith

  alike : (N : ℕ) → count (λ r. ltb r (N - N % m) and eqb (r % m) i) (row 0 N) ≡ N / m
  unfolding ◌and◌
  alike N =
      let low = N / m * m in
      let e : low + N % m ≡ N = omega (arith, mod-add-div' N m) in
      let test : ℕ → Bool = λ r. ltb r (N - N % m) and eqb (r % m) i in
      ap (λ n. count test (row 0 n)) (sym e)
      ∙ ap (count test) (row_split 0 low (N % m))
      ∙ count_append test (row 0 low) (row (0 + low) (N % m))
      ∙ ap₂ ◌+◌
      (count_row_same test (λ r. eqb (r % m) i) 0 low (λ x l u. rw (lt-ltb x (N - N % m) (omega (arith, limit N m h))) refl) ∙ blocks (N / m))
      (count_row_none test (0 + low) (N % m) (λ x l u. rw (le-ltb x (N - N % m) (omega (arith, limit N m h))) refl))
      ∙ omega arith

-- "Picks that favour nobody": of all numbers, equally many lead to each place among m.
pub each_place_alike : (m i : ℕ) → i < m → count (λ r. ltb r (fair m) and eqb (r % m) i) (row 0 range) ≡ range / m
unfolding fair
each_place_alike m i k = alike m i (omega arith) k range

-- ---- a longer list

among_longer : (m : ℕ) (left more : List ℕ) (u : ℕ) {place after : ℕ} → pick_among m left u ≡ taken place after → pick_among m (left ++ more) u ≡ taken place after
unfolding pick_among
among_longer m [] more u e = absurd (let z : ◌≡◌ {A = ℕ} 0 1 = cc in omega arith)
among_longer m (r ∷ rest) more u {place} {after} e = either (ltb r (fair m)) e (among_longer m rest more (u + 1))
  where
    either : (b : Bool) → cond b (taken (r % m) (u + 1)) (pick_among m rest (u + 1)) ≡ taken place after
        → (pick_among m rest (u + 1) ≡ taken place after → pick_among m (rest ++ more) (u + 1) ≡ taken place after)
        → cond b (taken (r % m) (u + 1)) (pick_among m (rest ++ more) (u + 1)) ≡ taken place after
    either true g f = g
    either false g f = f g

-- A pick that is met in a list is met alike in one that begins with it,
pub pick_longer : (m : ℕ) (ns more : List ℕ) (used : ℕ) {place after : ℕ} → used ≤ length ns
    → take_pick m ns used ≡ taken place after → take_pick m (ns ++ more) used ≡ taken place after
unfolding take_pick
pick_longer m ns more used h e = rw (drop-append-le used ns more h) (among_longer m (drop used ns) more used e)

-- and so is a start.
pub words_longer : (k : ℕ) (ns more : List ℕ) (used : ℕ) {ws : List ℕ} {after : ℕ}
    → take_words k ns used ≡ taken ws after → take_words k (ns ++ more) used ≡ taken ws after
unfolding take_words
words_longer k ns more used {ws} {after} e = told (leb (used + k) (length ns)) refl e
  where
    told : (b : Bool) → leb (used + k) (length ns) ≡ b → cond b (taken (take k (drop used ns)) (used + k)) (too_few used) ≡ taken ws after
        → cond (leb (used + k) (length (ns ++ more))) (taken (take k (drop used (ns ++ more))) (used + k)) (too_few used) ≡ taken ws after
    told false z g = absurd (let o : ◌≡◌ {A = ℕ} 0 1 = cc in omega arith)
    told true z g =
        let l = leb-true (used + k) (length ns) z in
        let fits : leb (used + k) (length (ns ++ more)) ≡ true =
        le-leb (used + k) (length (ns ++ more)) (omega (arith, length-append ns more)) in
        rw (fits, drop-append-le used ns more (omega arith), take-append-le k (drop used ns) more (omega (arith, length-drop used ns))) g
