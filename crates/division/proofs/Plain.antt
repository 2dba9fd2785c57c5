-- The array of 8 against the plain list of stakes: where there is no race stands 0, which gets nothing.
-- Assumes nothing.
use Prim.Native.Nat.{ℕ, zero, suc, ◌+◌, ◌-◌, ◌*◌, ◌/◌, ◌≤◌, ◌<◌}
use mathlib.Core.Path.{◌≡◌, refl, sym, ap, ap₂, ◌∙◌}
use mathlib.Core.Bool.{Bool, true, false, not, cond}
use mathlib.Core.List.{List, [], ◌∷◌, ◌++◌}
use native.Mathlib.Nat.{zero-add, mul-zero, zero-div, le_of_suc-le-suc, not-suc-le-zero, pos_of_ne-zero}
use native.Mathlib.Omega.{arith}
use lib.Dec.{leb, ltb, eqb}
use lib.ListN.{length, get_or, take, replicate}
use borrow.Author.Tests.{lt-ltb, le-ltb, ltb-false, leb-true, eqb-false}
use Rattle.plpb.specs.Lists.{◌and◌, ◌or◌, all}
use Rattle.division.specs.declared.Part.{Part}
use Rattle.division.specs.Split.{sum, whole_parts, one_each, lengths, parts, split, lawful_stake, split_refusal, refusal_after, parts_after}
use Rattle.division.specs.declared.Stakes.{Stakes}
use Rattle.division.specs.declared.Parts.{Parts}
use Rattle.division.specs.declared.Refusal.{Refusal}
use Rattle.division.specs.declared.Refusal.TheVariants.{NoRoom, WrongCount, WrongStake}
use Rattle.division.specs.Eight.{kept, laid, refusal_number, refusal_in, parts_in, bad_at, bad_from, lawful_parts, divided}
use Rattle.std.specs.Prelude.{Result, Ok, Err, IfOk}
use Rattle.division.proofs.Whole.{few_remain, whole_parts_length, splits_all}
use Rattle.division.proofs.Laws.{good_some}
use Rattle.std.proofs.Math.Dec.{eqb-suc-zero}

-- ---- 0 where there is no race

padded_sum : (ss : List ℕ) (k : ℕ) → sum (ss ++ replicate k 0) ≡ sum ss
unfolding sum
padded_sum [] zero = refl
padded_sum [] (suc k) = zero-add (sum (replicate k 0)) ∙ padded_sum [] k
padded_sum (s ∷ ss) k = ap (λ (m : ℕ). s + m) (padded_sum ss k)

padded_wholes : (n t : ℕ) (ss : List ℕ) (k : ℕ) → whole_parts n t (ss ++ replicate k 0) ≡ whole_parts n t ss ++ replicate k 0
unfolding whole_parts
padded_wholes n t [] zero = refl
padded_wholes n t [] (suc k) = ap₂ ◌∷◌ (ap (λ (m : ℕ). m / t) (mul-zero n) ∙ zero-div t) (padded_wholes n t [] k)
padded_wholes n t (s ∷ ss) k = ap (λ (ls : List ℕ). (n * s / t) ∷ ls) (padded_wholes n t ss k)

padded_ones : (r : ℕ) (ls zs : List ℕ) → r ≤ length ls → one_each r (ls ++ zs) ≡ one_each r ls ++ zs
unfolding one_each
padded_ones zero ls zs h = refl
padded_ones (suc r) [] zs h = absurd (not-suc-le-zero h)
padded_ones (suc r) (l ∷ ls) zs h = ap (λ (ks : List ℕ). suc l ∷ ks) (padded_ones r ls zs (le_of_suc-le-suc h))

padded_lengths : (n : ℕ) (ss : List ℕ) (k : ℕ) → 0 < sum ss → lengths n (ss ++ replicate k 0) ≡ lengths n ss ++ replicate k 0
unfolding lengths
padded_lengths n ss k h =
    let w = whole_parts n (sum ss) ss in
    rw (padded_sum ss k, padded_wholes n (sum ss) ss k, padded_sum w k) (padded_ones (n - sum w) w (replicate k 0) (few_remain n ss h))

-- ---- the parts

pub ones_length : (r : ℕ) (ls : List ℕ) → length (one_each r ls) ≡ length ls
unfolding one_each
ones_length zero ls = refl
ones_length (suc r) [] = refl
ones_length (suc r) (l ∷ ls) = ap suc (ones_length r ls)

lengths_length : (n : ℕ) (ss : List ℕ) → length (lengths n ss) ≡ length ss
unfolding lengths
lengths_length n ss =
    let w = whole_parts n (sum ss) ss in ones_length (n - sum w) w ∙ whole_parts_length n (sum ss) ss

first_parts : (at : ℕ) (ls zs : List ℕ) → take (length ls) (parts at (ls ++ zs)) ≡ parts at ls
unfolding parts
first_parts at [] zs = refl
first_parts at (l ∷ ls) zs = ap (λ (ps : List Part). record { first = at; length = l } ∷ ps) (first_parts (at + l) ls zs)

lawful_in : (n : ℕ) (ss : List ℕ) (k : ℕ) → 0 < sum ss → laid (lawful_parts (length ss) (ss ++ replicate k 0) n) ≡ split n ss
unfolding laid lawful_parts split
lawful_in n ss k h =
    rw (padded_lengths n ss k h, sym (lengths_length n ss)) (first_parts 0 (lengths n ss) (replicate k 0))

-- ---- the stakes

none_bad : (c i k : ℕ) → c ≤ i → bad_from c i (replicate k 0) ≡ false
unfolding bad_from bad_at ◌or◌
none_bad c i zero h = refl
none_bad c i (suc k) h = simp (le-ltb i c h) (none_bad c (suc i) k (omega (arith, h)))

both : (x y : Bool) → not (not x or y) ≡ (x and not y)
unfolding ◌or◌ ◌and◌
both true y = refl
both false y = refl

all_lawful : (c i : ℕ) (ss : List ℕ) (k : ℕ) → c ≡ i + length ss → not (bad_from c i (ss ++ replicate k 0)) ≡ all lawful_stake ss
unfolding bad_from bad_at all
all_lawful c i [] k e = ap not (none_bad c i k (omega (arith, e)))
all_lawful c i (s ∷ ss) k e =
    simp (lt-ltb i c (omega (arith, e)))
    (both (lawful_stake s) (bad_from c (suc i) (ss ++ replicate k 0)) ∙ ap (λ (b : Bool). lawful_stake s and b) (all_lawful c (suc i) ss k (omega (arith, e))))

-- ---- what is answered

some_stake : (ss : List ℕ) → 0 < length ss → all lawful_stake ss ≡ true → 0 < sum ss
unfolding sum all
some_stake [] h e = absurd (not-suc-le-zero h)
some_stake (s ∷ ss) h e = omega (arith, leb-true 1 s (and_first (leb 1 s) (leb s 100) (all lawful_stake ss) (unfold lawful_stake in e)))
  where
    and_first : (x y z : Bool) → (x and y and z) ≡ true → x ≡ true
    and_first true y z h = refl
    and_first false y z h = unfold ◌and◌ in h

-- A part lies within the list, of any stakes in an array of 8.
part_within : (at : ℕ) (ls : List ℕ) (i : ℕ) (none : Part) → i < length ls
    → (get_or (parts at ls) i none).first + (get_or (parts at ls) i none).length ≤ at + sum ls
unfolding parts sum
part_within at [] i none h = absurd (not-suc-le-zero h)
part_within at (l ∷ ls) zero none h = omega arith
part_within at (l ∷ ls) (suc i) none h = omega (arith, part_within (at + l) ls i none (le_of_suc-le-suc h))

pub record Within (numbers : ℕ) (p : Parts) (i : ℕ) : Type 0 where
  pub race : i < 8
  pub part : (none : Part) → (get_or p.parts i none).first + (get_or p.parts i none).length ≤ numbers

-- .. of what is answered.
abbrev pub AllWithin : ℕ → Result Parts Refusal → Type 0
AllWithin numbers r = IfOk r (λ p. (i : ℕ) → i < p.count → Within numbers p i)

turned : (b : Bool) → not b ≡ true → b ≡ false
turned true e = sym e
turned false e = refl

module _ (s : Stakes) (numbers : ℕ) (long : length s.stakes ≡ 8) where
  some_parts : s.count ≤ 8 → 0 < s.count → bad_from s.count 0 s.stakes ≡ false → (i : ℕ) → i < s.count
      → Within numbers (lawful_parts s.count s.stakes numbers) i
  unfolding lawful_parts
  some_parts few more good i h =
      let ls = lengths numbers s.stakes in
      let total = splits_all numbers s.stakes (good_some s.count s.stakes more (omega (arith, long)) good) in
      let n = lengths_length numbers s.stakes in
      record { race = omega (arith, h, few); part = λ none. omega (arith, part_within 0 ls i none (omega (arith, n, long, h, few)), total) }

  pub divided_within : AllWithin numbers (divided s numbers)
  unfolding divided
  divided_within = by _ refl _ refl _ refl
    where
      by : (y : Bool) → eqb s.count 0 ≡ y → (z : Bool) → ltb 8 s.count ≡ z
          → (w : Bool) → not (bad_from s.count 0 s.stakes) ≡ w
          → AllWithin numbers (cond y (Err WrongCount) (cond z (Err WrongCount) (cond w (Ok (lawful_parts s.count s.stakes numbers)) (Err WrongStake))))
      by true b z d w e = tt
      by false b true d w e = tt
      by false b false d false e = tt
      by false b false d true e =
          λ i h.
          some_parts (ltb-false 8 s.count d) (pos_of_ne-zero (eqb-false s.count 0 b)) (turned _ e) i (unfold lawful_parts in h)

-- What is answered of a plain list of stakes.
pub record Told (before : ℕ) (ss : List ℕ) (numbers : ℕ) (p : Result Parts Refusal) : Type 0 where
  pub refusal : refusal_in p ≡ refusal_after before ss
  pub parts : parts_in p ≡ parts_after before numbers ss

refused_told : (before : ℕ) (ss : List ℕ) (numbers : ℕ) (r : Refusal) → refusal_after before ss ≡ refusal_number r → Told before ss numbers (Err r)
unfolding refusal_in parts_in parts_after
refused_told before ss numbers r e = record { refusal = sym e; parts = rw (e, some r) }
  where
    some : (r : Refusal) → eqb (refusal_number r) 0 ≡ false
    some NoRoom = unfold refusal_number in refl
    some WrongCount = unfold refusal_number in refl
    some WrongStake = unfold refusal_number in refl

zeros : (k n : ℕ) → k ≤ n → take {A = ℕ} k (replicate n 0) ≡ replicate k 0
zeros zero n h = refl
zeros (suc k) zero h = absurd (not-suc-le-zero h)
zeros (suc k) (suc n) h = ap (λ (l : List ℕ). 0 ∷ l) (zeros k n (le_of_suc-le-suc h))

first_of : (k n : ℕ) (ss : List ℕ) → length ss ≤ k → k ≤ n → take k (ss ++ replicate n 0) ≡ ss ++ replicate (k - length ss) 0
first_of k n [] h l = zeros k n l ∙ ap (λ (m : ℕ). replicate m 0) (omega arith)
first_of zero n (s ∷ ss) h l = absurd (not-suc-le-zero h)
first_of (suc k) n (s ∷ ss) h l =
    ap (λ (ts : List ℕ). s ∷ ts) (first_of k n ss (le_of_suc-le-suc h) (omega (arith, l)))
    ∙ ap (λ (m : ℕ). s ∷ (ss ++ replicate m 0)) (omega arith)

few : (ss : List ℕ) → ltb 8 (length ss) ≡ false → kept ss ≡ record { count = length ss; stakes = ss ++ replicate (8 - length ss) 0 }
unfolding kept
few ss m = ap (λ (l : List ℕ). record { count = length ss; stakes = l }) (first_of 8 8 ss (ltb-false 8 (length ss) m) (omega arith))

module _ (ss : List ℕ) (numbers : ℕ) where
  -- too little room
  pub room_told : Told 21 ss numbers (Err NoRoom)
  room_told = refused_told 21 ss numbers NoRoom (unfold refusal_after refusal_number in refl)

  -- more races than 8
  many : ltb 8 (length ss) ≡ true → Told 0 ss numbers (divided (kept ss) numbers)
  unfolding divided kept
  many m = rw m (by (eqb (length ss) 0))
    where
      either : (b : Bool) → (b or true) ≡ true
      either true = unfold ◌or◌ in refl
      either false = unfold ◌or◌ in refl

      wrong_count : Told 0 ss numbers (Err WrongCount)
      wrong_count = refused_told 0 ss numbers WrongCount (unfold refusal_after split_refusal refusal_number in rw (m, either (eqb (length ss) 0)))

      by : (b : Bool) → Told 0 ss numbers (cond b (Err WrongCount) (Err WrongCount))
      by true = wrong_count
      by false = wrong_count

  -- none
  none : ltb 8 (length ss) ≡ false → eqb (length ss) 0 ≡ true → Told 0 ss numbers (divided (kept ss) numbers)
  unfolding divided
  none m z = rw (few ss m, z) (refused_told 0 ss numbers WrongCount (unfold refusal_after split_refusal refusal_number ◌or◌ in rw z))

  -- a stake out of its range
  wrong : ltb 8 (length ss) ≡ false → eqb (length ss) 0 ≡ false → all lawful_stake ss ≡ false → Told 0 ss numbers (divided (kept ss) numbers)
  unfolding divided
  wrong m z w =
      rw (few ss m, m, z, all_lawful (length ss) 0 ss (8 - length ss) (sym (zero-add (length ss))), w)
      (refused_told 0 ss numbers WrongStake (unfold refusal_after split_refusal refusal_number ◌or◌ in rw (m, z, w)))

  lawful : ltb 8 (length ss) ≡ false → eqb (length ss) 0 ≡ false → all lawful_stake ss ≡ true → Told 0 ss numbers (divided (kept ss) numbers)
  unfolding divided
  lawful m z w =
      rw (few ss m, m, z, all_lawful (length ss) 0 ss (8 - length ss) (sym (zero-add (length ss))), w)
      (record {
        refusal = unfold refusal_in in sym none_found;
        parts =
            unfold parts_in parts_after in
            rw none_found (lawful_in numbers ss (8 - length ss) (some_stake ss (pos_of_ne-zero (eqb-false (length ss) 0 z)) w));
      })
    where
      none_found : refusal_after 0 ss ≡ 0
      none_found = unfold refusal_after split_refusal ◌or◌ in rw (m, z, w)

  pub divided_told : Told 0 ss numbers (divided (kept ss) numbers)
  divided_told = by _ refl _ refl _ refl
    where
      by : (y : Bool) → ltb 8 (length ss) ≡ y → (z : Bool) → eqb (length ss) 0 ≡ z
          → (w : Bool) → all lawful_stake ss ≡ w → Told 0 ss numbers (divided (kept ss) numbers)
      by true m z n w l = many m
      by false m true n w l = none m n
      by false m false n false l = wrong m n l
      by false m false n true l = lawful m n l

-- What is answered behind a refusal that was found before, by its number, 0 for none: that refusal and no part, or what is answered of the stakes.
pub behind : ℕ → Result Parts Refusal → ℕ × List Part
behind before r = cond (eqb before 0) (refusal_in r, parts_in r) (before, [])

-- It is what a plain list of stakes gets behind that refusal, whatever its number.
pub told_behind : (before : ℕ) (ss : List ℕ) (numbers : ℕ)
    → behind before (divided (kept ss) numbers) ≡ (refusal_after before ss, parts_after before numbers ss)
told_behind zero ss numbers = unfold behind in let t = divided_told ss numbers in ap₂ (λ (n : ℕ) (ps : List Part). (n, ps)) t.refusal t.parts
told_behind (suc k) ss numbers = unfold behind parts_after refusal_after in let e = eqb-suc-zero k in rw (e, e)
