-- Integers, terms and sums as they are spelled: where they end, and what they say.
-- Assumes nothing.
use Prim.Native.Nat.{ℕ, zero, suc, ◌+◌, ◌-◌, ◌≤◌, ◌<◌}
use native.Mathlib.Omega.{arith}
use mathlib.Core.Path.{◌≡◌, refl, sym, ap, ap₂, ◌∙◌}
use mathlib.Core.Bool.{Bool, true, false}
use mathlib.Core.List.{List, [], ◌∷◌, ◌++◌, map, append_assoc, append-nil}
use lib.Dec.{leb, ltb, eqb}
use lib.IntN.{ℤ, pos, negsuc}
use lib.ListN.{length, get_or, length-append}
use borrow.Author.Tests.{lt-ltb, le-ltb, eq-eqb, ne_eqb, lt-leb}
use Rattle.plpb.specs.Lists.{◌and◌, all, concat}
use Rattle.plpb.proofs.Lists.{T_true, is_true, and_left, and_false}
use Rattle.plpb.specs.Plan.{Term}
use Rattle.texts.specs.Texts.{text, decimal, signed_decimal}
use Rattle.tokens.specs.Tokens.{is_blank, is_digit, blanks_end, digits_end, word_end}
use Rattle.tokens.proofs.Numbers.{digit_range}
use Rattle.statements.specs.Grammar.{unsigned_from, integer_end, is_integer, with_sign, integer_at, letter_at, index_from, index_end, term_end, is_term, term_at, terms_from, end_from}
use Rattle.statements.proofs.Parts.{sign_plus, sign_minus, sign_other}
use Rattle.statements.proofs.Sums.{terms_none, terms_some}
use Rattle.opb.specs.Spell.{coefficient}
use Rattle.constraints.specs.Bytes.{term_bytes}
use Rattle.reread.proofs.Places.{stops, digits, some_digit, Here, past, byte_of, byte_at, tail, run_ends, word_ends, digits_end_lem, digits_say}

-- The first digit of a number.
first_digit : (xs : List ℕ) → all is_digit xs ≡ true → 0 < length xs → (d : ℕ) × (ds : List ℕ) × (xs ≡ d ∷ ds) × (48 ≤ d) × (d ≤ 57)
unfolding all
first_digit [] a h = absurd (omega arith)
first_digit (d ∷ ds) a h = let r = digit_range d (is_true _ (and_left _ _ (T_true a))) in (d, ds, refl, r.0, r.1)

pub first_of : (n : ℕ) → (d : ℕ) × (ds : List ℕ) × (decimal n ≡ d ∷ ds) × (48 ≤ d) × (d ≤ 57)
first_of n = first_digit (decimal n) (digits n) (some_digit n)

-- No digit and no blank.
pub no_digit : (b : ℕ) (r : List ℕ) → 57 < b → stops is_digit (b ∷ r) ≡ true
unfolding stops is_digit
no_digit b r h = rw (lt-leb b 57 h, and_false (leb 48 b))

pub blank_digit : (r : List ℕ) → stops is_digit (32 ∷ r) ≡ true
unfolding stops is_digit ◌and◌
blank_digit r = refl

pub no_blank : (b : ℕ) (r : List ℕ) → 32 < b → stops is_blank (b ∷ r) ≡ true
unfolding stops is_blank
no_blank b r h = rw (ne_eqb b 32 (λ e. omega (arith, h, e)))

-- ---- integers

module _ (s : List ℕ) where
  -- An integer at a place, with its end.
  pub record Whole (at : ℕ) (z : ℤ) (end : ℕ) : Type 0 where
    pub ok : is_integer s at ≡ true
    pub next : integer_end s at ≡ end
    pub says : integer_at s at ≡ z

  whole_from :
      {at from : ℕ} (n : ℕ) (negative : Bool) {r : List ℕ} → unsigned_from s at ≡ from → eqb (get_or s at 0) 45 ≡ negative → stops is_digit r ≡ true → Here s from (decimal n) r
      → Whole at (with_sign negative n) (from + length (decimal n))
  unfolding is_integer integer_end integer_at
  whole_from {at} {from} n negative {r} e g d h =
      let end : digits_end s from ≡ from + length (decimal n) = digits_end_lem s n d h in
      record {
        ok = rw (e, end) (lt-ltb from (from + length (decimal n)) (omega (arith, some_digit n)));
        next = rw e end;
        says = rw (e, g) (ap (with_sign negative) (digits_say s n d h));
      }

  plus_whole : {at : ℕ} (n : ℕ) {r : List ℕ} → stops is_digit r ≡ true → Here s at (43 ∷ decimal n) r → Whole at (pos n) (at + length (43 ∷ decimal n))
  unfolding with_sign
  plus_whole {at} n {r} d h =
      let b : get_or s at 0 ≡ 43 = byte_at s h in
      let w : Whole at (pos n) (at + 1 + length (decimal n)) = whole_from n false (sym (sign_plus s at b)) (ne_eqb (get_or s at 0) 45 (λ e. omega (arith, b, e))) d (tail s h) in
      record { ok = w.ok; next = w.next ∙ omega arith; says = w.says }

  minus_whole : {at : ℕ} (n : ℕ) {r : List ℕ} → stops is_digit r ≡ true → Here s at (45 ∷ decimal (suc n)) r → Whole at (negsuc n) (at + length (45 ∷ decimal (suc n)))
  unfolding with_sign
  minus_whole {at} n {r} d h =
      let b : get_or s at 0 ≡ 45 = byte_at s h in
      let w : Whole at (negsuc n) (at + 1 + length (decimal (suc n))) = whole_from (suc n) true (sym (sign_minus s at (λ e. omega (arith, b, e)) b)) (eq-eqb (get_or s at 0) 45 b) d (tail s h) in
      record { ok = w.ok; next = w.next ∙ omega arith; says = w.says }

  bare_whole : {at : ℕ} (n : ℕ) {r : List ℕ} → stops is_digit r ≡ true → Here s at (decimal n) r → Whole at (pos n) (at + length (decimal n))
  unfolding with_sign
  bare_whole {at} n {r} d h =
      let f = first_of n in
      let b : get_or s at 0 ≡ f.0 = byte_of s h f.0 f.1 f.2 in
      let low = f.3 in
      whole_from n false (sym (sign_other s at (λ e. omega (arith, b, e, low)) (λ e. omega (arith, b, e, low)))) (ne_eqb (get_or s at 0) 45 (λ e. omega (arith, b, e, low))) d h

  pub coefficient_whole : {at : ℕ} (z : ℤ) {r : List ℕ} → stops is_digit r ≡ true → Here s at (coefficient z) r → Whole at z (at + length (coefficient z))
  unfolding coefficient text
  coefficient_whole (pos n) d h = plus_whole n d h
  coefficient_whole (negsuc n) d h = minus_whole n d h

  pub bound_whole : {at : ℕ} (z : ℤ) {r : List ℕ} → stops is_digit r ≡ true → Here s at (signed_decimal z) r → Whole at z (at + length (signed_decimal z))
  unfolding signed_decimal text
  bound_whole (pos n) d h = bare_whole n d h
  bound_whole (negsuc n) d h = minus_whole n d h

-- Neither begins with a blank.
pub coefficient_stops : (z : ℤ) (r : List ℕ) → stops is_blank (coefficient z ++ r) ≡ true
unfolding coefficient text
coefficient_stops (pos n) r = no_blank 43 (decimal n ++ r) (omega arith)
coefficient_stops (negsuc n) r = no_blank 45 (decimal (suc n) ++ r) (omega arith)

pub bound_stops : (z : ℤ) (r : List ℕ) → stops is_blank (signed_decimal z ++ r) ≡ true
unfolding signed_decimal text
bound_stops (pos n) r = let f = first_of n in ap (λ l. stops is_blank (l ++ r)) f.2 ∙ no_blank f.0 (f.1 ++ r) (omega (arith, f.3))
bound_stops (negsuc n) r = no_blank 45 (decimal (suc n) ++ r) (omega arith)

-- ---- terms

module _ (s : List ℕ) where
  pub record TermHere (at : ℕ) (t : Term) (end : ℕ) : Type 0 where
    pub ok : is_term s at ≡ true
    pub next : term_end s at ≡ end
    pub says : term_at s at ≡ t

  pub shape : (t : Term) (r : List ℕ) → term_bytes t ++ r ≡ coefficient t.weight ++ ((32 ∷ []) ++ ((120 ∷ []) ++ (decimal t.variable ++ ((32 ∷ []) ++ r))))
  unfolding term_bytes text
  shape t r = go (coefficient t.weight) (decimal t.variable) r
    where
      go : (a b r : List ℕ) → (a ++ (32 ∷ 120 ∷ (b ++ (32 ∷ [])))) ++ r ≡ a ++ (32 ∷ 120 ∷ (b ++ (32 ∷ r)))
      go a b r = append_assoc a (32 ∷ 120 ∷ (b ++ (32 ∷ []))) r ∙ ap (λ l. a ++ (32 ∷ 120 ∷ l)) (append_assoc b (32 ∷ []) r)

  pub size : (t : Term) → length (term_bytes t) ≡ length (coefficient t.weight) + 1 + 1 + length (decimal t.variable) + 1
  unfolding term_bytes text
  size t =
      let a = coefficient t.weight in
      let b = decimal t.variable in
      let e : length (a ++ (32 ∷ 120 ∷ (b ++ (32 ∷ [])))) ≡ length a + (2 + length (b ++ (32 ∷ []))) = length-append a (32 ∷ 120 ∷ (b ++ (32 ∷ []))) ∙ omega arith in
      e ∙ omega (arith, length-append b (32 ∷ []))

  pub term_here_lem : {at : ℕ} (t : Term) {r : List ℕ} → stops is_blank r ≡ true → Here s at (term_bytes t) r → TermHere at t (at + length (term_bytes t))
  unfolding is_term term_end term_at letter_at index_from index_end all is_blank ◌and◌
  term_here_lem {at} t {r} k h =
      let c = coefficient t.weight in
      let x = decimal t.variable in
      let a0 : Here s at c ((32 ∷ []) ++ ((120 ∷ []) ++ (x ++ ((32 ∷ []) ++ r)))) = record { is = h.is ∙ shape t r } in
      let w = coefficient_whole s t.weight (blank_digit _) a0 in
      let p1 = at + length c in
      let a1 : Here s p1 (32 ∷ []) ((120 ∷ []) ++ (x ++ ((32 ∷ []) ++ r))) = record { is = past s a0 } in
      let e2 : blanks_end s p1 ≡ p1 + 1 = run_ends s a1 is_blank refl (no_blank 120 _ (omega arith)) in
      let a2 : Here s (p1 + 1) (120 ∷ []) (x ++ ((32 ∷ []) ++ r)) = record { is = past s a1 } in
      let e3 : word_end (120 ∷ []) s (p1 + 1) ≡ p1 + 1 + 1 = word_ends s a2 in
      let a3 : Here s (p1 + 1 + 1) x ((32 ∷ []) ++ r) = record { is = past s a2 } in
      let p4 = p1 + 1 + 1 + length x in
      let e4 : digits_end s (p1 + 1 + 1) ≡ p4 = digits_end_lem s t.variable (blank_digit r) a3 in
      let a4 : Here s p4 (32 ∷ []) r = record { is = past s a3 } in
      let e5 : blanks_end s p4 ≡ p4 + 1 = run_ends s a4 is_blank refl k in
      let o1 = w.ok in
      let n1 : integer_end s at ≡ p1 = w.next in
      let t1 : ltb p1 (p1 + 1) ≡ true = lt-ltb p1 (p1 + 1) (omega arith) in
      let t2 : ltb (p1 + 1) (p1 + 1 + 1) ≡ true = lt-ltb (p1 + 1) (p1 + 1 + 1) (omega arith) in
      let t3 : ltb (p1 + 1 + 1) p4 ≡ true = lt-ltb (p1 + 1 + 1) p4 (omega (arith, some_digit t.variable)) in
      let t4 : ltb p4 (p4 + 1) ≡ true = lt-ltb p4 (p4 + 1) (omega arith) in
      record {
        ok = rw (o1, n1, e2, e3, e4, e5, t1, t2, t3, t4);
        next = rw (n1, e2, e3, e4, e5) (omega (arith, size t));
        says = rw (n1, e2, e3) (ap₂ (λ (x : ℕ) (z : ℤ). record { variable = x; weight = z }) (digits_say s t.variable (blank_digit r) a3) w.says);
      }

  -- What stands behind a sum begins no term.
  pub no_term_lem : {at b : ℕ} {xs r : List ℕ} → 57 < b → Here s at (b ∷ xs) r → is_term s at ≡ false
  unfolding is_term is_integer integer_end ◌and◌ all
  no_term_lem {at} {b} {xs} {r} h e =
      let g : get_or s at 0 ≡ b = byte_at s e in
      let u : unsigned_from s at ≡ at = sym (sign_other s at (λ q. omega (arith, g, q, h)) (λ q. omega (arith, g, q, h))) in
      let n : Here s at [] (b ∷ (xs ++ r)) = record { is = e.is } in
      let d : digits_end s at ≡ at + 0 = run_ends s n is_digit refl (no_digit b (xs ++ r) h) in
      let z : ltb at (at + 0) ≡ false = le-ltb at (at + 0) (omega arith) in
      rw (u, d, z)

-- ---- sums

abbrev pub sum_text : List Term → List ℕ
sum_text ts = concat (map term_bytes ts)

pub sum_stops : (ts : List Term) (b : ℕ) (r : List ℕ) → 57 < b → stops is_blank (sum_text ts ++ (b ∷ r)) ≡ true
unfolding concat
sum_stops [] b r h = no_blank b r (omega arith)
sum_stops (t ∷ ts) b r h =
    ap (stops is_blank) (append_assoc (term_bytes t) (sum_text ts) (b ∷ r) ∙ shape [] t (sum_text ts ++ (b ∷ r)))
    ∙ coefficient_stops t.weight _

module _ (s : List ℕ) where
  pub sum_here :
      (ts : List Term) (left : ℕ) {at b : ℕ} {r : List ℕ} → length ts ≤ left → 57 < b → Here s at (sum_text ts) (b ∷ r)
      → (terms_from left s at ≡ ts) × (end_from left s at ≡ at + length (sum_text ts))
  unfolding concat
  sum_here [] left {at} {b} {r} n h e =
      let a : Here s at (b ∷ r) [] = record { is = e.is ∙ sym (append-nil (b ∷ r)) } in
      let z = terms_none s at left (no_term_lem s h a) in
      (z.0, z.1 ∙ omega arith)
  sum_here (t ∷ ts) zero n h e = absurd (omega arith)
  sum_here (t ∷ ts) (suc left) {at} {b} {r} n h e =
      let a : Here s at (term_bytes t) (sum_text ts ++ (b ∷ r)) = record { is = e.is ∙ append_assoc (term_bytes t) (sum_text ts) (b ∷ r) } in
      let k = term_here_lem s t (sum_stops ts b r h) a in
      let two = terms_some s at (suc left) (omega arith) k.ok in
      let next : Here s (at + length (term_bytes t)) (sum_text ts) (b ∷ r) = record { is = past s a } in
      let more = sum_here ts left (omega arith) h next in
      let m : suc left - 1 ≡ left = omega arith in (
        two.0 ∙ ap₂ ◌∷◌ k.says (ap₂ (λ i j. terms_from i s j) m k.next ∙ more.0),
        two.1 ∙ ap₂ (λ i j. end_from i s j) m k.next ∙ more.1 ∙ omega (arith, length-append (term_bytes t) (sum_text ts)),
      )

pub sum_size : (ts : List Term) → length ts ≤ length (sum_text ts)
unfolding concat
sum_size [] = omega arith
sum_size (t ∷ ts) = omega (arith, sum_size ts, length-append (term_bytes t) (sum_text ts), size [] t)
