-- The test of one word, from the numbers that the code reads.
-- Assumes nothing.
use Prim.Native.Nat.{ℕ, ◌+◌, ◌*◌, ◌-◌, ◌/◌, ◌%◌, ◌≤◌, ◌<◌}
use native.Mathlib.Omega.{arith}
use mathlib.Core.Path.{◌≡◌, refl, sym, ap, ap₂, ◌∙◌}
use mathlib.Core.Bool.{Bool, true, false, cond, not}
use mathlib.Core.List.{List}
use lib.Dec.{ltb, eqb}
use lib.IntN.{pos, negsuc}
use borrow.Author.Tests.{eq-eqb, ne_eqb, eqb-true, le-leb, leb-true, lt-leb, lt-ltb, ltb-true, ltb-false, le-ltb, not-true, not-false}
use Rattle.plpb.specs.Lists.{◌and◌}
use Rattle.plpb.specs.Normal.{is_negative}
use Rattle.words.specs.Words.{word_at, signed}
use Rattle.order.specs.Order.{spelled, word_place}
use Rattle.format.specs.Layout.{clause_count_at, clause_first_at, rule_count_at, rule_first_at}
use Rattle.format.specs.Good.{place_good, word_good, entry_good, term_here}
use Rattle.format.proofs.Bools.{and_left, and_right, and_join, and_first, and_stop, and_false, same_test}
use Rattle.format.proofs.Sound.{Sound, good_sound, clause_within, rule_within}
use Rattle.ordered.specs.Ready.{Ready}
use Rattle.ordered.specs.Stands.{rule_stands, term_stands}

module _ {tables terms : List ℕ} (y : Ready tables terms) where
  pub sound : Sound (word_at tables) (word_at terms)
  sound = good_sound (word_at tables) (word_at terms) y.base

  pub few_variables : word_at tables 0 ≤ 512
  few_variables = omega (arith, sound.variables)

  pub few_terms : word_at tables 3 ≤ 6_000
  few_terms = omega (arith, sound.terms)

-- ---- its parts

pub clause_small : (w : ℕ) {c : ℕ} → c ≡ (word_place w).clause → c < 1_024
unfolding word_place
clause_small w e = omega (arith, e)

pub rule_small : (w : ℕ) {r : ℕ} → r ≡ (word_place w).rule → r < 2_048
unfolding word_place
rule_small w e = omega (arith, e)

-- ---- its two marks

-- A word is the one that is spelled of its own place where its marks are those of the spelling.
module _ (w : ℕ) (small : w < 4_294_967_296) where
  high : (s n : Bool) → w ≡ spelled s (word_place w) n → w / 2_147_483_648 ≡ cond s 1 0
  unfolding spelled word_place
  high true true e = omega (arith, e)
  high true false e = omega (arith, e)
  high false true e = omega (arith, e)
  high false false e = omega (arith, e)

  low : (s n : Bool) → w ≡ spelled s (word_place w) n → w % 2 ≡ cond n 1 0
  unfolding spelled word_place
  low true true e = omega (arith, e)
  low true false e = omega (arith, e)
  low false true e = omega (arith, e)
  low false false e = omega (arith, e)

  again : (s n : Bool) → w / 2_147_483_648 ≡ cond s 1 0 → w % 2 ≡ cond n 1 0 → w ≡ spelled s (word_place w) n
  unfolding spelled word_place
  again true true h l = omega (arith, small, h, l)
  again true false h l = omega (arith, small, h, l)
  again false true h l = omega (arith, small, h, l)
  again false false h l = omega (arith, small, h, l)

  marked : (s n : Bool) → eqb w (spelled s (word_place w) n) ≡ (eqb (w / 2_147_483_648) (cond s 1 0) and eqb (w % 2) (cond n 1 0))
  marked s n =
      let other = spelled s (word_place w) n in
      same_test _ _ (λ t. let e = eqb-true w other t in and_join _ _ (eq-eqb _ _ (high s n e)) (eq-eqb _ _ (low s n e)))
      (λ t. eq-eqb w other (again s n (eqb-true _ _ (and_left _ _ t)) (eqb-true _ _ (and_right _ _ t))))

is_negative_sign : (v : ℕ) → is_negative (signed v) ≡ not (ltb v 2_147_483_648)
unfolding is_negative signed
is_negative_sign v = by_test (ltb v 2_147_483_648)
  where
    by_test : (b : Bool) → is_negative (cond b (pos v) (negsuc (4_294_967_295 - v))) ≡ not b
    by_test true = refl
    by_test false = refl

-- A coefficient's word with its highest bit turned over where w is odd: that bit is then 0 just where w says the sign.
module _ (w v : ℕ) (small : v < 4_294_967_296) {turned : ℕ} (t : turned ≡ (2_147_483_648 * (w % 2) + v) % 4_294_967_296) where
  turns : (b : Bool) → ltb v 2_147_483_648 ≡ b → ltb turned 2_147_483_648 ≡ eqb (w % 2) (cond (not b) 1 0)
  turns true e =
      let h = ltb-true v 2_147_483_648 e in
      same_test _ _ (λ u. eq-eqb (w % 2) 0 (omega (arith, t, h, ltb-true turned 2_147_483_648 u)))
      (λ u. lt-ltb turned 2_147_483_648 (omega (arith, t, h, eqb-true (w % 2) 0 u)))
  turns false e =
      let h = ltb-false v 2_147_483_648 e in
      same_test _ _ (λ u. eq-eqb (w % 2) 1 (omega (arith, small, t, h, ltb-true turned 2_147_483_648 u)))
      (λ u. lt-ltb turned 2_147_483_648 (omega (arith, small, t, h, eqb-true (w % 2) 1 u)))

  pub sign_told : ltb turned 2_147_483_648 ≡ eqb (w % 2) (cond (is_negative (signed v)) 1 0)
  sign_told = turns (ltb v 2_147_483_648) refl ∙ ap (λ b. eqb (w % 2) (cond b 1 0)) (sym (is_negative_sign v))

-- ---- its rule

-- What is so of a word that stands.
pub record Stands (f : ℕ → ℕ) (w : ℕ) : Type 0 where
  pub clause : (word_place w).clause < f 1
  pub from : f (clause_first_at (word_place w).clause) ≤ (word_place w).rule
  pub below : (word_place w).rule < f (clause_first_at (word_place w).clause) + f (clause_count_at (word_place w).clause)
  pub mark : w / 2_147_483_648 ≡ cond (ltb 1 (f (clause_count_at (word_place w).clause))) 1 0

module _ (f : ℕ → ℕ) (w : ℕ) where
  pub stands_so : rule_stands f w ≡ true → Stands f w
  unfolding rule_stands
  stands_so t =
      record {
        clause = ltb-true _ _ (and_left _ _ (and_left _ _ (and_left _ _ t)));
        from = leb-true _ _ (and_right _ _ (and_left _ _ (and_left _ _ t)));
        below = ltb-true _ _ (and_right _ _ (and_left _ _ t));
        mark = eqb-true _ _ (and_right _ _ t);
      }

  pub so_stands : Stands f w → rule_stands f w ≡ true
  unfolding rule_stands
  so_stands s = and_join _ _ (and_join _ _ (and_join _ _ (lt-ltb _ _ s.clause) (le-leb _ _ s.from)) (lt-ltb _ _ s.below)) (eq-eqb _ _ s.mark)

one : (b : Bool) → ◌≡◌ {A = ℕ} (cond b 1 0) 1 → b ≡ true
one true e = refl
one false e = absurd (omega (arith, e))

none : (b : Bool) → ◌≡◌ {A = ℕ} (cond b 1 0) 0 → b ≡ false
none true e = absurd (omega (arith, e))
none false e = refl

module _ (f : ℕ → ℕ) (w : ℕ) {c : ℕ} (p : c ≡ (word_place w).clause) where
  pub no_clause : {n : ℕ} → n ≡ f 1 → n ≤ c → false ≡ rule_stands f w
  unfolding rule_stands
  no_clause e h = sym (and_stop _ _ (and_stop _ _ (and_stop _ _ (le-ltb (word_place w).clause (f 1) (omega (arith, p, e, h))))))

  module _ {r first count n : ℕ} (q : r ≡ (word_place w).rule) (e : n ≡ f 1) (h : c < n) (a : first ≡ f (clause_first_at c)) (k : count ≡ f (clause_count_at c)) where
    first_of : first ≡ f (clause_first_at (word_place w).clause)
    first_of = a ∙ ap (λ i. f (clause_first_at i)) p

    count_of : count ≡ f (clause_count_at (word_place w).clause)
    count_of = k ∙ ap (λ i. f (clause_count_at i)) p

    -- A rule that is alone in its clause is the first of it.
    pub alone : w < 2_147_483_648 → (eqb first r and eqb count 1) ≡ rule_stands f w
    alone below =
        same_test _ _
        (λ t.
        let i = eqb-true first r (and_left _ _ t) in
        let j = eqb-true count 1 (and_right _ _ t) in
        so_stands f w
        (
        record {
          clause = omega (arith, p, e, h);
          from = omega (arith, q, first_of, i);
          below = omega (arith, q, first_of, count_of, i, j);
          mark = omega (arith, below, ap {B = ℕ} (λ m. cond (ltb 1 m) 1 0) (sym count_of ∙ j));
        }))
        (λ t.
        let s = stands_so f w t in
        let few = ltb-false 1 (f (clause_count_at (word_place w).clause)) (none _ (omega (arith, below, s.mark))) in
        and_join _ _ (eq-eqb first r (omega (arith, q, first_of, few, s.from, s.below))) (eq-eqb count 1 (omega (arith, count_of, few, s.from, s.below))))

    -- One among several is so far behind the first as they are many: what is before the first would be further.
    pub among : w < 4_294_967_296 → 2_147_483_648 ≤ w → first + count ≤ 1_024 → {behind : ℕ} → behind ≡ (r + (18_446_744_073_709_551_616 - first)) % 18_446_744_073_709_551_616 → (ltb 1 count and ltb behind count) ≡ rule_stands f w
    among small above u {behind} d =
        let room : r < 2_048 = rule_small w q in
        same_test _ _
        (λ t.
        let many = ltb-true 1 count (and_left _ _ t) in
        let near = ltb-true behind count (and_right _ _ t) in
        so_stands f w
        (
        record {
          clause = omega (arith, p, e, h);
          from = omega (arith, q, first_of, room, u, d, near);
          below = omega (arith, q, first_of, count_of, room, u, d, near);
          mark = omega (arith, small, above, ap {B = ℕ} (λ b. cond b 1 0) (lt-ltb 1 (f (clause_count_at (word_place w).clause)) (omega (arith, count_of, many))));
        }))
        (λ t.
        let s = stands_so f w t in
        let many = ltb-true 1 (f (clause_count_at (word_place w).clause)) (one _ (omega (arith, small, above, s.mark))) in
        and_join _ _ (lt-ltb 1 count (omega (arith, count_of, many))) (lt-ltb behind count (omega (arith, q, first_of, count_of, room, u, d, s.from, s.below))))

module _ {tables terms : List ℕ} (y : Ready tables terms) where
  -- A clause's rules are among the rules.
  pub clause_fits : {c n first count : ℕ} → n ≡ word_at tables 1 → c < n → first ≡ word_at tables (clause_first_at c) → count ≡ word_at tables (clause_count_at c) → first + count ≤ 1_024
  clause_fits {c} e h a k =
      let s = sound y in
      omega (arith, a, k, (clause_within (word_at tables) (word_at terms) s c (rw e at h)).1, s.rules)

  -- The term of a word that stands is among the terms.
  pub term_fits : (w : ℕ) {r i n m : ℕ} → rule_stands (word_at tables) w ≡ true → r ≡ (word_place w).rule → m ≡ word_at tables (rule_count_at r) → i < m → n ≡ word_at tables (rule_first_at r) → n + i < 6_000
  term_fits w {r} t q k l e =
      let f = word_at tables in
      let s = sound y in
      let o = stands_so f w t in
      let inside = (clause_within f (word_at terms) s (word_place w).clause o.clause).1 in
      let there : r < f 2 = omega (arith, q, o.below, inside) in
      omega (arith, k, l, e, (rule_within f (word_at terms) s r there).1, s.terms)

-- ---- its term

module _ (f g : ℕ → ℕ) (x w : ℕ) {r i m : ℕ} (q : r ≡ (word_place w).rule) (p : i ≡ (word_place w).term) (k : m ≡ f (rule_count_at r)) where
  count_is : m ≡ f (rule_count_at (word_place w).rule)
  count_is = k ∙ ap (λ j. f (rule_count_at j)) q

  pub no_term : m ≤ i → false ≡ term_stands f g x w
  unfolding term_stands
  no_term h = sym (and_stop _ _ (and_stop _ _ (le-ltb (word_place w).term (f (rule_count_at (word_place w).rule)) (omega (arith, p, count_is, h)))))

  module _ {n : ℕ} (h : i < m) (e : n ≡ f (rule_first_at r)) {named : ℕ} (b : named ≡ g (2 * (n + i))) where
    here : n + i ≡ term_here f (word_place w)
    here = ap₂ (λ j l. j + l) (e ∙ ap (λ j. f (rule_first_at j)) q) p

    there : ltb (word_place w).term (f (rule_count_at (word_place w).rule)) ≡ true
    there = lt-ltb (word_place w).term (f (rule_count_at (word_place w).rule)) (omega (arith, p, count_is, h))

    name_is : eqb named x ≡ eqb (g (2 * term_here f (word_place w))) x
    name_is = ap (λ j. eqb j x) (b ∙ ap (λ j. g (2 * j)) here)

    pub other_named : (named ≡ x → ⊥) → false ≡ term_stands f g x w
    unfolding term_stands
    other_named d = sym (and_stop _ _ (and_false _ _ (sym name_is ∙ ne_eqb named x d)))

    pub same_named : named ≡ x → {v : ℕ} → v ≡ g (2 * (n + i) + 1) → v < 4_294_967_296 → ltb ((2_147_483_648 * (w % 2) + v) % 4_294_967_296) 2_147_483_648 ≡ term_stands f g x w
    unfolding term_stands
    same_named d {v} a u =
        sign_told w v u refl
        ∙ ap (λ j. eqb (w % 2) (cond (is_negative (signed j)) 1 0)) (a ∙ ap (λ j. g (2 * j + 1)) here)
        ∙ sym (and_first _ _ (and_first _ _ there ∙ sym name_is ∙ eq-eqb named x d))

-- ---- the whole word

grouped : (a b c d e m n : Bool) → ((a and b and c and d) and (e and true and (m and n))) ≡ (a and b and c and m and (d and e and n))
unfolding ◌and◌
grouped true true true true true m n = refl
grouped true true true true false true n = refl
grouped true true true true false false n = refl
grouped true true true false e true n = refl
grouped true true true false e false n = refl
grouped true true false d e m n = refl
grouped true false c d e m n = refl
grouped false b c d e m n = refl

module _ (f g : ℕ → ℕ) (x w : ℕ) where
  entry_parts : w < 4_294_967_296 → entry_good f g x 0 w ≡ (rule_stands f w and term_stands f g x w)
  unfolding entry_good place_good word_good rule_stands term_stands
  entry_parts small =
      ap₂ (λ a b. place_good f (word_place w) and (eqb (g (2 * term_here f (word_place w))) x and a and b)) (le-leb 0 (word_place w).rule (omega arith))
      (marked w small (ltb 1 (f (clause_count_at (word_place w).clause))) (is_negative (signed (g (2 * term_here f (word_place w) + 1)))))
      ∙ grouped _ _ _ _ _ _ _

  pub entry_refused : w < 4_294_967_296 → {b : Bool} → b ≡ rule_stands f w → not b ≡ true → false ≡ entry_good f g x 0 w
  entry_refused small {b} h n = sym (entry_parts small ∙ and_stop _ _ (sym h ∙ not-true b n))

  pub entry_told : w < 4_294_967_296 → {b d : Bool} → b ≡ rule_stands f w → not b ≡ false → d ≡ term_stands f g x w → d ≡ entry_good f g x 0 w
  entry_told small {b} h n m = m ∙ sym (and_first _ _ (sym h ∙ not-false b n)) ∙ sym (entry_parts small)

  -- Rules that rise.
  module _ {r least : ℕ} (q : r ≡ (word_place w).rule) where
    pub entry_low : r < least → false ≡ entry_good f g x least w
    unfolding entry_good word_good
    entry_low h = sym (and_false _ _ (and_stop _ _ (and_false _ _ (lt-leb least (word_place w).rule (omega (arith, q, h))))))

    pub entry_high : least ≤ r → {b : Bool} → b ≡ entry_good f g x 0 w → b ≡ entry_good f g x least w
    unfolding entry_good word_good
    entry_high h e =
        e
        ∙ ap (λ a. place_good f (word_place w) and (eqb (g (2 * term_here f (word_place w))) x and a and eqb w (spelled (ltb 1 (f (clause_count_at (word_place w).clause))) (word_place w) (is_negative (signed (g (2 * term_here f (word_place w) + 1)))))))
        (le-leb 0 (word_place w).rule (omega arith) ∙ sym (le-leb least (word_place w).rule (omega (arith, q, h))))
