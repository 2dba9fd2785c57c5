-- The variables of every rule rise exactly where those of all terms fall as often as the rules' first ones do: what falls is then the first of a rule.
-- Assumes nothing.
use Prim.Native.Nat.{ℕ, zero, suc, ◌+◌, ◌*◌, ◌-◌, ◌<◌, ◌≤◌}
use native.Mathlib.Nat.{zero-add, add-zero, suc-add}
use native.Mathlib.Numerals.{add-one}
use native.Mathlib.Omega.{arith}
use mathlib.Core.Path.{◌≡◌, refl, sym, ap, ap₂, ◌∙◌}
use mathlib.Core.Bool.{Bool, true, false, cond}
use lib.Dec.{eqb, leb, ltb}
use borrow.Author.Tests.{eqb-true, eqb_apart, eq-eqb, ne_eqb, ltb-true, ltb-false, lt-ltb, lt-leb, le-leb}
use Rattle.plpb.specs.Lists.{◌and◌}
use Rattle.format.specs.Good.{every_from, chain_from, term_good, terms_from, rule_good}
use Rattle.format.specs.Layout.{rule_first_at, rule_count_at}
use Rattle.format.proofs.Bools.{and_first, and_stop, and_false, and_assoc}
use Rattle.format.proofs.Good.{left_of, every_split}
use Rattle.format.proofs.Chains.{Link, chain_link, chain_rest, chain_done}
use Rattle.loaded.specs.Falls.{falls, starts, bounds_of}

-- ---- tests joined in another order

shuffled : (a b c d : Bool) → ((a and b) and (c and d)) ≡ ((a and c) and (b and d))
unfolding ◌and◌
shuffled true true c d = refl
shuffled true false true d = refl
shuffled true false false d = refl
shuffled false b c d = refl

every_both : (p q : ℕ → Bool) (i k : ℕ) → every_from (λ r. p r and q r) i k ≡ (every_from p i k and every_from q i k)
unfolding every_from
every_both p q i zero = sym (and_first true true refl)
every_both p q i (suc k) = ap (λ b. (p i and q i) and b) (every_both p q (suc i) k) ∙ shuffled (p i) (q i) _ _

none_of_two : (i j : ℕ) → eqb (i + j) 0 ≡ (eqb i 0 and eqb j 0)
none_of_two i j = at (eqb i 0) refl
  where
    at : (b : Bool) → eqb i 0 ≡ b → eqb (i + j) 0 ≡ (b and eqb j 0)
    at true e = ap (λ n. eqb (n + j) 0) (eqb-true i 0 e) ∙ ap (λ n. eqb n 0) (zero-add j) ∙ sym (and_first true _ refl)
    at false e = ne_eqb (i + j) 0 (λ z. eqb_apart i 0 e (omega (arith, z))) ∙ sym (and_stop false _ refl)

same_eqb : (b c i : ℕ) → b ≡ c + i → eqb b c ≡ eqb i 0
same_eqb b c i h = at (eqb i 0) refl
  where
    at : (t : Bool) → eqb i 0 ≡ t → eqb b c ≡ t
    at true e = eq-eqb b c (omega (arith, h, eqb-true i 0 e))
    at false e = ne_eqb b c (λ z. eqb_apart i 0 e (omega (arith, h, z)))

-- The rules that are left share out the terms that are left.
module _ (first count : ℕ → ℕ) (e : ℕ) where
  pub chain_here : (i r m : ℕ) → r < m → i ≤ e → chain_from first count e i r (m - r) ≡ true → Link (first r) (count r) e i
  chain_here i r m l h c = chain_link first count e i r (m - (r + 1)) h (rw (left_of r m l) at c)

  pub chain_next : (i r m : ℕ) {j : ℕ} → r < m → j ≡ i + count r → chain_from first count e i r (m - r) ≡ true → chain_from first count e j (r + 1) (m - (r + 1)) ≡ true
  chain_next i r m l p c = rw (p, add-one r) (rw add-one at (chain_rest first count e i r (m - (r + 1)) (rw (left_of r m l) at c)))

module _ (g : ℕ → ℕ) where
  falls_none : (v i : ℕ) → falls g v i 0 ≡ 0
  unfolding falls
  falls_none v i = refl

  falls_next : (v i k : ℕ) → falls g v i (suc k) ≡ cond (leb (g (2 * i)) v) 1 0 + falls g (g (2 * i)) (suc i) k
  unfolding falls
  falls_next v i k = refl

  falls_split : (v i k l : ℕ) → falls g v i (suc k + l) ≡ falls g v i (suc k) + falls g (g (2 * (i + k))) (i + suc k) l
  falls_split v i zero l =
      rw (suc-add zero l, zero-add l, add-zero i, add-one i)
      (omega (arith, falls_next v i l, falls_next v i zero, falls_none (g (2 * i)) (suc i)))
  falls_split v i (suc k) l =
      let e : i + suc k ≡ suc i + k = omega arith in
      let f : i + suc (suc k) ≡ suc i + suc k = omega arith in
      rw (suc-add (suc k) l, e, f)
      (omega (arith, falls_next v i (suc k + l), falls_next v i (suc k), falls_split (g (2 * i)) (suc i) k l))

  -- Terms that are lawful one by one and do not fall are lawful in a row.
  terms_falls : (n v i k : ℕ) → terms_from g n v i k ≡ (every_from (term_good g n 0) i k and eqb (falls g v i k) 0)
  unfolding terms_from every_from term_good falls
  terms_falls n v i zero = sym (and_first true _ refl)
  terms_falls n v i (suc k) = at (ltb v (g (2 * i))) refl (terms_falls n (g (2 * i)) (suc i) k)
    where
      at : (b : Bool) → ltb v (g (2 * i)) ≡ b → terms_from g n (g (2 * i)) (suc i) k ≡ (every_from (term_good g n 0) (suc i) k and eqb (falls g (g (2 * i)) (suc i) k) 0)
          → terms_from g n v i (suc k) ≡ (every_from (term_good g n 0) i (suc k) and eqb (falls g v i (suc k)) 0)
      at true e rest =
          let above : v < g (2 * i) = ltb-true _ _ e in
          let low : ltb 0 (g (2 * i)) ≡ true = lt-ltb _ _ (omega arith) in
          let rises : falls g v i (suc k) ≡ falls g (g (2 * i)) (suc i) k = ap (λ b. cond b 1 0 + falls g (g (2 * i)) (suc i) k) (lt-leb _ _ above) ∙ zero-add _ in
          rw (e, low, rises, rest) (sym (and_assoc _ _ _))
      at false e rest =
          let below : g (2 * i) ≤ v = ltb-false _ _ e in
          let some : falls g v i (suc k) ≡ 1 + falls g (g (2 * i)) (suc i) k = ap (λ b. cond b 1 0 + falls g (g (2 * i)) (suc i) k) (le-leb _ _ below) in
          and_stop _ _ (and_stop _ _ (and_stop _ _ e))
          ∙ sym (and_false _ _ (ne_eqb _ 0 (λ z. omega (arith, some, z))))

  rule_falls : (n i k : ℕ) → terms_from g n 0 i (suc k) ≡ (every_from (term_good g n 0) i (suc k) and eqb (falls g (g (2 * i)) (suc i) k) 0)
  unfolding terms_from every_from
  rule_falls n i k = ap (λ b. term_good g n 0 i and b) (terms_falls n (g (2 * i)) (suc i) k) ∙ sym (and_assoc _ _ _)

  module _ (count : ℕ → ℕ) where
    starts_none : (v i r : ℕ) → starts g count v i r 0 ≡ 0
    unfolding starts
    starts_none v i r = refl

    starts_next : (v i r m : ℕ) → starts g count v i r (suc m) ≡ cond (leb (g (2 * i)) v) 1 0 + starts g count (g (2 * (i + count r - 1))) (i + count r) (suc r) m
    unfolding starts
    starts_next v i r m = refl

  -- ---- rules, which share out the terms from one on

  module _ (first count : ℕ → ℕ) (e : ℕ) where
    -- How often the variables fall within the m rules from rule r on, of which the first begins with term i.
    within : ℕ → ℕ → ℕ → ℕ
    within i r zero = 0
    within i r (suc m) = falls g (g (2 * i)) (suc i) (count r - 1) + within (i + count r) (suc r) m

    within_none : (i r : ℕ) → within i r 0 ≡ 0
    unfolding within
    within_none i r = refl

    within_next : (i r m : ℕ) → within i r (suc m) ≡ falls g (g (2 * i)) (suc i) (count r - 1) + within (i + count r) (suc r) m
    unfolding within
    within_next i r m = refl

    falls_apart : (v i r m : ℕ) → i ≤ e → chain_from first count e i r m ≡ true → falls g v i (e - i) ≡ starts g count v i r m + within i r m
    falls_apart v i r zero h c =
        let z : e - i ≡ 0 = omega (arith, chain_done first count e i r c) in
        rw z (omega (arith, falls_none v i, starts_none count v i r, within_none i r))
    falls_apart v i r (suc m) h c =
        let l : Link (first r) (count r) e i = chain_link first count e i r m h c in
        let j = i + count r in
        let k = count r - 1 in
        let n : e - i ≡ suc k + (e - j) = omega (arith, l.some, l.fits) in
        let end : i + k ≡ j - 1 = omega (arith, l.some) in
        let next : i + suc k ≡ j = omega (arith, l.some) in
        let rest = falls_apart (g (2 * (j - 1))) j (suc r) m l.fits (chain_rest first count e i r m c) in
        rw n (omega (arith, rw (end, next) at (falls_split v i k (e - j)), falls_next v i k, starts_next count v i r m, within_next i r m, rest))

    rules_falls : (n i r m : ℕ) → i ≤ e → chain_from first count e i r m ≡ true
        → every_from (λ q. terms_from g n 0 (first q) (count q)) r m ≡ (every_from (term_good g n 0) i (e - i) and eqb (within i r m) 0)
    unfolding every_from within
    rules_falls n i r zero h c =
        let z : e - i ≡ 0 = omega (arith, chain_done first count e i r c) in
        rw z (sym (and_first true _ refl))
    rules_falls n i r (suc m) h c =
        let l : Link (first r) (count r) e i = chain_link first count e i r m h c in
        let j = i + count r in
        let k = count r - 1 in
        let more : count r ≡ suc k = omega (arith, l.some) in
        let left : e - i ≡ count r + (e - j) = omega (arith, l.some, l.fits) in
        let one = rule_falls n i k in
        let rest = rules_falls n j (suc r) m l.fits (chain_rest first count e i r m c) in
        ap₂ ◌and◌ (ap₂ (terms_from g n 0) l.start more ∙ one) rest
        ∙ shuffled _ _ _ _
        ∙ ap₂ ◌and◌
        (ap (λ q. every_from (term_good g n 0) i q and every_from (term_good g n 0) j (e - j)) (sym more)
        ∙ sym (every_split (term_good g n 0) i (count r) (e - j))
        ∙ ap (every_from (term_good g n 0) i) (sym left))
        (sym (none_of_two (falls g (g (2 * i)) (suc i) k) (within j (suc r) m)))

    -- The test of all terms at once is that of each rule's.
    pub terms_whole : (n m : ℕ) {a : Bool} {b c : ℕ} → chain_from first count e 0 0 m ≡ true → a ≡ every_from (term_good g n 0) 0 e → b ≡ falls g 0 0 e → c ≡ starts g count 0 0 0 m
        → (a and eqb b c) ≡ every_from (λ q. terms_from g n 0 (first q) (count q)) 0 m
    terms_whole n m {a} {b} {c} h p q s =
        let z : e - 0 ≡ e = omega arith in
        let apart = rw z at (falls_apart 0 0 0 m (omega arith) h) in
        let whole = rw z at (rules_falls n 0 0 m (omega arith) h) in
        let sum : b ≡ c + within 0 0 m = q ∙ apart ∙ ap (λ k. k + within 0 0 m) (sym s) in
        ap₂ ◌and◌ p (same_eqb b c (within 0 0 m) sum) ∙ sym whole

  -- ---- the loops: a turn, and the end

  module _ (v i m n : ℕ) {x d w : ℕ} (p : x ≡ g (2 * i)) (q : d ≡ cond (leb x v) 1 0) where
    pub falls_turn : i < m → n + falls g v i (m - i) ≡ w → n + d + falls g x (i + 1) (m - (i + 1)) ≡ w
    falls_turn h t =
        let k = m - suc i in
        let more : m - i ≡ suc k = omega arith in
        rw (p, add-one i) (omega (arith, rw p at q, falls_next v i k, rw more at t))

    pub starts_turn : (count : ℕ → ℕ) (r : ℕ) {j y : ℕ} → r < m → j ≡ i + count r → y ≡ g (2 * (j - 1)) → n + starts g count v i r (m - r) ≡ w → n + d + starts g count y j (r + 1) (m - (r + 1)) ≡ w
    starts_turn count r h s u t =
        let k = m - suc r in
        let more : m - r ≡ suc k = omega arith in
        rw (u, s, add-one r) (omega (arith, rw p at q, starts_next count v i r k, rw more at t))

  pub falls_over : (v i m n : ℕ) {w : ℕ} → m ≤ i → n + falls g v i (m - i) ≡ w → n ≡ w
  falls_over v i m n h t = let z : m - i ≡ 0 = omega arith in omega (arith, falls_none v i, rw z at t)

  pub starts_over : (count : ℕ → ℕ) (v i r m n : ℕ) {w : ℕ} → m ≤ r → n + starts g count v i r (m - r) ≡ w → n ≡ w
  starts_over count v i r m n h t = let z : m - r ≡ 0 = omega arith in omega (arith, starts_none count v i r, rw z at t)

-- ---- all rules

module _ (f g : ℕ → ℕ) where
  pub rules_parts : (m : ℕ) → every_from (rule_good f g) 0 m ≡ (every_from (bounds_of f) 0 m and every_from (λ r. terms_from g (f 0) 0 (f (rule_first_at r)) (f (rule_count_at r))) 0 m)
  unfolding rule_good bounds_of
  rules_parts m = every_both (bounds_of f) (λ r. terms_from g (f 0) 0 (f (rule_first_at r)) (f (rule_count_at r))) 0 m
