-- Places in tables that spell a plan: where the words say that a clause's rules begin, how many they are, which rule stands where and which term.
-- Assumes nothing.
use Prim.Native.Nat.{ℕ, zero, suc, ◌+◌, ◌*◌, ◌≤◌, ◌<◌}
use native.Mathlib.Nat.{zero-add, add-zero, add-suc, suc-add}
use native.Mathlib.Omega.{arith}
use mathlib.Core.Path.{◌≡◌, refl, sym, ap, ap₂, ◌∙◌, subst}
use mathlib.Core.Bool.{Bool, true}
use mathlib.Core.List.{List, [], ◌∷◌, ◌++◌, map}
use lib.Dec.{T, ltb}
use lib.ListN.{length, get_or, take, length-append}
use borrow.Author.Tests.{leb-true, ltb-true, eqb-true, le-leb, lt-ltb, eq-eqb}
use Rattle.plpb.specs.Lists.{concat, row, sum_by}
use Rattle.plpb.specs.Plan.{Rule, Clause, Plan}
use Rattle.plpb.specs.Normal.{is_negative}
use Rattle.plpb.specs.Tallies.{rules_of}
use Rattle.order.specs.Order.{Place, no_rule, no_term, rule_at, term_at, first_rule, is_place, names_at, spelled, has_several, place_word, word_place}
use Rattle.order.specs.Mentions.{terms_before}
use Rattle.order.proofs.Runs.{first_next, first_within, Named, named_of, named_below, place_named}
use Rattle.order.proofs.Words.{Small, place_back}
use Rattle.words.specs.Words.{signed}
use Rattle.format.specs.Layout.{clause_count_at, clause_first_at, clauses_at, rule_count_at, rule_first_at}
use Rattle.format.specs.Tables.{clause_entries, rule_entries, term_of, rule_of, clause_of}
use Rattle.format.specs.Good.{term_here, place_good, word_good, entry_good}
use Rattle.format.proofs.Bools.{T_true, true_T, and_left, and_right, and_join}
use Rattle.format.proofs.Lists.{length_spread}
use Rattle.format.proofs.Lawful.{RoomyPlan}
use Rattle.format.proofs.Spells.{Spells, spells_at}
use Rattle.format.proofs.Sections.{Sections}
use Rattle.format.proofs.Entries.{entry_here, entries_behind}
use Rattle.format.proofs.ReadBack.{rules_spelt, clauses_spelt}

-- ---- lists

pub get_d_row : {A : Type 0} (h : ℕ → A) (i k j : ℕ) (d : A) → j < k → get_or (map h (row i k)) j d ≡ h (i + j)
unfolding row
get_d_row h i zero j d l = absurd (omega arith)
get_d_row h i (suc k) zero d l = rw (add-zero i) refl
get_d_row h i (suc k) (suc j) d l = rw (add-suc i j, ← suc-add i j) (get_d_row h (suc i) k j d (omega arith))

-- ---- entries

-- A clause's entry says where its rules begin and how many they are.
clause_entry_lem :
    (f : ℕ → ℕ) (i first : ℕ) (cs : List Clause) → Spells f (clause_first_at i) (clause_entries first cs) → (c : ℕ) → c < length cs
    → (f (clause_first_at (i + c)) ≡ first + first_rule cs c) × (f (clause_count_at (i + c)) ≡ length (get_or cs c []))
unfolding Spells clause_entries first_rule concat
clause_entry_lem f i first [] s c h = absurd (omega arith)
clause_entry_lem f i first (q ∷ cs) s zero h =
    let a : clause_count_at i ≡ suc (clause_first_at i) = omega arith in
    (rw (add-zero i, add-zero first) s.0, rw (add-zero i, a) s.1.0)
clause_entry_lem f i first (q ∷ cs) s (suc c) h =
    let b : clauses_at + 2 * suc i ≡ suc (suc (clause_first_at i)) = omega arith in
    let ih = clause_entry_lem f (suc i) (first + length q) cs (rw b s.1.1) c (omega arith) in
    let sum : first + length (q ++ concat (take c cs)) ≡ first + length q + length (concat (take c cs)) = rw (length-append q (concat (take c cs))) (omega arith) in
    (rw (add-suc i c, ← suc-add i c, sum) ih.0, rw (add-suc i c, ← suc-add i c) ih.1)

-- A rule's entry says how many terms stand before its own.
rule_entry_lem : (f : ℕ → ℕ) (i first : ℕ) (rs : List Rule) → Spells f (rule_first_at i) (rule_entries first rs) → (r : ℕ) → r < length rs → f (rule_first_at (i + r)) ≡ first + sum_by (λ q. length q.terms) (take r rs)
unfolding sum_by
rule_entry_lem f i first [] s r h = absurd (omega arith)
rule_entry_lem f i first (q ∷ rs) s zero h = rw (add-zero i, add-zero first) (entry_here f i first q rs s).start
rule_entry_lem f i first (q ∷ rs) s (suc r) h =
    let ih = rule_entry_lem f (suc i) (first + length q.terms) rs (entries_behind f i first q rs s) r (omega arith) in
    rw (add-suc i r, ← suc-add i r) (omega (arith, ih))

module _ (p : Plan) (l : RoomyPlan p) (f g : ℕ → ℕ) (s : Sections p f g) where
  -- ---- a clause

  module _ (c : ℕ) (h : c < length p.clauses) where
    pub clause_first : f (clause_first_at c) ≡ first_rule p.clauses c
    clause_first = rw (zero-add, zero-add) at (clause_entry_lem f 0 0 p.clauses s.clause_entry c h).0

    pub clause_size : f (clause_count_at c) ≡ length (get_or p.clauses c [])
    clause_size = rw zero-add at (clause_entry_lem f 0 0 p.clauses s.clause_entry c h).1

    pub clause_end : f (clause_first_at c) + f (clause_count_at c) ≡ first_rule p.clauses (suc c)
    clause_end = omega (arith, clause_first, clause_size, first_next p.clauses c h)

    pub clause_is : get_or p.clauses c [] ≡ clause_of f g c
    clause_is = sym (rw zero-add at (spells_at (clause_of f g) 0 p.clauses (clauses_spelt p l f g s) [] c h))

  -- ---- a rule

  module _ (r : ℕ) (h : r < length (rules_of p)) where
    pub rule_is : rule_at p r ≡ rule_of f g r
    unfolding rule_at
    rule_is = sym (rw zero-add at (spells_at (rule_of f g) 0 (rules_of p) (rules_spelt p l f g s) no_rule r h))

    pub rule_size : f (rule_count_at r) ≡ length (rule_at p r).terms
    rule_size = sym (ap (λ q. length q.terms) rule_is ∙ unfold rule_of in length_spread (term_of g) (f (rule_first_at r)) (f (rule_count_at r)))

    pub rule_first : f (rule_first_at r) ≡ terms_before p r
    unfolding terms_before
    rule_first = rw (zero-add, zero-add) at (rule_entry_lem f 0 0 (rules_of p) s.rule_entry r h)

  -- ---- a term

  pub term_is : (q : Place) → q.rule < length (rules_of p) → q.term < f (rule_count_at q.rule) → term_at p q ≡ term_of g (term_here f q)
  unfolding term_at rule_of
  term_is q h k =
      ap (λ r. get_or r.terms q.term no_term) (rule_is q.rule h)
      ∙ get_d_row (term_of g) (f (rule_first_at q.rule)) (f (rule_count_at q.rule)) q.term no_term k

  -- ---- a place

  -- What the test of a place says, and what makes it so.
  pub place_there : (q : Place) → place_good f q ≡ true → T (is_place p q)
  unfolding place_good is_place
  place_there q t =
      let c = and_left _ _ t in
      let d = and_left _ _ c in
      let there : q.clause < length p.clauses = omega (arith, ltb-true q.clause (f 1) (and_left _ _ d), s.clause_count) in
      let first : first_rule p.clauses q.clause ≤ q.rule = omega (arith, leb-true (f (clause_first_at q.clause)) q.rule (and_right _ _ d), clause_first q.clause there) in
      let last : q.rule < first_rule p.clauses (suc q.clause) = omega (arith, ltb-true q.rule (f (clause_first_at q.clause) + f (clause_count_at q.clause)) (and_right _ _ c), clause_end q.clause there) in
      let below : q.rule < length (rules_of p) = unfold rules_of in omega (arith, last, first_within p.clauses (suc q.clause)) in
      let size = ltb-true q.term (f (rule_count_at q.rule)) (and_right _ _ t) in
      true_T _ (and_join _ _ (and_join _ _ (and_join _ _ (lt-ltb _ _ there) (le-leb _ _ first)) (lt-ltb _ _ last)) (lt-ltb q.term (length (rule_at p q.rule).terms) (omega (arith, size, rule_size q.rule below))))

  module _ (x : ℕ) (q : Place) (n : Named p x q) where
    below : q.rule < length (rules_of p)
    below = named_below p x q n

    size : q.term < f (rule_count_at q.rule)
    size = omega (arith, n.term_there, rule_size q.rule below)

    pub there_good : place_good f q ≡ true
    unfolding place_good
    there_good =
        and_join _ _
        (and_join _ _
        (and_join _ _ (lt-ltb q.clause (f 1) (omega (arith, n.clause_there, s.clause_count)))
        (le-leb (f (clause_first_at q.clause)) q.rule (omega (arith, n.first, clause_first q.clause n.clause_there))))
        (lt-ltb q.rule (f (clause_first_at q.clause) + f (clause_count_at q.clause)) (omega (arith, n.last, clause_end q.clause n.clause_there))))
        (lt-ltb q.term (f (rule_count_at q.rule)) size)

    -- The term there, and the word, as the tables say them.
    pub name_spelt : g (2 * term_here f q) ≡ x
    unfolding term_of
    name_spelt = sym (ap (λ u. u.variable) (term_is q below size)) ∙ n.named

    pub place_spelt : spelled (ltb 1 (f (clause_count_at q.clause))) q (is_negative (signed (g (2 * term_here f q + 1)))) ≡ place_word p q
    unfolding place_word has_several term_of
    place_spelt = ap₂ (λ k u. spelled (ltb 1 k) q (is_negative u.weight)) (clause_size q.clause n.clause_there) (sym (term_is q below size))

  -- A word that passes the test is that of its place, which names x; and the words of such places pass.
  pub entry_names : (x v w : ℕ) → entry_good f g x v w ≡ true → (v ≤ (word_place w).rule) × T (names_at p x (word_place w)) × (w ≡ place_word p (word_place w))
  unfolding entry_good word_good names_at
  entry_names x v w t =
      let q = word_place w in
      let there = place_there q (and_left _ _ t) in
      let n = place_named p q there in
      let word = and_right _ _ t in
      let named : (term_at p q).variable ≡ x = sym (name_spelt (term_at p q).variable q n) ∙ eqb-true (g (2 * term_here f q)) x (and_left _ _ (and_left _ _ word)) in (
        leb-true v q.rule (and_right _ _ (and_left _ _ word)),
        true_T _ (and_join _ _ (T_true _ there) (eq-eqb (term_at p q).variable x named)),
        eqb-true _ _ (and_right _ _ word) ∙ place_spelt (term_at p q).variable q n,
      )

  pub names_entry : (x v : ℕ) (q : Place) → Small q → v ≤ q.rule → T (names_at p x q) → entry_good f g x v (place_word p q) ≡ true
  names_entry x v q small low t =
      subst (λ w. entry_good f g x v w ≡ true) (place_spelt x q n) (spelt (ltb 1 (f (clause_count_at q.clause))) (is_negative (signed (g (2 * term_here f q + 1)))) refl refl)
    where
      n : Named p x q
      n = named_of p x q t

      spelt : (b m : Bool) → ltb 1 (f (clause_count_at q.clause)) ≡ b → is_negative (signed (g (2 * term_here f q + 1))) ≡ m → entry_good f g x v (spelled b q m) ≡ true
      spelt b m d e =
          let back = place_back b q m small in
          unfold entry_good word_good in rw back (and_join _ _ (there_good x q n) (and_join _ _ (and_join _ _ (eq-eqb (g (2 * term_here f q)) x (name_spelt x q n)) (le-leb v q.rule low)) (eq-eqb (spelled b q m) (spelled (ltb 1 (f (clause_count_at q.clause))) q (is_negative (signed (g (2 * term_here f q + 1))))) (ap₂ (λ k o. spelled k q o) (sym d) (sym e)))))
