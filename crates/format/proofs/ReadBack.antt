-- The plan read back from a plan's tables is that plan, where they have room for it: each entry says where its part is, and the parts follow one another.
use Prim.Native.Nat.{ℕ, suc, ◌+◌, ◌*◌, ◌≤◌}
use mathlib.Core.Path.{◌≡◌, sym, ap, ◌∙◌}
use mathlib.Core.Bool.{true}
use mathlib.Core.List.{List, [], ◌∷◌, ◌++◌, map}
use native.Mathlib.Nat.{zero-add}
use native.Mathlib.Numerals.{add-one}
use native.Mathlib.Omega.{arith}
use lib.Dec.{T}
use lib.ListN.{length, take}
use lib.Seq.{take_at, take-take}
use Rattle.plpb.specs.Lists.{all, concat, row}
use Rattle.plpb.specs.Plan.{Term, Rule, Clause, Plan, lock_of, rising}
use Rattle.plpb.specs.Tallies.{rules_of}
use Rattle.words.specs.Words.{word_bytes, word_at, signed}
use Rattle.words.proofs.Writes.{word_bytes_append}
use Rattle.words.proofs.Words.{Below, length_word_bytes, words_read, words_determine, signed_unsigned}
use Rattle.format.specs.Limits.{lock_terms, rule_lawful, roomy, term_within}
use Rattle.format.specs.File.{bound_of}
use Rattle.format.specs.Writer.{bound_number}
use Rattle.format.specs.Tables.{coefficient, clause_entries, rule_entries, term_entries, all_terms, base_words, order_words, table_words, term_words, table_size, term_size, Holds, term_of, rule_of, clause_of, objective_of, term_lock, locks_of, plan_in, plan_of_tables, sparse, named, is_some}
use Rattle.format.proofs.Bools.{and_left, and_right}
use Rattle.format.proofs.Bounds.{bounds_written, bounds_tested, lower_back_lem, upper_back_lem}
use Rattle.format.proofs.Lawful.{weight_small, LawfulRule, rule_parts, RoomyPlan, roomy_parts}
use Rattle.format.proofs.Naming.{each_rule_lawful, terms_lawful_lem}
use Rattle.format.proofs.Spells.{Spells, spells_at, spells_all, spells_left, spells_right, spells_join, spells_map}
use Rattle.format.proofs.Sections.{Sections, length_base_words, length_table_words, length_term_words, spelt_sections, sections_base, sections_terms}
use Rattle.format.proofs.Arranged.{Arranged, spelt_arranged, arranged_spells}
use Rattle.format.proofs.Entries.{Entry, entry_here, entries_behind}
use Rattle.format.proofs.WordBounds.{coefficient_small, lock_word_small, table_below, base_below, term_below}
use Rattle.format.proofs.Objective.{sparse_back}
use Rattle.format.proofs.Locks.{lock_coefficient, small_signed, locks_back}
use Rattle.format.specs.Layout.{base_size, clause_count_at, clause_first_at, clauses_at, lock_at, rule_count_at, rule_first_at, rule_lower_at, rule_mode_at, rule_upper_at}

-- Terms.
pub terms_back : (g : ℕ → ℕ) (n i : ℕ) (ts : List Term) → Spells g (2 * i) (term_entries ts) → all (term_within n) ts ≡ true → Spells (term_of g) i ts
unfolding Spells term_entries all term_within term_of
terms_back g n i [] s h = tt
terms_back g n i (t ∷ ts) s h =
    let small = weight_small t.weight (and_right _ _ (and_left _ _ h)) in
    let w : signed (g (2 * i + 1)) ≡ t.weight = rw (add-one (2 * i), s.1.0) (signed_unsigned t.weight (omega arith)) in
    let m : suc (suc (2 * i)) ≡ 2 * suc i = omega arith in
    ((λ j. record { variable = s.0 j; weight = w j }), terms_back g n (suc i) ts (rw m at s.1.1) (and_right _ _ h))

-- Rules.
pub rule_back :
    (f g : ℕ → ℕ) (n i first : ℕ) (r : Rule) → Entry f i first r → LawfulRule n r → Spells (term_of g) first r.terms → rule_of f g i ≡ r
unfolding rule_of
rule_back f g n i first r e l s =
    let t = bounds_tested _ _ _ (bounds_written _ _ l.both) in
    let a = signed_unsigned (bound_number r.lower) (omega (arith, t.lower)) in
    let b = signed_unsigned (bound_number r.upper) (omega (arith, t.upper)) in
    let lo : bound_of 2 (f (rule_mode_at i)) (signed (f (rule_lower_at i))) ≡ r.lower = rw (e.mode_word, e.lower, a) (lower_back_lem _ _ l.both) in
    let up : bound_of 1 (f (rule_mode_at i)) (signed (f (rule_upper_at i))) ≡ r.upper = rw (e.mode_word, e.upper, b) (upper_back_lem _ _ l.both) in
    let ts : map (term_of g) (row (f (rule_first_at i)) (f (rule_count_at i))) ≡ r.terms = rw (e.start, e.count) (spells_map (term_of g) first r.terms s) in
    λ j. record { lower = lo j; upper = up j; terms = ts j }

pub rules_back :
    (f g : ℕ → ℕ) (n i first : ℕ) (rs : List Rule) → Spells f (rule_first_at i) (rule_entries first rs) → all (rule_lawful n) rs ≡ true
    → Spells (term_of g) first (concat (map (λ r. r.terms) rs)) → Spells (rule_of f g) i rs
unfolding Spells all concat
rules_back f g n i first [] s l t = tt
rules_back f g n i first (r ∷ rs) s l t = (
  rule_back f g n i first r (entry_here f i first r rs s) (rule_parts n r (and_left _ _ l)) (spells_left (term_of g) first r.terms _ t),
  rules_back f g n (suc i) (first + length r.terms) rs (entries_behind f i first r rs s) (and_right _ _ l) (spells_right (term_of g) first r.terms _ t),
)

-- Clauses.
pub clauses_back :
    (f g : ℕ → ℕ) (i first : ℕ) (cs : List Clause) → Spells f (clause_first_at i) (clause_entries first cs) → Spells (rule_of f g) first (concat cs)
    → Spells (clause_of f g) i cs
unfolding Spells clause_entries concat clause_of
clauses_back f g i first [] s t = tt
clauses_back f g i first (c ∷ cs) s t =
    let a : clause_count_at i ≡ suc (clause_first_at i) = omega arith in
    let b : clauses_at + 2 * suc i ≡ suc (suc (clause_first_at i)) = omega arith in (
      rw (s.0, a, s.1.0) (spells_map (rule_of f g) first c (spells_left (rule_of f g) first c (concat cs) t)),
      clauses_back f g (suc i) (first + length c) cs (rw b s.1.1) (spells_right (rule_of f g) first c (concat cs) t),
    )

-- The whole plan.
module _ (p : Plan) (l : RoomyPlan p) (f g : ℕ → ℕ) (s : Sections p f g) where
  rules_here : all (rule_lawful p.variables) (rules_of p) ≡ true
  rules_here = each_rule_lawful p l

  pub terms_spelt : Spells (term_of g) 0 (all_terms p)
  unfolding all_terms
  terms_spelt = terms_back g p.variables 0 (all_terms p) s.term_entry (terms_lawful_lem p.variables (rules_of p) rules_here)

  pub rules_spelt : Spells (rule_of f g) 0 (rules_of p)
  unfolding all_terms
  rules_spelt = rules_back f g p.variables 0 0 (rules_of p) s.rule_entry rules_here terms_spelt

  pub clauses_spelt : Spells (clause_of f g) 0 p.clauses
  unfolding rules_of
  clauses_spelt = clauses_back f g 0 0 p.clauses s.clause_entry rules_spelt

  pub cost_back : (x : ℕ) → 1 ≤ x → x ≤ 512 → signed (f (3 + x)) ≡ coefficient p.objective x
  cost_back x a b =
      rw (s.objective x a b)
      (signed_unsigned _ (omega (arith, coefficient_small p.variables p.objective x l.objective.within)))

  objective_back : objective_of f ≡ p.objective
  unfolding objective_of sparse named is_some rising
  objective_back =
      sparse_back (λ x. signed (f (3 + x))) p.variables 0 (f 0) p.objective (zero-add (f 0) ∙ s.variables) l.objective.rise l.objective.within
      (λ x a b. cost_back x a (omega (arith, l.high)))

  locked_back : locks_of f ≡ p.locks
  unfolding locks_of rising
  locked_back =
      let words =
      sparse_back (λ x. signed (f (lock_at x))) p.variables 0 (f 0) (lock_terms p) (zero-add (f 0) ∙ s.variables) l.locks.rise l.locks.within
      (λ x a b.
      ap signed (s.lock x a (omega (arith, l.high))) ∙ small_signed _ (lock_word_small (lock_of p x)) ∙ sym (lock_coefficient p x a b)) in
      ap (map term_lock) words ∙ locks_back p.locks

  pub plan_back : plan_in f g ≡ p
  unfolding plan_in
  plan_back =
      let cs : map (clause_of f g) (row 0 (f 1)) ≡ p.clauses = rw s.clause_count (spells_map (clause_of f g) 0 p.clauses clauses_spelt) in
      λ j. record { variables = s.variables j; objective = objective_back j; locks = locked_back j; clauses = cs j }

-- The bytes of the tables.
module _ (p : Plan) (l : RoomyPlan p) (tables terms : List ℕ) where
  table_spelt : take table_size tables ≡ word_bytes (table_words p) → Spells (word_at tables) 0 (table_words p)
  table_spelt h =
      let a : take (4 * length (table_words p)) tables ≡ word_bytes (table_words p) = rw (length_table_words p l) h in
      spells_all (word_at tables) 0 (table_words p) 0 (λ j u. rw (zero-add j) (words_read (table_words p) tables j (table_below p l) a u))

  base_spelt : take base_size tables ≡ word_bytes (base_words p) → Spells (word_at tables) 0 (base_words p)
  base_spelt h =
      let a : take (4 * length (base_words p)) tables ≡ word_bytes (base_words p) = rw (length_base_words p l) h in
      spells_all (word_at tables) 0 (base_words p) 0 (λ j u. rw (zero-add j) (words_read (base_words p) tables j (base_below p l) a u))

  terms_read_lem : take term_size terms ≡ word_bytes (term_words p) → Spells (word_at terms) 0 (term_words p)
  terms_read_lem h =
      let b : take (4 * length (term_words p)) terms ≡ word_bytes (term_words p) = rw (length_term_words p l) h in
      spells_all (word_at terms) 0 (term_words p) 0 (λ j u. rw (zero-add j) (words_read (term_words p) terms j (term_below p l) b u))

  -- Tables of which the base is that of a plan.
  pub based_sections : take base_size tables ≡ word_bytes (base_words p) → take term_size terms ≡ word_bytes (term_words p) → Sections p (word_at tables) (word_at terms)
  based_sections a b = spelt_sections p l (word_at tables) (word_at terms) (base_spelt a) (terms_read_lem b)

  -- Tables that hold a plan have its base.
  pub holds_base : Holds p tables terms → take base_size tables ≡ word_bytes (base_words p)
  unfolding Holds table_words
  holds_base h =
      let n : length (word_bytes (base_words p)) ≡ base_size = omega (arith, length_word_bytes (base_words p), length_base_words p l) in
      sym (take-take base_size table_size tables (omega arith))
      ∙ ap (take base_size) (h.0 ∙ word_bytes_append (base_words p) (order_words p))
      ∙ take_at (word_bytes (base_words p)) (word_bytes (order_words p)) base_size n

  pub holds_sections : Holds p tables terms → Sections p (word_at tables) (word_at terms)
  unfolding Holds table_words
  holds_sections h = spelt_sections p l (word_at tables) (word_at terms) (spells_left (word_at tables) 0 (base_words p) (order_words p) (table_spelt h.0)) (terms_read_lem h.1)

  -- Of tables that hold a plan the order is the plan's.
  pub holds_arranged : Holds p tables terms → Arranged p (word_at tables)
  unfolding Holds table_words
  holds_arranged h =
      spelt_arranged p l (word_at tables)
      (rw (length_base_words p l, zero-add) at (spells_right (word_at tables) 0 (base_words p) (order_words p) (table_spelt h.0)))

  pub sections_holds :
      Below 256 tables → Below 256 terms → table_size ≤ length tables → term_size ≤ length terms → Sections p (word_at tables) (word_at terms)
      → Arranged p (word_at tables) → Holds p tables terms
  unfolding Holds table_words
  sections_holds bt bs nt ns s o =
      let words : Spells (word_at tables) 0 (base_words p ++ order_words p) =
      spells_join (word_at tables) 0 (base_words p) (order_words p) (sections_base p l (word_at tables) (word_at terms) s) (rw (length_base_words p l, zero-add) (arranged_spells p l (word_at tables) o)) in
      let a = spells_at (word_at tables) 0 (base_words p ++ order_words p) words 0 in
      let b = spells_at (word_at terms) 0 (term_words p) (sections_terms p l (word_at tables) (word_at terms) s) 0 in
      let room : 4 * length (table_words p) ≤ length tables = omega (arith, length_table_words p l) in
      let space : 4 * length (term_words p) ≤ length terms = omega (arith, length_term_words p l) in (
        rw (length_table_words p l) at (words_determine (table_words p) tables bt room (λ j u. rw zero-add at (a j u))),
        rw (length_term_words p l) at (words_determine (term_words p) terms bs space (λ j u. rw zero-add at (b j u))),
      )

pub read_back : (p : Plan) (tables terms : List ℕ) → T (roomy p) → Holds p tables terms → plan_of_tables tables terms ≡ p
unfolding plan_of_tables
read_back p tables terms h e =
    let l = roomy_parts p h in
    plan_back p l (word_at tables) (word_at terms) (holds_sections p l tables terms e)

-- Two plans with the same tables are one.
pub loading_injective :
    (p q : Plan) (tables terms : List ℕ) → T (roomy p) → T (roomy q) → Holds p tables terms → Holds q tables terms → p ≡ q
loading_injective p q tables terms hp hq ep eq = sym (read_back p tables terms hp ep) ∙ read_back q tables terms hq eq
