-- The words of a lawful plan's tables, section by section: each section has its full length, so the next begins where the layout says.
use Prim.Native.Nat.{ℕ, suc, ◌+◌, ◌*◌, ◌-◌, ◌≤◌}
use mathlib.Core.Path.{◌≡◌, refl, ap₂, ◌∙◌}
use mathlib.Core.Bool.{true}
use mathlib.Core.List.{List, [], ◌∷◌, ◌++◌, map}
use native.Mathlib.Nat.{zero-add}
use native.Mathlib.Omega.{arith}
use lib.ListN.{length, length-append, length-map}
use Rattle.plpb.specs.Lists.{row}
use Rattle.plpb.specs.Plan.{Term, Rule, Clause, Plan, lock_of}
use Rattle.plpb.specs.Tallies.{rules_of}
use Rattle.order.specs.Order.{order, run_end, place_word}
use Rattle.order.proofs.Tested.{order_length}
use Rattle.words.specs.Words.{unsigned}
use Rattle.format.specs.Limits.{term_count}
use Rattle.format.specs.Tables.{coefficient, pad_to, pad_with, clause_entries, rule_entries, term_entries, all_terms, lock_word, base_words, run_ends, order_words, table_words, term_words}
use Rattle.format.specs.Good.{zeros_from}
use Rattle.format.proofs.Lists.{length_row, length_concat, length_spread}
use Rattle.format.proofs.Lawful.{RoomyPlan}
use Rattle.format.proofs.Naming.{numbers_within_lem}
use Rattle.format.proofs.Spells.{Spells, spells_left, spells_right, spells_join, spells_zeros, zeros_spell, spells_row, row_spells, length_pad_to}
use Rattle.format.specs.Layout.{base_word_count, clause_word_count, clauses_at, end_room, lock_at, rule_word_count, rules_at, table_word_count, term_room, term_word_count}

-- How long the sections are.
pub length_clause_entries : (first : ℕ) (cs : List Clause) → length (clause_entries first cs) ≡ 2 * length cs
unfolding clause_entries
length_clause_entries first [] = refl
length_clause_entries first (c ∷ cs) = omega (arith, length_clause_entries (first + length c) cs)

pub length_rule_entries : (first : ℕ) (rs : List Rule) → length (rule_entries first rs) ≡ 5 * length rs
unfolding rule_entries
length_rule_entries first [] = refl
length_rule_entries first (r ∷ rs) = omega (arith, length_rule_entries (first + length r.terms) rs)

pub length_term_entries : (ts : List Term) → length (term_entries ts) ≡ 2 * length ts
unfolding term_entries
length_term_entries [] = refl
length_term_entries (t ∷ ts) = omega (arith, length_term_entries ts)

pub length_all_terms : (p : Plan) → length (all_terms p) ≡ term_count p
unfolding all_terms term_count
length_all_terms p = length_concat (λ r. r.terms) (rules_of p)

-- What the two tables say, section by section.
pub record Sections (p : Plan) (f g : ℕ → ℕ) : Type 0 where
  pub variables : f 0 ≡ p.variables
  pub clause_count : f 1 ≡ length p.clauses
  pub rule_count : f 2 ≡ length (rules_of p)
  pub terms : f 3 ≡ term_count p
  pub objective : (x : ℕ) → 1 ≤ x → x ≤ 512 → f (3 + x) ≡ unsigned (coefficient p.objective x)
  pub lock : (x : ℕ) → 1 ≤ x → x ≤ 512 → f (lock_at x) ≡ lock_word (lock_of p x)
  pub clause_entry : Spells f clauses_at (clause_entries 0 p.clauses)
  pub rule_entry : Spells f rules_at (rule_entries 0 (rules_of p))
  pub term_entry : Spells g 0 (term_entries (all_terms p))
  pub clause_rest : zeros_from f (clauses_at + 2 * f 1) (clause_word_count - 2 * f 1) ≡ true
  pub rule_rest : zeros_from f (rules_at + 5 * f 2) (rule_word_count - 5 * f 2) ≡ true
  pub term_rest : zeros_from g (2 * f 3) (term_word_count - 2 * f 3) ≡ true

-- A padded section: its words, then zeros.
module _ (f : ℕ → ℕ) (i k n : ℕ) (ws : List ℕ) (l : length ws ≡ n) where
  pub pad_words : Spells f i (pad_to k ws) → Spells f i ws
  unfolding pad_with
  pad_words s = spells_left f i ws _ s

  pub pad_rest : Spells f i (pad_to k ws) → zeros_from f (i + n) (k - n) ≡ true
  unfolding pad_with
  pad_rest s = rw l at (spells_zeros f (i + length ws) (k - length ws) (spells_right f i ws _ s))

  pub pad_whole : Spells f i ws → zeros_from f (i + n) (k - n) ≡ true → Spells f i (pad_to k ws)
  unfolding pad_with
  pad_whole s z = spells_join f i ws _ s (zeros_spell f (i + length ws) (k - length ws) (rw l z))

module _ (p : Plan) (l : RoomyPlan p) where
  abbrev objective_words : List ℕ
  objective_words = map (λ x. unsigned (coefficient p.objective x)) (row 1 512)

  abbrev clause_words : List ℕ
  clause_words = pad_to clause_word_count (clause_entries 0 p.clauses)

  abbrev rule_words : List ℕ
  rule_words = pad_to rule_word_count (rule_entries 0 (rules_of p))

  abbrev lock_words : List ℕ
  lock_words = map (λ x. lock_word (lock_of p x)) (row 1 512)

  -- What stands behind the objective, and behind the clauses.
  abbrev behind_objective : List ℕ
  behind_objective = clause_words ++ (rule_words ++ lock_words)

  length_objective : length objective_words ≡ 512
  length_objective = length-map (row 1 512) (λ x. unsigned (coefficient p.objective x)) ∙ length_row 1 512

  length_locks : length lock_words ≡ 512
  length_locks = length-map (row 1 512) (λ x. lock_word (lock_of p x)) ∙ length_row 1 512

  length_clause_words : length clause_words ≡ clause_word_count
  length_clause_words = length_pad_to clause_word_count _ (omega (arith, length_clause_entries 0 p.clauses, l.clause_count))

  length_rule_words : length rule_words ≡ rule_word_count
  length_rule_words = length_pad_to rule_word_count _ (omega (arith, length_rule_entries 0 (rules_of p), l.rule_count))

  pub length_base_words : length (base_words p) ≡ base_word_count
  unfolding base_words
  length_base_words =
      omega
      (arith, length-append objective_words behind_objective, length-append clause_words (rule_words ++ lock_words), length-append rule_words lock_words, length_objective, length_clause_words, length_rule_words, length_locks)

  pub length_run_ends : length (run_ends p) ≡ suc p.variables
  unfolding run_ends
  length_run_ends = length_spread (run_end p) 0 (suc p.variables)

  pub length_order_entries : length (map (place_word p) (order p)) ≡ term_count p
  length_order_entries = length-map (order p) (place_word p) ∙ order_length p (numbers_within_lem p l)

  pub length_order_words : length (order_words p) ≡ end_room + term_room
  unfolding order_words
  length_order_words =
      length-append (pad_to end_room (run_ends p)) (pad_to term_room (map (place_word p) (order p)))
      ∙ ap₂ ◌+◌ (length_pad_to end_room (run_ends p) (omega (arith, length_run_ends, l.high)))
      (length_pad_to term_room (map (place_word p) (order p)) (omega (arith, length_order_entries, l.terms)))

  pub length_table_words : length (table_words p) ≡ table_word_count
  unfolding table_words
  length_table_words = omega (arith, length-append (base_words p) (order_words p), length_base_words, length_order_words)

  pub length_term_words : length (term_words p) ≡ term_word_count
  unfolding term_words
  length_term_words = length_pad_to term_word_count _ (omega (arith, length_term_entries (all_terms p), length_all_terms p, l.terms))

  module _ (f g : ℕ → ℕ) where
    -- A word for each variable, from place i + 1 on.
    dense_at : (h : ℕ → ℕ) (i : ℕ) → Spells f (suc i) (map h (row 1 512)) → (x : ℕ) → 1 ≤ x → x ≤ 512 → f (i + x) ≡ h x
    dense_at h i s x a b =
        let m : suc i + (x - 1) ≡ i + x = omega arith in
        let n : 1 + (x - 1) ≡ x = omega arith in
        rw (m, n) at (spells_row f h (suc i) 1 512 s (x - 1) (omega arith))

    dense_all : (h : ℕ → ℕ) (i : ℕ) → ((x : ℕ) → 1 ≤ x → x ≤ 512 → f (i + x) ≡ h x) → Spells f (suc i) (map h (row 1 512))
    dense_all h i e =
        row_spells f h (suc i) 1 512 (λ j b. let m : i + (1 + j) ≡ suc i + j = omega arith in rw m at (e (1 + j) (omega arith) (omega arith)))

    pub spelt_sections : Spells f 0 (base_words p) → Spells g 0 (term_words p) → Sections p f g
    unfolding Spells base_words term_words
    spelt_sections s t =
        let body : Spells f 4 (objective_words ++ behind_objective) = s.1.1.1.1 in
        let rest = rw length_objective at (spells_right f 4 objective_words behind_objective body) in
        let cs = spells_left f clauses_at clause_words (rule_words ++ lock_words) rest in
        let last = rw length_clause_words at (spells_right f clauses_at clause_words (rule_words ++ lock_words) rest) in
        let rs = spells_left f rules_at rule_words lock_words last in
        let ks = rw length_rule_words at (spells_right f rules_at rule_words lock_words last) in
        let n₁ : f 1 ≡ length p.clauses = s.1.0 in
        let n₂ : f 2 ≡ length (rules_of p) = s.1.1.0 in
        let n₃ : f 3 ≡ term_count p = s.1.1.1.0 in
        record {
          variables = s.0;
          clause_count = n₁;
          rule_count = n₂;
          terms = n₃;
          objective = dense_at (λ x. unsigned (coefficient p.objective x)) 3 (spells_left f 4 objective_words behind_objective body);
          lock = dense_at (λ x. lock_word (lock_of p x)) (lock_at 0) ks;
          clause_entry = pad_words f clauses_at clause_word_count _ _ refl cs;
          rule_entry = pad_words f rules_at rule_word_count _ _ refl rs;
          term_entry = pad_words g 0 term_word_count _ _ refl t;
          clause_rest = pad_rest f clauses_at clause_word_count (2 * f 1) _ (omega (arith, length_clause_entries 0 p.clauses)) cs;
          rule_rest = pad_rest f rules_at rule_word_count (5 * f 2) _ (omega (arith, length_rule_entries 0 (rules_of p))) rs;
          term_rest = rw zero-add at (pad_rest g 0 term_word_count (2 * f 3) _ (omega (arith, length_term_entries (all_terms p), length_all_terms p)) t);
        }

    pub sections_base : Sections p f g → Spells f 0 (base_words p)
    unfolding Spells base_words
    sections_base s =
        let n₁ : length (clause_entries 0 p.clauses) ≡ 2 * f 1 = omega (arith, length_clause_entries 0 p.clauses, s.clause_count) in
        let n₂ : length (rule_entries 0 (rules_of p)) ≡ 5 * f 2 = omega (arith, length_rule_entries 0 (rules_of p), s.rule_count) in
        let cs = pad_whole f clauses_at clause_word_count (2 * f 1) _ n₁ s.clause_entry s.clause_rest in
        let rs = pad_whole f rules_at rule_word_count (5 * f 2) _ n₂ s.rule_entry s.rule_rest in
        let ks = dense_all (λ x. lock_word (lock_of p x)) (lock_at 0) s.lock in
        let last = spells_join f rules_at rule_words lock_words rs (rw length_rule_words ks) in
        let rest = spells_join f clauses_at clause_words (rule_words ++ lock_words) cs (rw length_clause_words last) in (
          s.variables,
          (
            s.clause_count,
            (
              s.rule_count,
              (
                s.terms,
                spells_join f 4 objective_words behind_objective (dense_all (λ x. unsigned (coefficient p.objective x)) 3 s.objective) (rw length_objective rest),
              ),
            ),
          ),
        )

    pub sections_terms : Sections p f g → Spells g 0 (term_words p)
    unfolding term_words
    sections_terms s =
        let n : length (term_entries (all_terms p)) ≡ 2 * f 3 = omega (arith, length_term_entries (all_terms p), length_all_terms p, s.terms) in
        pad_whole g 0 term_word_count (2 * f 3) _ n s.term_entry (rw zero-add s.term_rest)
