-- Good tables are those of the plan read back from them, which is lawful: the chains make its parts follow one another as entries say.
use Prim.Native.Nat.{ℕ, zero, suc, ◌+◌, ◌*◌, ◌≤◌, ◌<◌}
use mathlib.Core.Path.{◌≡◌, refl, sym, ap, ◌∙◌}
use mathlib.Core.Bool.{true}
use mathlib.Core.List.{map, map-map}
use mathlib.Core.Logic.{◌⊎◌, inl, inr, ⊎_elim}
use native.Mathlib.Decide.{dec_le}
use native.Mathlib.Nat.{zero-add, sub-zero, lt_of_not-le}
use native.Mathlib.Numerals.{add-one}
use native.Mathlib.Omega.{arith}
use lib.IntN.{ℤ, nat_abs}
use lib.ListN.{length}
use Rattle.plpb.specs.Lists.{row}
use Rattle.plpb.specs.Plan.{lock_of, rising}
use Rattle.plpb.specs.Tallies.{rules_of}
use Rattle.words.specs.Words.{signed, unsigned}
use Rattle.words.proofs.Words.{unsigned_signed}
use Rattle.format.specs.Limits.{lock_terms, rule_lawful, term_count}
use Rattle.format.specs.Tables.{coefficient, clause_entries, rule_entries, term_entries, all_terms, term_of, rule_of, clause_of, objective_of, lock_word, locks_of, plan_in, sparse, named, is_some}
use Rattle.format.proofs.Lists.{length_spread, all_row}
use Rattle.format.proofs.Bounds.{bounds_tested, bounds_meant}
use Rattle.format.proofs.Lawful.{LawfulTerms, rule_whole, clause_lawful, clause_whole, LawfulPlan}
use Rattle.format.specs.Good.{chain_from}
use Rattle.format.proofs.Spells.{Spells}
use Rattle.format.proofs.Sections.{Sections, length_all_terms}
use Rattle.format.proofs.Entries.{Entry, entry_join}
use Rattle.format.proofs.WordBounds.{word_limit}
use Rattle.format.proofs.Objective.{sparse_rising, sparse_within, sparse_coefficient, coefficient_above}
use Rattle.format.proofs.Locks.{free_beyond, lock_coefficient, small_signed, terms_back}
use Rattle.format.proofs.Chains.{chain_link, chain_rest, chain_concat}
use Rattle.format.proofs.Sound.{Sound, clause_within, rule_bounds, rule_sound}
use Rattle.format.specs.Layout.{clause_count_at, clause_first_at, clauses_at, lock_at, rule_count_at, rule_first_at, rule_lower_at, rule_upper_at}

le_or_lt : (a b : ℕ) → (a ≤ b) ⊎ (b < a)
le_or_lt a b = elim (dec_le a b) [ yes l ↦ inl l | no n ↦ inr (lt_of_not-le n) ]

-- The words of a plan's parts, when those parts are read back from the words.
pub terms_again : (g : ℕ → ℕ) → ((i : ℕ) → g i < word_limit) → (i k : ℕ) → Spells g (2 * i) (term_entries (map (term_of g) (row i k)))
unfolding Spells term_entries term_of row
terms_again g w i zero = tt
terms_again g w i (suc k) =
    let m : suc (suc (2 * i)) ≡ 2 * suc i = omega arith in
    (refl, (rw (add-one (2 * i)) (sym (unsigned_signed _ (w (suc (2 * i))))), rw m (terms_again g w (suc i) k)))

module _ (f g : ℕ → ℕ) (wf : (i : ℕ) → f i < word_limit) (wg : (i : ℕ) → g i < word_limit) (s : Sound f g) where
  length_clause : (c : ℕ) → length (clause_of f g c) ≡ f (clause_count_at c)
  unfolding clause_of
  length_clause c = length_spread (rule_of f g) (f (clause_first_at c)) (f (clause_count_at c))

  length_rule : (r : ℕ) → length (rule_of f g r).terms ≡ f (rule_count_at r)
  unfolding rule_of
  length_rule r = length_spread (term_of g) (f (rule_first_at r)) (f (rule_count_at r))

  clauses_again :
      (at i k : ℕ) → at ≤ f 2 → chain_from (λ c. f (clause_first_at c)) (λ c. f (clause_count_at c)) (f 2) at i k ≡ true
      → Spells f (clause_first_at i) (clause_entries at (map (clause_of f g) (row i k)))
  unfolding Spells clause_entries row
  clauses_again at i zero r c = tt
  clauses_again at i (suc k) r c =
      let a : suc (clause_first_at i) ≡ clause_count_at i = omega arith in
      let b : suc (suc (clause_first_at i)) ≡ clauses_at + 2 * suc i = omega arith in
      let l = chain_link _ _ (f 2) at i k r c in
      let n : length (clause_of f g i) ≡ f (clause_count_at i) = length_clause i in
      (l.start, (rw (a, n), rw (b, n) (clauses_again (at + f (clause_count_at i)) (suc i) k l.fits (chain_rest _ _ (f 2) at i k c))))

  entry_again : (i : ℕ) → i < f 2 → Entry f i (f (rule_first_at i)) (rule_of f g i)
  unfolding rule_of
  entry_again i l =
      let m = bounds_meant _ _ _ (bounds_tested _ _ _ (rule_bounds f g s i l)) in
      record {
        start = refl;
        count = sym (length_rule i);
        mode_word = sym m.mode_back;
        lower = sym (ap unsigned m.lower_back ∙ unsigned_signed _ (wf (rule_lower_at i)));
        upper = sym (ap unsigned m.upper_back ∙ unsigned_signed _ (wf (rule_upper_at i)));
      }

  rules_again :
      (at i k : ℕ) → at ≤ f 3 → i + k ≤ f 2 → chain_from (λ r. f (rule_first_at r)) (λ r. f (rule_count_at r)) (f 3) at i k ≡ true
      → Spells f (rule_first_at i) (rule_entries at (map (rule_of f g) (row i k)))
  unfolding row Spells rule_entries
  rules_again at i zero r b c = tt
  rules_again at i (suc k) r b c =
      let l = chain_link _ _ (f 3) at i k r c in
      let rest = rules_again (at + f (rule_count_at i)) (suc i) k l.fits (omega arith) (chain_rest _ _ (f 3) at i k c) in
      entry_join f i at (rule_of f g i) (map (rule_of f g) (row (suc i) k)) (rw l.start at (entry_again i (omega arith))) (rw (length_rule i) rest)

  -- All rules and all terms of the plan read back.
  rules_all : rules_of (plan_in f g) ≡ map (rule_of f g) (row 0 (f 2))
  unfolding rules_of plan_in clause_of
  rules_all =
      chain_concat _ _ (f 2) (rule_of f g) 0 0 (f 1) (omega arith) s.clause_chain ∙ ap (λ n. map (rule_of f g) (row 0 n)) (sub-zero (f 2))

  terms_all : all_terms (plan_in f g) ≡ map (term_of g) (row 0 (f 3))
  unfolding all_terms rule_of
  terms_all =
      rw (rules_all, map-map (λ r. r.terms) (rule_of f g) (row 0 (f 2)))
      (chain_concat _ _ (f 3) (term_of g) 0 0 (f 2) (omega arith) s.rule_chain ∙ ap (λ n. map (term_of g) (row 0 n)) (sub-zero (f 3)))

  rule_count_lem : length (rules_of (plan_in f g)) ≡ f 2
  rule_count_lem = ap length rules_all ∙ length_spread (rule_of f g) 0 (f 2)

  term_count_lem : term_count (plan_in f g) ≡ f 3
  term_count_lem = sym (length_all_terms (plan_in f g)) ∙ ap length terms_all ∙ length_spread (term_of g) 0 (f 3)

  clause_count_lem : length (plan_in f g).clauses ≡ f 1
  unfolding plan_in
  clause_count_lem = length_spread (clause_of f g) 0 (f 1)

  -- The objective.
  abbrev h : ℕ → ℤ
  h x = signed (f (3 + x))

  objective_sparse : objective_of f ≡ sparse h 0 (f 0)
  unfolding objective_of sparse named is_some
  objective_sparse = refl

  objective_lawful : LawfulTerms (f 0) (objective_of f)
  unfolding rising
  objective_lawful = rw objective_sparse
      (record { rise = sparse_rising h 0 0 (f 0) (omega arith); within = sparse_within h (f 0) 0 (f 0) (zero-add (f 0)) s.cost })

  cost_again : (x : ℕ) → 1 ≤ x → x ≤ 512 → f (3 + x) ≡ unsigned (coefficient (objective_of f) x)
  unfolding unsigned
  cost_again x a b =
      ⊎_elim
      (λ l. rw (objective_sparse, sparse_coefficient h 0 (f 0) x a (omega arith)) (sym (unsigned_signed _ (wf (3 + x)))))
      (λ l. s.cost_rest x l b ∙ rw (coefficient_above (f 0) x (objective_of f) objective_lawful.within l))
      (le_or_lt x (f 0))

  -- The locks.
  abbrev w : ℕ → ℤ
  w x = signed (f (lock_at x))

  locked_terms : lock_terms (plan_in f g) ≡ sparse w 0 (f 0)
  unfolding plan_in locks_of
  locked_terms =
      terms_back w (λ x. f (lock_at x)) 0 (f 0)
      (λ x a b. let k : f (lock_at x) ≤ 2 = s.lock x a (omega arith) in (small_signed (f (lock_at x)) k, k))

  locks_lawful : LawfulTerms (f 0) (lock_terms (plan_in f g))
  unfolding rising
  locks_lawful = rw locked_terms
      (record {
        rise = sparse_rising w 0 0 (f 0) (omega arith);
        within = sparse_within w (f 0) 0 (f 0) (zero-add (f 0)) (λ x a b. omega (arith, ap nat_abs (small_signed (f (lock_at x)) (s.lock x a b)), s.lock x a b));
      })

  lock_here : (x : ℕ) → 1 ≤ x → x ≤ f 0 → f (lock_at x) ≡ lock_word (lock_of (plan_in f g) x)
  unfolding plan_in
  lock_here x a b =
      ap nat_abs
      (sym (small_signed (f (lock_at x)) (s.lock x a b)) ∙ sym (sparse_coefficient w 0 (f 0) x a (omega arith))
      ∙ ap (λ ts. coefficient ts x) (sym locked_terms) ∙ lock_coefficient (plan_in f g) x a b)

  lock_again : (x : ℕ) → 1 ≤ x → x ≤ 512 → f (lock_at x) ≡ lock_word (lock_of (plan_in f g) x)
  unfolding lock_word plan_in
  lock_again x a b =
      ⊎_elim (λ l. lock_here x a l) (λ l. s.lock_rest x l b ∙ sym (ap lock_word (free_beyond (plan_in f g) x l))) (le_or_lt x (f 0))

  clause_sound : (c : ℕ) → c < f 1 → clause_lawful (f 0) (clause_of f g c) ≡ true
  unfolding clause_of
  clause_sound c l =
      let (some, fits) = clause_within f g s c l in
      clause_whole (f 0) (clause_of f g c) (omega (arith, length_clause c))
      (all_row (rule_lawful (f 0)) (rule_of f g) (f (clause_first_at c)) (f (clause_count_at c)) (λ r a b. rule_whole (f 0) (rule_of f g r) (rule_sound f g s r (omega arith))))

  -- The plan is lawful, and its tables are these.
  pub plan_sound : LawfulPlan (plan_in f g)
  unfolding plan_in
  plan_sound = record {
    low = s.some;
    high = s.variables;
    objective = objective_lawful;
    locks = locks_lawful;
    clauses = all_row (clause_lawful (f 0)) (clause_of f g) 0 (f 1) (λ c l u. clause_sound c (omega arith));
    clause_count = omega (arith, clause_count_lem, s.clauses);
    rule_count = omega (arith, rule_count_lem, s.rules);
    terms = omega (arith, term_count_lem, s.terms);
  }

  pub plan_sections : Sections (plan_in f g) f g
  unfolding plan_in
  plan_sections = record {
    variables = refl;
    clause_count = sym clause_count_lem;
    rule_count = sym rule_count_lem;
    terms = sym term_count_lem;
    objective = cost_again;
    lock = lock_again;
    clause_entry = clauses_again 0 0 (f 1) (omega arith) s.clause_chain;
    rule_entry = rw rules_all (rules_again 0 0 (f 2) (omega arith) (omega arith) s.rule_chain);
    term_entry = rw terms_all (terms_again g wg 0 (f 3));
    clause_rest = s.clause_rest;
    rule_rest = s.rule_rest;
    term_rest = s.term_rest;
  }
